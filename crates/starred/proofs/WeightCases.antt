-- The definitions compute: the weight file of 01's listing ("One listing, whole") is read, and the listing's weights are judged; weights
-- that are turned down.
use mathlib.Core.Path.{◌≡◌, refl}
use mathlib.Core.Bool.{true, false}
use mathlib.Core.List.{[], ◌∷◌}
use lib.IntN.{ℤ, pos, negsuc}
use Rattle.text.specs.Bytes.{bytes, meet, far}
use Rattle.text.specs.Number.{made, both, either, literal, digits, number_of, number, negated, signed, ended, item}
use Rattle.text.specs.Lists.{stop_of, joined, values, list_end}
use Rattle.text.specs.Lines.{got, bad, fault_at, fault, out_at, then, need, judged, behind, read_number, read_row, read_head}
use Rattle.text.specs.Printed.{decimal_of, decimal, signed_text, items_text, end_text, texts, number_text, weights_text}
use Rattle.text.specs.Repeat.{many_at}
use Rattle.eos.specs.Model.{Marking, Transition, move, idle, Model}
use Rattle.eos.specs.Firing.{outer, inner, outer_of, inner_of}
use Rattle.eos.specs.Causes.{first, unless, at}
use Rattle.eos.specs.Weights.{Weights, value, weigh, effect, covers, weight_refusal}
use Rattle.model.specs.Limits.{cover_limit}
use Rattle.reader.specs.Reading.{read_end}
use Rattle.keeper.specs.Printed.{weight_file_text}
use Rattle.keeper.specs.Reading.{read_inner, read_weights_at, read_weight_file}
use Rattle.keeper.specs.Answers.{turned_or, judged_weights}
use Rattle.text.specs.declared.Cause.TheVariants.{Syntax, Range}
use Rattle.std.specs.Prelude.{Ok, Err}
use Rattle.keeper.specs.declared.WeightRefusal.TheVariants.{Unbalanced, Weightless}

abbrev onward : Transition
onward = record { pre = 1 ∷ 0 ∷ []; post = 0 ∷ 1 ∷ [] }

abbrev listing : Model
listing = record {
  types = 1 ∷ 1 ∷ [];
  moves = onward ∷ [];
  nets = record { size = 2; transitions = onward ∷ [] } ∷ [];
  events = record { act = move 0; sync = (1 ∷ []) ∷ [] } ∷ record { act = idle 1; sync = (1 ∷ []) ∷ [] } ∷ [];
}

abbrev start : Marking
start = record { place = 0; inside = 1 ∷ 0 ∷ [] } ∷ record { place = 0; inside = 0 ∷ 0 ∷ [] } ∷ []

abbrev weights : ℤ → ℤ → ℤ → Weights
weights a b c = record { outward = a ∷ b ∷ []; inward = (c ∷ c ∷ []) ∷ [] }

-- the listing's file; a weight below 0; a weight of 1,001, which is 3; a missing line, which is 2
pub read-cases :
    (read_weight_file listing (bytes "inv=1\nouter=1,1\ninner=1,1\n") ≡ got (weights (pos 1) (pos 1) (pos 1)) 26)
    × (read_weight_file listing (bytes "inv=1\nouter=-7,0\ninner=1,1\n") ≡ got (weights (negsuc 6) (pos 0) (pos 1)) 27)
    × (read_weight_file listing (bytes "inv=1\nouter=1,1\ninner=1001,1\n") ≡ bad (fault_at Range 16 22))
    × (read_weight_file listing (bytes "inv=1\nouter=1,1\n") ≡ bad (fault Syntax 16))
unfolding read_weights_at read_inner read_end read_head read_number read_row out_at signed_text decimal decimal_of behind judged need then many_at literal both either made far meet
    stop_of ended item values joined list_end digits number_of number negated signed
read-cases = (refl, refl, refl, refl)

-- 01: that model and weights have sum 3 and cover 1; outer weights 1,0 are turned down for event 1; all weights 0, for the last line
pub judged-cases :
    (judged_weights cover_limit listing start (weights (pos 1) (pos 1) (pos 1)) ≡ Ok (record { sum = pos 3; cover = true }))
    × (judged_weights cover_limit listing start (weights (pos 1) (pos 0) (pos 1)) ≡ Err (Unbalanced 1))
    × (judged_weights cover_limit listing start (weights (pos 0) (pos 0) (pos 0)) ≡ Err (Weightless 3))
    × (judged_weights cover_limit listing start (weights (negsuc 0) (negsuc 0) (pos 0)) ≡ Ok (record { sum = negsuc 1; cover = false }))
unfolding judged_weights turned_or weight_refusal first unless at effect value weigh covers outer inner outer_of inner_of
judged-cases = (refl, refl, refl, refl)

-- the printer: the listing's file, and a minus sign in a model with no net
pub printed-cases :
    (weight_file_text (weights (pos 1) (pos 1) (pos 1)) ≡ bytes "inv=1\nouter=1,1\ninner=1,1\n")
    × (weight_file_text (record { outward = negsuc 999 ∷ pos 0 ∷ []; inward = [] }) ≡ bytes "inv=1\nouter=-1000,0\n")
unfolding weight_file_text number_text weights_text texts end_text items_text stop_of signed_text decimal decimal_of
printed-cases = (refl, refl)
