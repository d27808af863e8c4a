-- Demand 3 at 01's listing ("One listing, whole"): its premises hold by computation, its first step fires and its second does not.
use Prim.Native.Nat.{ℕ}
use mathlib.Core.Path.{◌≡◌, refl, ap, sym, ◌∙◌}
use mathlib.Core.Bool.{Bool, true, false}
use mathlib.Core.List.{List, [], ◌∷◌, map}
use lib.IntN.{ℤ, pos}
use lib.ListN.{get_or}
use Rattle.text.specs.Bytes.{Text}
use Rattle.eos.specs.Model as eos
use Rattle.model.specs.Rules.{under}
use Rattle.model.specs.Held.{hold_plant}
use Rattle.model.specs.declared.Model.{Model}
use Rattle.marking.specs.Held.{hold_marking}
use Rattle.marking.specs.declared.Marking.{Marking}
use Rattle.reader.specs.Answers.{model_reading}
use Rattle.keeper.specs.Answers.{weight_checking}
use Rattle.promises.specs.WholeRun.{own_fired, left_by, answers_of, says_fired, Covered, WholeRun}
use Rattle.starred.specs.Texts.{listed_model, listed_weights, first_step, second_step}
use Rattle.promises.proofs.WholeRunLaws.{whole_run}
use Rattle.starred.proofs.Opened.{opened}
use Rattle.std.specs.Prelude.{Ok}

abbrev onward : eos.Transition
onward = record { pre = 1 ∷ 0 ∷ []; post = 0 ∷ 1 ∷ [] }

abbrev plant : eos.Model
plant = record {
  types = 1 ∷ 1 ∷ [];
  moves = onward ∷ [];
  nets = record { size = 2; transitions = onward ∷ [] } ∷ [];
  events = record { act = eos.move 0; sync = (1 ∷ []) ∷ [] } ∷ record { act = eos.idle 1; sync = (1 ∷ []) ∷ [] } ∷ [];
}

-- a net-token by its place, from 0, and its counts
abbrev token : ℕ → List ℕ → eos.NetToken
token p x = record { place = p; inside = x }

abbrev model : Model
model = hold_plant (under 1 plant)

abbrev start : Marking
start = hold_marking (token 0 (0 ∷ 0 ∷ []) ∷ token 0 (1 ∷ 0 ∷ []) ∷ [])

abbrev sum : ℤ
sum = pos 3

abbrev steps : List Text
steps = first_step ∷ second_step ∷ []

accepted : model_reading listed_model ≡ Ok (record { model = model; start = start })
unfolding opened
accepted = refl

passed : weight_checking model start listed_weights ≡ Ok (record { sum = sum; cover = true })
unfolding opened
passed = refl

-- the listing meets the premises of demand 3
pub listing_covered : Covered listed_model listed_weights model start sum
listing_covered = record { accepted = accepted; passed = passed }

-- demand 3 of the listing's two steps
pub listing_run : WholeRun listed_model listed_weights model start sum steps
listing_run = whole_run listed_model listed_weights model start sum listing_covered steps

-- the first step fired and the second did not; after them the racks are those that the listing prints
pub listing-steps :
    (map says_fired (answers_of model start steps) ≡ true ∷ false ∷ [])
    × (left_by model start steps ≡ hold_marking (token 0 (0 ∷ 0 ∷ []) ∷ token 1 (0 ∷ 1 ∷ []) ∷ []))
unfolding opened left_by answers_of
listing-steps = (refl, refl)

-- and so it was in the rule's own run
pub listing_own : own_fired listing_run.loaded steps ≡ true ∷ false ∷ []
listing_own = sym listing_run.fired ∙ listing-steps.0

-- so the premises of demand 3 can be met, with a step that fires
pub covered_exists : (text : Text) × (file : Text) × (m : Model) × (k : Marking) × (sum : ℤ) × (texts : List Text)
    × Covered text file m k sum × (get_or (map says_fired (answers_of m k texts)) 0 false ≡ true)
covered_exists =
    (listed_model, listed_weights, model, start, sum, steps, listing_covered, ap (λ (l : List Bool). get_or l 0 false) listing-steps.0)
