-- Reading and printing steps computes: the two steps of 01's listing ("One listing, whole"), a count over 01's limit, which the rule
-- takes, and a black token.
use Prim.Native.Nat.{ℕ}
use mathlib.Core.Path.{◌≡◌, refl}
use mathlib.Core.List.{List, [], ◌∷◌}
use Rattle.text.specs.Bytes.{Text, bytes, meet, far}
use Rattle.text.specs.Number.{made, both, either, literal, digits, number_of, number, ended, item}
use Rattle.text.specs.Lists.{stop_of, joined, values, list_end}
use Rattle.text.specs.Lines.{got, bad, fault_at, out_at, then, need, many, judged, behind, read_number}
use Rattle.text.specs.Printed.{decimal_of, decimal, items_text, end_text, texts, number_text, counts_text, token_text}
use Rattle.text.specs.TokenLine.{counts_at, beyond_one, more_than_one, timed, token_form, counts_out, token_out, read_token}
use Rattle.eos.specs.Counted.{Counted, counted}
use Rattle.eos.specs.Model.{NetToken, Lines}
use Rattle.eos.specs.Firing.{Written}
use Rattle.model.specs.Limits.{line_limit, count_limit}
use Rattle.marking.specs.Held.{Sizes}
use Rattle.marking.specs.Printed.{net_token_text, block_text}
use Rattle.marking.specs.Reading.{limits, free, read_net_token, read_block}
use Rattle.step.specs.Reading.{read_taking, read_step}
use Rattle.step.specs.Printed.{step_text}
use Rattle.text.specs.declared.Cause.TheVariants.{Range}

-- two places with two counts each, as in the listing
abbrev listed : Sizes
listed = record { places = 2; size = λ p. 2 }

-- one net-token, by its place, from 0, and its counts
abbrev token : ℕ → List ℕ → Counted NetToken
token p x = counted (record { place = p; inside = x }) 1

abbrev step : ℕ → Lines → Lines → Written
step e taken given = record { event = e; taken = taken; given = given }

abbrev first : Text
first = bytes "fire=1\ntake=1\ntoken=1:1,0\ngive=1\ntoken=2:0,1\n"

abbrev second : Text
second = bytes "fire=1\ntake=1\ntoken=1:0,0\ngive=1\ntoken=2:0,0\n"

abbrev large : Text
large = bytes "fire=2\ntake=0\ngive=1\ntoken=2:70000,0\n"

pub step-cases :
    (read_step (limits line_limit count_limit) listed 2 first 0 ≡ got (step 0 (token 0 (1 ∷ 0 ∷ []) ∷ []) (token 1 (0 ∷ 1 ∷ []) ∷ [])) 45)
    × (read_step free listed 2 first 0 ≡ got (step 0 (token 0 (1 ∷ 0 ∷ []) ∷ []) (token 1 (0 ∷ 1 ∷ []) ∷ [])) 45)
    × (read_step (limits line_limit count_limit) listed 2 second 0 ≡ got (step 0 (token 0 (0 ∷ 0 ∷ []) ∷ []) (token 1 (0 ∷ 0 ∷ []) ∷ [])) 45)
    × (read_step free listed 2 second 0 ≡ got (step 0 (token 0 (0 ∷ 0 ∷ []) ∷ []) (token 1 (0 ∷ 0 ∷ []) ∷ [])) 45)
    × (read_step (limits line_limit count_limit) listed 2 large 0 ≡ bad (fault_at Range 21 29))
    × (read_step free listed 2 large 0 ≡ got (step 1 [] (token 1 (70000 ∷ 0 ∷ []) ∷ [])) 37)
unfolding read_taking read_step read_block read_net_token read_token token_form counts_at timed more_than_one beyond_one read_number behind judged many need then list_end values joined item ended stop_of
    number number_of digits literal both either made far meet token_out counts_out out_at decimal decimal_of
step-cases = (refl, refl, refl, refl, refl, refl)

pub printed-cases :
    (step_text (step 0 (token 0 (1 ∷ 0 ∷ []) ∷ []) (token 1 (0 ∷ 1 ∷ []) ∷ [])) ≡ first)
    × (step_text (step 0 (token 0 (0 ∷ 0 ∷ []) ∷ []) (token 1 (0 ∷ 0 ∷ []) ∷ [])) ≡ second)
    × (step_text (step 1 [] (token 2 [] ∷ [])) ≡ bytes "fire=2\ntake=0\ngive=1\ntoken=3:\n")
unfolding step_text block_text net_token_text number_text counts_text token_text texts end_text items_text stop_of decimal decimal_of
printed-cases = (refl, refl, refl)
