-- The definitions compute: the two steps of 01's listing ("One listing, whole"), each tried on the listing's start from its text. The
-- first fires, the second is 9 beside 1. And the run over the listing's trace, on the held model and the held start.
use Prim.Native.Nat.{ℕ}
use mathlib.Core.Path.{◌≡◌, refl}
use mathlib.Core.List.{List, [], ◌∷◌}
use Rattle.text.specs.Bytes.{bytes, meet, far}
use Rattle.text.specs.Number.{made, both, either, literal, digits, number_of, number, ended, item}
use Rattle.text.specs.Lists.{stop_of, joined, values, list_end}
use Rattle.text.specs.Lines as lines
use Rattle.text.specs.Lines.{then, need, many, behind, read_number, read_head}
use Rattle.text.specs.TokenLine.{counts_at, beyond_one, more_than_one, timed, token_form, read_token}
use Rattle.eos.specs.Model.{NetToken, Marking, Transition, move, idle, Model, canonical}
use Rattle.eos.specs.Counted.{fits}
use Rattle.eos.specs.Firing.{outer, inner, outer_of, inner_of, outer_taken, outer_given, inner_taken, inner_given}
use Rattle.eos.specs.Causes.{first, unless, at, causes, refusal}
use Rattle.text.specs.Answers.{padded}
use Rattle.text.specs.Repeat.{fill}
use Rattle.model.specs.Limits.{room_limit}
use Rattle.model.specs.Held.{hold_plant, hold_net, hold_nets, hold_event, hold_events, tabled, model_of, net_of, event_of}
use Rattle.model.specs.Rules.{under, takes_part, right_act}
use Rattle.model.specs.Acts.{held_act}
use Rattle.model.specs.Test.{empty_past, held_types, held_moves, held_net, held_nets, held_event, empty_event, held_events, held_model}
use Rattle.marking.specs.Held.{sizes_of, hold_marking, tokens_of, held_token, held_entries}
use Rattle.marking.specs.Sizes.{sizes_in}
use Rattle.reader.specs.Answers.{held_in}
use Rattle.marking.specs.Reading.{read_net_token, read_block}
use Rattle.step.specs.Reading.{read_taking, read_step}
use Rattle.runner.specs.Answers.{fires, stops, step_judged, read_then, tried}
use Rattle.runner_trace.specs.Running.{ran, onward, run_from, headed, run_where_held, running}
use Rattle.std.specs.Prelude.{Err}
use Rattle.runner.specs.declared.StepRefusal.TheVariants.{Turned}
use Rattle.step.specs.declared.Refusal.TheVariants.{Short}

abbrev along : Transition
along = record { pre = 1 ∷ 0 ∷ []; post = 0 ∷ 1 ∷ [] }

abbrev listing : Model
listing = record {
  types = 1 ∷ 1 ∷ [];
  moves = along ∷ [];
  nets = record { size = 2; transitions = along ∷ [] } ∷ [];
  events = record { act = move 0; sync = (1 ∷ []) ∷ [] } ∷ record { act = idle 1; sync = (1 ∷ []) ∷ [] } ∷ [];
}

-- a net-token by its place, from 0, and its counts
abbrev token : ℕ → List ℕ → NetToken
token p x = record { place = p; inside = x }

abbrev start : Marking
start = canonical (token 0 (1 ∷ 0 ∷ []) ∷ token 0 (0 ∷ 0 ∷ []) ∷ [])

pub step-cases :
    (tried room_limit listing (sizes_of listing) start (bytes "fire=1\ntake=1\ntoken=1:1,0\ngive=1\ntoken=2:0,1\n")
    ≡ fires 45 (token 0 (0 ∷ 0 ∷ []) ∷ token 1 (0 ∷ 1 ∷ []) ∷ []))
    × (tried room_limit listing (sizes_of listing) start (bytes "fire=1\ntake=1\ntoken=1:0,0\ngive=1\ntoken=2:0,0\n") ≡ stops (Turned (Short 1)))
unfolding tried read_then step_judged read_taking read_step read_block read_net_token read_token token_form counts_at timed more_than_one beyond_one read_number behind lines.judged many need then list_end values joined item
    ended stop_of number number_of digits literal both either made far meet fits refusal causes first unless at outer_taken outer_given inner_taken inner_given outer inner outer_of inner_of
step-cases = (refl, refl)

-- the run over the listing's trace: one step fires, and the second stops it
pub run-case :
    running (hold_plant (under 1 listing)) (hold_marking start)
    (bytes "run=1\nfire=1\ntake=1\ntoken=1:1,0\ngive=1\ntoken=2:0,1\nfire=1\ntake=1\ntoken=1:0,0\ngive=1\ntoken=2:0,0\n")
    ≡ ran 1 51 (Err (Turned (Short 1))) (hold_marking (token 0 (0 ∷ 0 ∷ []) ∷ token 1 (0 ∷ 1 ∷ []) ∷ []))
unfolding running run_where_held headed run_from onward held_in held_model held_types held_moves held_nets held_net held_events held_event empty_event held_act right_act empty_past
    takes_part held_entries held_token hold_plant hold_net hold_nets hold_event hold_events tabled fill padded hold_marking model_of net_of event_of tokens_of sizes_in
    tried read_then step_judged read_taking read_step read_block read_net_token read_token token_form counts_at timed more_than_one beyond_one read_head read_number behind lines.judged many need then list_end values joined item
    ended stop_of number number_of digits literal both either made far meet fits refusal causes first unless at outer_taken outer_given inner_taken inner_given outer inner outer_of inner_of
run-case = refl
