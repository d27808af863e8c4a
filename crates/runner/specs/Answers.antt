-- What the step call answers and leaves of the marking, for every input; and the numbers of 01's table for each answer.
use Rattle.std.specs.Prelude.{ℕ, Bool, true, false, leb, length, Result, Ok, Err}
use Rattle.std.proofs.Math.Option.{Option, none, some}
use Rattle.text.specs.Bytes.{Text}
use Rattle.text.specs.Lines.{Outcome, got, bad}
use Rattle.eos.specs.Model as eos
use Rattle.eos.specs.Firing.{Written, step_of, after}
use Rattle.eos.specs.Causes.{Refusal, Cause, refusal}
use Rattle.model.specs.Limits.{room_limit, longest}
use Rattle.model.specs.Held.{model_of}
use Rattle.model.specs.declared.Model.{Model}
use Rattle.marking.specs.Held.{Sizes, hold_marking, tokens_of, has_room}
use Rattle.marking.specs.declared.Marking.{Marking}
use Rattle.reader.specs.Reading.{bounds}
use Rattle.marking.specs.Sizes.{sizes_for}
use Rattle.reader.specs.Answers.{triple_of, unread_triple, faulty, held_in}
use Rattle.reader.specs.declared.ReadRefusal.TheVariants.{TooLong, NotHeld}
use Rattle.step.specs.Reading.{read_step}
use Rattle.step.specs.Verdict.{turned_by, turned_triple}
use Rattle.runner.specs.declared.StepRefusal.{StepRefusal}
use Rattle.runner.specs.declared.StepRefusal.TheVariants.{Unread, Turned}

-- 01's table: the number, and what stands beside it
abbrev pub unfired_triple : StepRefusal → Refusal
unfired_triple (Unread e) = unread_triple e
unfired_triple (Turned r) = turned_triple r

abbrev pub step_triple : {A : Type 0} → Result A StepRefusal → Refusal
step_triple a = triple_of unfired_triple a

-- the bytes that a step used; a refused step used none
abbrev pub used_by : Result ℕ StepRefusal → ℕ
used_by (Ok n) = n
used_by (Err e) = 0

-- what a step answers, the bytes that its lines used or why it is not fired, and the marking after it
pub record Stepped : Type 0 where
  pub answer : Result ℕ StepRefusal
  pub marking : Marking

-- what a step's text brings about on a marking: it fires, with the bytes used and the marking after, or is turned down
pub data Tried : Type 0 where
  fires : ℕ → eos.Marking → Tried
  stops : StepRefusal → Tried

-- a step that was read: the first of the causes 8 to 12, or the marking after in canonical order
unfoldable pub step_judged : eos.Marking → Written → ℕ → Option Cause → Tried
step_judged μ w next none = fires next (eos.canonical (after (step_of w) μ))
step_judged μ w next (some c) = stops (Turned (turned_by (length w.taken) c))

-- line by line 2 and 3, lines counted from the step's own `fire` line, which begins the text; then 8 to 12
unfoldable pub read_then : ℕ → eos.Model → eos.Marking → Text → Outcome Written → Tried
read_then room m μ s (got w next) = step_judged μ w next (refusal (has_room room) m w μ)
read_then room m μ s (bad e) = stops (Unread (faulty s e))

-- a marking has its room
unfoldable pub tried : ℕ → eos.Model → Sizes → eos.Marking → Text → Tried
tried room m z μ s = read_then room m μ s (read_step bounds z (length m.events) s 0)

-- a refusal leaves the marking as it was
abbrev pub stays : StepRefusal → Marking → Stepped
stays e k = record { answer = Err e; marking = k }

unfoldable pub stepped : Marking → Tried → Stepped
stepped k (fires next μ) = record { answer = Ok next; marking = hold_marking μ }
stepped k (stops e) = stays e k

-- a step on a held marking of a held model, without the held test
unfoldable pub held_step : ℕ → Model → Marking → Text → Stepped
held_step room m k s = stepped k (tried room (model_of m) (sizes_for m) (tokens_of (sizes_for m) k) s)

unfoldable pub where_held : Bool → ℕ → Model → Marking → Text → Stepped
where_held true room m k s = held_step room m k s
where_held false room m k s = stays (Unread NotHeld) k

-- a step on a marking with its room: 1, 14, then as above
unfoldable pub stepping_in : ℕ → Model → Marking → Text → Stepped
stepping_in room m k s = elim (leb (length s) longest) [ true ↦ where_held (held_in room m k) room m k s | false ↦ stays (Unread TooLong) k ]

-- the step call
abbrev pub stepping : Model → Marking → Text → Stepped
stepping m k s = stepping_in room_limit m k s
