-- What the run over a trace answers and leaves of the marking, for every input.
use Rattle.std.specs.Prelude.{ℕ, zero, suc, ◌+◌, [], ◌∷◌, Bool, true, false, leb, length, drop, Result, Ok, Err}
use Rattle.text.specs.Bytes.{Text, bytes}
use Rattle.text.specs.Lines.{Outcome, got, bad, read_head}
use Rattle.eos.specs.Model as eos
use Rattle.model.specs.Limits.{longest, room_limit}
use Rattle.model.specs.Held.{model_of}
use Rattle.model.specs.declared.Model.{Model}
use Rattle.marking.specs.Held.{hold_marking, tokens_of}
use Rattle.marking.specs.declared.Marking.{Marking}
use Rattle.marking.specs.Sizes.{sizes_for}
use Rattle.reader.specs.Answers.{faulty, held_both}
use Rattle.reader.specs.declared.ReadRefusal.{ReadRefusal}
use Rattle.reader.specs.declared.ReadRefusal.TheVariants.{TooLong, NotHeld}
use Rattle.runner.specs.declared.StepRefusal.{StepRefusal}
use Rattle.runner.specs.declared.StepRefusal.TheVariants.{Unread}
use Rattle.runner_trace.specs.declared.RunEnd.{RunEnd}
use Rattle.runner.specs.Answers.{Tried, fires, stops, tried}

-- what a run gives: the steps fired, the byte where it stopped, the step that stopped it or that it came to the end, and the marking then
pub record Ran : Type 0 where
  pub fired : ℕ
  pub at : ℕ
  pub stop : Result (Unit {0}) StepRefusal
  pub marking : Marking

-- n steps fired, stopped at the byte `at` of the trace: the bytes that the header and the fired steps used, so the first byte of the step
-- that was turned down, or the whole length at the end; 0 of a run that is refused before its first step, by its header too
abbrev pub ran : ℕ → ℕ → Result (Unit {0}) StepRefusal → Marking → Ran
ran n at a k = record { fired = n; at = at; stop = a; marking = k }

-- what a run answers, and the marking then
abbrev pub ran_to : RunEnd → Marking → Ran
ran_to r k = ran r.fired r.at r.stop k

-- stopped before its first step
abbrev pub run_refused : Result (Unit {0}) StepRefusal → RunEnd
run_refused a = record { fired = 0; at = 0; stop = a }

-- refused, since its text is not read
abbrev pub unrun : ReadRefusal → Marking → Ran
unrun e k = ran_to (run_refused (Err (Unread e))) k

-- a run at what is left of the text: at its end it stops, a step that fires is followed by the rest of the run, and one that is turned
-- down stops it
unfoldable pub onward : (ℕ → eos.Marking → Ran) → ℕ → ℕ → Marking → Text → Tried → Ran
onward rest n at k [] t = ran n at (Ok tt) k
onward rest n at k (b ∷ s) (fires used μ) = rest used μ
onward rest n at k (b ∷ s) (stops e) = ran n at (Err e) k

-- steps to the end of the text or the first stop, n of them fired before and `at` bytes used. Each step is lent what is left of the text.
-- A step that fires uses at least one byte, so the length of the text is fuel enough
unfoldable pub run_from : ℕ → Model → Marking → Text → ℕ → ℕ → Ran
run_from zero m k s n at = ran n at (Ok tt) k
run_from (suc fuel) m k s n at =
    onward (λ used μ. run_from fuel m (hold_marking μ) (drop used s) (n + 1) (at + used)) n at k s (tried room_limit (model_of m) (sizes_for m) (tokens_of (sizes_for m) k) s)

-- the header `run=1`, then steps; a refused header is named by its line
unfoldable pub headed : Model → Marking → Text → Outcome (Unit {0}) → Ran
headed m k s (got v next) = run_from (length s) m k (drop next s) 0 next
headed m k s (bad e) = unrun (faulty s e) k

unfoldable pub run_where_held : Bool → Model → Marking → Text → Ran
run_where_held true m k s = headed m k s (read_head (bytes "run=1\n") s 0)
run_where_held false m k s = unrun NotHeld k

-- 1, 14, the header, then steps. Refused before the first step: nothing fired, no byte used, the marking as it was
unfoldable pub running : Model → Marking → Text → Ran
running m k s = elim (leb (length s) longest) [ true ↦ run_where_held (held_both m k) m k s | false ↦ unrun TooLong k ]
