-- What the parts of this crate's code answer.
use Rattle.std.specs.Prelude.{ℕ, List, Ok}
use Rattle.std.proofs.Math.Option.{Option, none, some}
use Rattle.eos.specs.Causes.{Cause}
use Rattle.marking.specs.Tokens.{held_by}
use Rattle.marking.specs.declared.NetToken.{NetToken}
use Rattle.marking.specs.declared.Marking.{Marking}
use Rattle.step.specs.Verdict.{turned_by}
use Rattle.runner.specs.declared.StepRefusal.TheVariants.{Turned}
use Rattle.runner.specs.Answers.{Stepped, stays}

-- a step whose lines were read, up to a position, that takes so many lines and leaves ts, by the first of its causes
unfoldable pub ruled : ℕ → Marking → ℕ → List NetToken → Option Cause → Stepped
ruled next k lines ts none = record { answer = Ok next; marking = held_by ts }
ruled next k lines ts (some c) = stays (Turned (turned_by lines c)) k
