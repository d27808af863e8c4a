-- `steps` meets its contract. The loop's invariant: the run goes on at the place that the reader has reached; the measure: the bytes that
-- are left.
use Prim.Native.Nat.{◌-◌}
use mathlib.Core.Path.{◌≡◌}
use lib.ListN.{length}
use Rattle.runner_trace.proofs.TurnLaws.{Going}
use Rattle.runner_trace.proofs.steps.Given as goal

abbrev pub invariant-loop-answer : goal.invariant-loop-answer
invariant-loop-answer l = (l.r.src.now ≡ l.fn.r.src.now) × Going l.fn.p.model.now l.fn.k l.fn.r.src.now l.fn.r.at l.fired l.r.at l.k × (l.p.model.now ≡ l.fn.p.model.now) × (l.p.room ≡ l.fn.p.room)

abbrev pub decreases-loop-answer : goal.decreases-loop-answer
decreases-loop-answer l = length l.r.src.now - l.r.at
