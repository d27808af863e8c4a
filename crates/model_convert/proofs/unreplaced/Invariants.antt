-- `unreplaced` is the theory's. The loop's invariant: the first of the events from k on that cannot be replaced is the first of all.
use Prim.Native.Nat.{◌-◌}
use mathlib.Core.Path.{◌≡◌}
use Rattle.eos.specs.Model.{event}
use Rattle.eos.specs.Causes.{failing}
use Rattle.eos.specs.Converting.{replaceable, unreplaced}
use Rattle.model.specs.Held.{model_of}
use Rattle.model_convert.proofs.unreplaced.Given as goal

abbrev pub invariant-loop-k : goal.invariant-loop-k
invariant-loop-k l = failing (l.m.listed - l.k) l.k (λ k. replaceable (model_of l.m) (event (model_of l.m) k)) ≡ unreplaced (model_of l.m)
