-- `even` compares what is made of a net with what is left and given. The loop's invariant: all before k were equal, and what stands from k on decides.
use mathlib.Core.Path.{◌≡◌}
use mathlib.Core.Bool.{◌&&◌}
use lib.ListN.{drop}
use Rattle.eos.specs.Vector.{◌⊕◌, ◌⊖◌, eq_v}
use Rattle.step.specs.VerdictParts.{even}
use Rattle.step_projections.proofs.nets.even.Given as goal

abbrev pub invariant-loop-k : goal.invariant-loop-k
invariant-loop-k l = even l.made l.held l.pre l.post ≡ (l.all && eq_v (drop l.k l.made) (drop l.k (l.held ⊖ l.pre ⊕ l.post)))
