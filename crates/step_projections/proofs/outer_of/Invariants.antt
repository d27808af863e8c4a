-- `outer_of` counts net-tokens by place. The loop's invariant: the counts of the first entries, and the projection of the others, add up to that of all.
use Prim.Native.Nat.{ℕ, ◌≤◌, ◌*◌}
use mathlib.Core.Path.{◌≡◌}
use lib.ListN.{length, drop}
use Rattle.eos.specs.Vector.{◌⊕◌}
use Rattle.model.specs.Limits.{alike_limit}
use Rattle.model.specs.Rules.{nth}
use Rattle.step.specs.Verdict.{outer_entries}
use Rattle.step_projections.proofs.outer_of.Given as goal

abbrev pub invariant-loop-e : goal.invariant-loop-e
invariant-loop-e l =
    (length l.sums ≡ 32) × ((k : ℕ) → nth l.sums k ≤ l.e-index * alike_limit) × (outer_entries l.entries ≡ l.sums ⊕ outer_entries (drop l.e-index l.entries))
