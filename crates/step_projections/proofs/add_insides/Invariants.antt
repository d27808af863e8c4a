-- `add_insides` adds up the insides of net-tokens. The loop's invariant: for each net, the sums of the first entries, and the projection of the others, add up to
-- that of all.
use Prim.Native.Nat.{ℕ, ◌≤◌, ◌*◌}
use Rattle.model.specs.Limits.{alike_limit, count_limit}
use Rattle.model.specs.Rules.{nth}
use Rattle.model.specs.Held.{row_at}
use Rattle.step.specs.VerdictParts.{Rowed}
use Rattle.step.proofs.InsideLaws.{Partly}
use Rattle.step_projections.proofs.add_insides.Given as goal

abbrev pub invariant-loop-e : goal.invariant-loop-e
invariant-loop-e l =
    Rowed l.sums × ((n k : ℕ) → nth (row_at l.sums n) k ≤ l.e-index * (alike_limit * count_limit)) × Partly l.types l.entries l.e-index l.sums
