-- `summed` adds up the rows. The loop's invariant: what is added, and the rows from t on, make up the sum.
use Prim.Native.Nat.{ℕ, ◌-◌, ◌≤◌, ◌*◌}
use mathlib.Core.Path.{◌≡◌}
use lib.ListN.{length}
use Rattle.eos.specs.Vector.{zeros}
use Rattle.model.specs.Rules.{nth}
use Rattle.model.specs.Held.{row_in}
use Rattle.step.specs.RuleParts.{sum_rows}
use Rattle.step_rule.proofs.summed.Given as goal

abbrev pub invariant-loop-t : goal.invariant-loop-t
invariant-loop-t l =
    (l.t ≤ l.transitions) × (length l.sum ≡ 32) × ((i : ℕ) → nth l.sum i ≤ l.t * 65025)
    × (sum_rows (nth l.counts) (row_in 32 l.table) l.t (l.transitions - l.t) l.sum ≡ sum_rows (nth l.counts) (row_in 32 l.table) 0 l.transitions (zeros 32))
