-- `widened` copies a row. The loop's invariant: the first k numbers are the row's, and the others 0.
use Prim.Native.Nat.{ℕ, ◌≤◌, ◌<◌}
use mathlib.Core.Path.{◌≡◌}
use lib.ListN.{length}
use Rattle.model.specs.Rules.{nth}
use Rattle.model_acts.proofs.widened.Given as goal

abbrev pub invariant-loop-k : goal.invariant-loop-k
invariant-loop-k l = (l.k ≤ 32) × (length l.row ≡ 32) × ((n : ℕ) → n < l.k → nth l.row n ≡ nth l.arcs n)
