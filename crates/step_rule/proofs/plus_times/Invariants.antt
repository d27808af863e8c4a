-- `plus_times` adds a row to the sum. The loop's invariant: the numbers before k are added, those from k on are as they were.
use Prim.Native.Nat.{ℕ, ◌≤◌, ◌<◌, ◌+◌}
use mathlib.Core.Path.{◌≡◌}
use lib.ListN.{length}
use Rattle.eos.specs.Vector.{◌⊕◌, times}
use Rattle.model.specs.Rules.{nth}
use Rattle.step_rule.proofs.plus_times.Given as goal

abbrev pub invariant-loop-k : goal.invariant-loop-k
invariant-loop-k l =
    (l.k ≤ 32) × (length l.sum ≡ 32) × ((i : ℕ) → i < l.k → nth l.sum i ≡ nth (l.initial.sum ⊕ times l.count l.arcs) i) × ((i : ℕ) → l.k ≤ i → nth l.sum i ≡ nth l.initial.sum i)
    × ((i : ℕ) → nth l.sum i ≤ nth l.initial.sum i + 65025)
