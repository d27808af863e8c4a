-- `add_counts` adds counts to a row. The loop's invariant: the first k are added; the counts are numbers of 16 bits.
use Prim.Native.Nat.{ℕ, ◌≤◌}
use mathlib.Core.Path.{◌≡◌}
use lib.ListN.{length, take, get_or}
use Rattle.eos.specs.Vector.{◌⊕◌, times}
use Rattle.step_projections.proofs.add_counts.Given as goal

abbrev pub invariant-loop-k : goal.invariant-loop-k
invariant-loop-k l =
    (length l.row ≡ 32) × (l.row ≡ l.initial.row ⊕ take l.k (times l.n l.counts)) × ((i : ℕ) → get_or l.counts i 0 ≤ 65535)
