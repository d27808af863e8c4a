-- `marking_weight` is a sum. The loop's invariant: what is added up, with the weight of the others, is that of all.
use Prim.Native.Nat.{◌*◌}
use mathlib.Core.Path.{◌≡◌}
use lib.IntN.{pos, neg_ℤ, ◌+ℤ◌}
use lib.ListN.{drop}
use lib.Signed.{◌≤ℤ◌}
use Rattle.weigh.specs.Sums.{numbers, marking_weight, entry_most}
use Rattle.weigh_marking.proofs.marking_weight.Given as goal

abbrev pub invariant-loop-e : goal.invariant-loop-e
invariant-loop-e g l =
    let rows = numbers g.W.Factor.number l.weights in
    (marking_weight rows l.types l.entries ≡ l.sum +ℤ marking_weight rows l.types (drop l.e-index l.entries))
    × (neg_ℤ (pos (l.e-index * entry_most g.W.Factor.limit)) ≤ℤ l.sum)
    × (l.sum ≤ℤ pos (l.e-index * entry_most g.W.Factor.limit))
