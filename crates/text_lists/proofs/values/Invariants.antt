-- `values` meets its contract. The invariant: the answer is that of going on from here with the row, the first value out of range and the
-- position in hand.
use lib.ListN.{length}
use Prim.Native.Nat.{◌-◌}
use mathlib.Core.Path.{◌≡◌}
use Rattle.text.specs.Number.{signed_if}
use Rattle.text.specs.Lists.{values}
use Rattle.text.proofs.ListLaws.{answer, going}
use Rattle.text_lists.proofs.values.Given as goal

abbrev pub invariant-loop-i : goal.invariant-loop-i
invariant-loop-i g l =
    (length l.row ≡ 32)
    × (answer g.V.Value.held l.hi l.from (values (signed_if g.V.Value.SIGNED) l.n l.s l.from)
    ≡ going g.V.Value.held l.hi l.out l.i l.row l.at (values (signed_if g.V.Value.SIGNED) (l.n - l.i) l.s l.at))
