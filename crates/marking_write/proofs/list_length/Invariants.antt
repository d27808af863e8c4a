-- `list_length` meets its contract. The loop's invariant: the bytes so far and those still to come are the bytes of all numbers, and
-- those so far are at most six for each number.
use Prim.Native.Nat.{◌+◌, ◌*◌, ◌≤◌}
use mathlib.Core.Path.{◌≡◌}
use lib.ListN.{length, drop}
use Rattle.text.specs.Bytes.{lf}
use Rattle.text.specs.Printed.{decimal, items_text}
use Rattle.marking_write.proofs.list_length.Given as goal

abbrev pub invariant-loop-value : goal.invariant-loop-value
invariant-loop-value l =
    (l.bytes ≤ l.value-index * 6)
    × (l.bytes + length (items_text decimal lf (drop l.value-index l.values)) ≡ length (items_text decimal lf l.values))
