-- `lines_length` meets its contract. The loop's invariant: the bytes so far and those still to come are the bytes of all lines, and those
-- so far are at most 210 for each line.
use Prim.Native.Nat.{◌+◌, ◌*◌, ◌≤◌}
use mathlib.Core.Path.{◌≡◌}
use lib.ListN.{length}
use Rattle.text.specs.Printed.{texts}
use Rattle.marking.specs.Held.{as_sizes}
use Rattle.marking.specs.Printed.{held_text}
use Rattle.marking.proofs.LinesLaid.{texts_from}
use Rattle.marking_write.proofs.lines_length.Given as goal

abbrev pub invariant-loop-e : goal.invariant-loop-e
invariant-loop-e l =
    (l.bytes ≤ l.e-index * 210)
    × (l.bytes + length (texts_from (held_text (as_sizes l.z)) l.entries l.e-index) ≡ length (texts (held_text (as_sizes l.z)) l.entries))
