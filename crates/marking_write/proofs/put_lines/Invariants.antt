-- `put_lines` meets its contract. The loop's invariant: the lines still to come end where all lines end, and laid over the bytes as they are
-- now they give all lines laid over the bytes as they were.
use Prim.Native.Nat.{◌+◌}
use mathlib.Core.Path.{◌≡◌}
use lib.ListN.{length}
use lib.Seq.{sets}
use Rattle.text.specs.Printed.{texts}
use Rattle.marking.specs.Held.{as_sizes}
use Rattle.marking.specs.Printed.{held_text}
use Rattle.marking.proofs.LinesLaid.{texts_from}
use Rattle.marking_write.proofs.put_lines.Given as goal

abbrev pub invariant-loop-e : goal.invariant-loop-e
invariant-loop-e l =
    let f = held_text (as_sizes l.z) in
    let old = l.initial.w in
    let new = l.w in
    (new.at + length (texts_from f l.entries l.e-index) ≡ old.at + length (texts f l.entries))
    × (length new.out.now ≡ length old.out.now)
    × (sets new.out.now new.at (texts_from f l.entries l.e-index) ≡ sets old.out.now old.at (texts f l.entries))
    × (new.out.ghost_name ≡ old.out.ghost_name)
