-- `items`: the numbers of a list, each with the byte behind it. The loop's invariant: what is still to come ends where the whole list
-- ends, and laid over the bytes as they are now it gives the whole list laid over the bytes as they were.
use Prim.Native.Nat.{◌+◌}
use mathlib.Core.Path.{◌≡◌}
use lib.ListN.{length, drop}
use lib.Seq.{sets}
use Rattle.text.specs.Printed.{decimal, items_text}
use Rattle.text_write.proofs.Writer.items.Given as goal

abbrev pub invariant-loop-i : goal.invariant-loop-i
invariant-loop-i l =
    let old = l.initial.self in
    let new = l.self in
    let rest = items_text decimal l.last (drop l.i l.values) in
    (new.at + length rest ≡ old.at + length (items_text decimal l.last l.values))
    × (length new.out.now ≡ length old.out.now)
    × (sets new.out.now new.at rest ≡ sets old.out.now old.at (items_text decimal l.last l.values))
    × (new.out.ghost_name ≡ old.out.ghost_name)
