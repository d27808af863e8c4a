-- `digits` meets its contract: the digits of n, laid from the last to the first. The loop's invariant: while there is room, the digits of v
-- end at k, and laid over the bytes as they are now they are those of n laid over the bytes as they were; then all are laid.
use Prim.Native.Nat.{◌+◌, ◌≤◌, ◌<◌}
use mathlib.Core.Path.{◌≡◌}
use lib.ListN.{length}
use lib.Seq.{sets}
use Rattle.text.specs.Printed.{decimal}
use Rattle.text_write.proofs.Writer.digits.Given as goal

abbrev pub invariant-loop-k : goal.invariant-loop-k
invariant-loop-k l =
    let old = l.initial.self in
    let new = l.self in
    (new.at ≡ old.at)
    × (new.out.ghost_name ≡ old.out.ghost_name)
    × (length new.out.now ≡ length old.out.now)
    × (new.at < l.k → l.k ≡ new.at + length (decimal l.v))
    × (new.at < l.k → sets new.out.now new.at (decimal l.v) ≡ sets old.out.now old.at (decimal l.n))
    × (l.k ≤ new.at → new.out.now ≡ sets old.out.now old.at (decimal l.n))
