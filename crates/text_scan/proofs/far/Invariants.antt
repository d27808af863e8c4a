-- `far` meets its contract. The invariant: up to here t goes with what is left of s.
use Prim.Native.Nat.{◌+◌}
use mathlib.Core.Path.{◌≡◌}
use lib.ListN.{drop}
use Rattle.text.specs.Bytes.{meet}
use Rattle.text_scan.proofs.far.Given as goal

abbrev pub invariant-loop-i : goal.invariant-loop-i
invariant-loop-i l = meet l.t l.rest ≡ l.i + meet (drop l.i l.t) (drop l.i l.rest)
