-- `digits` meets its contract. The invariant: the capped answer is that of going on from here.
use Prim.Native.Nat.{◌≤◌}
use mathlib.Core.Path.{◌≡◌}
use lib.ListN.{drop}
use Rattle.text.specs.Number.{digits}
use Rattle.text.specs.Capped.{capped}
use Rattle.text_scan.proofs.digits.Given as goal

abbrev pub invariant-loop-end : goal.invariant-loop-end
invariant-loop-end l = (l.value ≤ 65536) × (capped (digits l.v l.at (drop l.at l.s)) ≡ capped (digits l.value l.end (drop l.end l.s)))
