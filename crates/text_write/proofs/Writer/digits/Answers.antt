use Prim.Native.Nat.{ℕ, ◌+◌, ◌-◌, ◌/◌, ◌%◌, ◌≤◌, ◌<◌}
use mathlib.Core.Path.{◌≡◌, ◌∙◌}
use native.Mathlib.Omega.{arith}
use lib.ListN.{length, length-set}
use Rattle.text.specs.Printed.{decimal}
use Rattle.text.proofs.Basics.{by_le}
use Rattle.text.proofs.DecimalLaws.{length-positive, length-small, length_large}
use Rattle.text.proofs.PrintedLaws.{lay_last, lay-one}
use Rattle.text_write.proofs.Writer.digits.Goals as goal

-- a number with one digit, and one with more
one_digit : (v : ℕ) → length (decimal v) ≡ 1 → v < 10
one_digit v e = by_le 10 v (λ h. absurd (omega (arith, length_large v h, length-positive (v / 10)))) (λ h. h)

more-digits : (v : ℕ) → 1 < length (decimal v) → 10 ≤ v
more-digits v h = by_le 10 v (λ h. h) (λ q. absurd (omega (arith, length-small v q)))

pub loop-k-preserved : goal.loop-k-preserved
loop-k-preserved c =
    let l = c.loop-k in
    let w = l.self in
    let i = l.invariant in
    let room : w.at < l.k = omega arith in
    let long : l.k ≡ w.at + length (decimal l.v) = i.3 room in (
      i.0,
      i.1,
      length-set w.out.now (l.k - 1) (48 + l.v % 10) ∙ i.2,
      λ h. let d = length_large l.v (more-digits l.v (omega arith)) in omega arith,
      λ h. lay_last w.out.now w.at (l.k - 1) l.v (more-digits l.v (omega arith)) (omega arith) ∙ i.4 room,
      λ h.
          let small = one_digit l.v (omega (arith, length-positive l.v)) in
          let e : l.k - 1 ≡ w.at = omega (arith, length-positive l.v) in
          let d : l.v % 10 ≡ l.v = omega arith in
          rw (e, d) (lay-one w.out.now w.at l.v small ∙ i.4 room),
    )
