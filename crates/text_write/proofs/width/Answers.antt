-- `width` meets its contract: n has one digit, or it is at least 10 to the number of its other digits, and less than ten times that.
use Prim.Native.Nat.{ℕ, zero, suc, ◌+◌, ◌*◌, ◌/◌, ◌^◌, ◌≤◌, ◌<◌}
use mathlib.Core.Path.{◌≡◌, refl, sym, ◌∙◌}
use native.Mathlib.Omega.{arith}
use native.Mathlib.Nat.{pow-suc}
use lib.ListN.{length}
use Rattle.text.specs.Printed.{decimal}
use Rattle.text.proofs.DecimalLaws.{length-small, length_large}
use Rattle.text_write.proofs.width.Goals as goal

length-power : (k n p : ℕ) → p ≡ 10 ^ k → p ≤ n → n < 10 * p → length (decimal n) ≡ k + 1
length-power zero n p e h g = omega (arith, length-small n (omega arith))
length-power (suc k) n p e h g =
    let q : p ≡ 10 ^ k * 10 = e ∙ pow-suc 10 k in
    omega (arith, length_large n (omega arith), length-power k (n / 10) (10 ^ k) refl (omega arith) (omega arith))

pub returns-then-n-lt10 : goal.returns-then-n-lt10
returns-then-n-lt10 c = sym (length-small c.args.n (omega arith))

pub returns : goal.returns
returns c =
    let r = c.ilog10.ensures in
    sym (length-power c.ilog10.result c.args.n (10 ^ c.ilog10.result) refl r.power_le r.next_power_gt)
