-- `number` meets its contract, by the byte at the position: past the end it is no digit.
use Rattle.std.proofs.Common.{rules}
use mathlib.Core.Path.{sym, ap, ◌∙◌}
use native.Mathlib.Omega.{arith}
use lib.Dec.{lit≤}
use lib.ListN.{length}
use Prim.Native.Nat.{◌<◌}
use Rattle.text.specs.Capped.{capped}
use Rattle.text.proofs.ReadLaws.{within_text}
use Rattle.text.proofs.NumberLaws.{digits_cap, number_zero, number_other, number_digits, digit_within}
use Rattle.text.proofs.NumberSteps.{digit_bounds}
use Rattle.text_scan.proofs.number.Goals as goal
use Rattle.text_scan.proofs.number.Goals.{Else-not-digit}

pub overflow_add-result : goal.overflow_add-result
overflow_add-result c = let a = c.args in let h = within_text a.s.now a.at 47 (sym c.byte_at-first.ensures ∙ c.if-first-eq48.true) in search rules

pub returns-then-first-eq48 : goal.returns-then-first-eq48
returns-then-first-eq48 c =
    let a = c.args in
    let e = sym c.byte_at-first.ensures ∙ c.if-first-eq48.true in
    sym (ap capped (number_zero a.s.now a.at (within_text a.s.now a.at 47 e) e))

pub returns-then-not-digit : goal.returns-then-not-digit
returns-then-not-digit c =
    let a = c.args in
    sym (ap capped (number_other a.s.now a.at (sym (rw c.byte_at-first.ensures at c.digit.ensures) ∙ c.if-not-digit.true)))

-- the byte is a digit, so it stands in the text
within : (c : Else-not-digit) → c.args.at < length c.args.s.now
within c = digit_within c.args.s.now c.args.at (sym (rw c.byte_at-first.ensures at c.digit.ensures) ∙ c.if-not-digit.false)

pub overflow_add-at : goal.overflow_add-at
overflow_add-at c = let h = within (goal.at.overflow_add-at c).Else-not-digit in search rules

pub push-requires : goal.push-requires
push-requires c = (lit≤ tt, digit_bounds _ (sym c.digit.ensures ∙ c.if-not-digit.false))

pub digits-requires : goal.digits-requires
digits-requires c = (omega (arith, c.push.ensures), omega (arith, within (goal.at.digits-requires c).Else-not-digit))

pub returns : goal.returns
returns c =
    let a = c.args in
    let e = c.byte_at-first.ensures in
    c.digits.ensures
    ∙ digits_cap _ _ _ _ (omega (arith, rw e at c.push.ensures))
    ∙ sym (ap capped (number_digits a.s.now a.at (within (goal.at.returns c).Else-not-digit) (λ h. c.if-first-eq48.false (e ∙ h)) (sym (rw e at c.digit.ensures) ∙ c.if-not-digit.false)))
