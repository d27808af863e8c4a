-- `signed_if` meets its contract, by the byte at the position; past the end there is no minus sign.
use Rattle.std.proofs.Common.{rules}
use mathlib.Core.Path.{sym, ap, ◌∙◌}
use borrow.Author.Tests.{eq-eqb, ne_eqb}
use Rattle.text.specs.Capped.{capped_signed}
use Rattle.text.proofs.ReadLaws.{within_text}
use Rattle.text.proofs.NumberLaws.{sign_plain, sign_minus}
use Rattle.text_scan.proofs.signed_if.Goals as goal
use Rattle.text_scan.proofs.signed_if.Goals.{else-minus-via-then-minus+else-byte_at-eq45, else-minus-via-else-minus}

pub overflow_add-at : goal.overflow_add-at
overflow_add-at c =
    let a = c.args in
    let h = within_text a.s.now a.at 44 (sym c.byte_at.ensures ∙ c.if-byte_at-eq45.true) in
    search rules

pub returns-then-byte_at-eq45 : goal.returns-then-byte_at-eq45
returns-then-byte_at-eq45 c =
    c.negated.ensures ∙ sym (ap capped_signed (sign_minus _ _ _ (rw (c.if-minus.true, eq-eqb _ _ (sym c.byte_at.ensures ∙ c.if-byte_at-eq45.true)))))

pub returns : goal.returns
returns c =
    c.plain.ensures ∙ sym (ap capped_signed (sign_plain _ _ _ (elim c.else-minus.branch [
      | else-minus-via-then-minus+else-byte_at-eq45 w ↦ rw (w.if-minus.true, ne_eqb _ _ (λ h. w.if-byte_at-eq45.false (w.byte_at.ensures ∙ h)))
      | else-minus-via-else-minus w ↦ rw w.if-minus.false
    ])))
