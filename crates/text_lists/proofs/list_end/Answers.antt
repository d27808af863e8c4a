-- `list_end` meets its contract: LF stands behind the values, and their range is judged after it.
use mathlib.Core.Path.{sym, ap, ◌∙◌}
use Rattle.std.specs.declared.result.Result.TheVariants.{Err}
use Rattle.text.specs.Number.{signed_if}
use Rattle.text.specs.Lists.{values, list_end}
use Rattle.text.specs.Answers.{row, ranged}
use Rattle.text.proofs.NumberLaws.{exact_of}
use Rattle.text.proofs.LineLaws.{kept_err, line_missing}
use Rattle.text.proofs.ListLaws.{end_missing, end_other, end_in, end_out}
use Rattle.text_lists.proofs.list_end.Goals as goal
use Rattle.text_lists.proofs.list_end.Goals.{In-Ok, In-Ok-value}

pub returns-in_default : goal.returns-in_default
unfolding list_end
returns-in_default g c =
    let a = c.args in
    let v = values (signed_if g.V.Value.SIGNED) a.n a.s.now a.at in
    kept_err (row g.V.Value.held) _ _
    (ap Err c.syntax_fault.ensures
    ∙ line_missing _ _ _ _ _ (λ b e. end_missing g.V.Value.held a.hi a.top a.at a.s.now v b (e ∙ c.values-read.ensures)) c.in_default.not-Ok)

pub returns-then-byte_at-ne10 : goal.returns-then-byte_at-ne10
unfolding list_end
returns-then-byte_at-ne10 g c =
    let a = c.args in
    let p = c.in-Ok.field-0 in
    let v = values (signed_if g.V.Value.SIGNED) a.n a.s.now a.at in
    let h = exact_of (ranged g.V.Value.held a.hi a.at) v p (sym c.in-Ok.is ∙ c.values-read.ensures) in
    ap Err c.fault_at.ensures
    ∙ end_other g.V.Value.held a.hi a.top a.at a.s.now v p h (λ e. c.if-byte_at-ne10.true (c.byte_at.ensures ∙ e))

pub returns-in-Ok-value : goal.returns-in-Ok-value
unfolding list_end
returns-in-Ok-value g c =
    let a = c.args in
    let p = c.in-Ok.field-0 in
    let v = values (signed_if g.V.Value.SIGNED) a.n a.s.now a.at in
    let h = exact_of (ranged g.V.Value.held a.hi a.at) v p (sym c.in-Ok.is ∙ c.values-read.ensures) in
    end_in g.V.Value.held a.hi a.top a.at a.s.now v p h (sym c.byte_at.ensures ∙ c.if-byte_at-ne10.false) _ c.in-Ok-value.is

pub returns-in-Err : goal.returns-in-Err
unfolding list_end
returns-in-Err g c =
    let a = c.args in
    let p = c.in-Ok.field-0 in
    let v = values (signed_if g.V.Value.SIGNED) a.n a.s.now a.at in
    let h = exact_of (ranged g.V.Value.held a.hi a.at) v p (sym c.in-Ok.is ∙ c.values-read.ensures) in
    ap Err c.fault_at-in-Err.ensures
    ∙ end_out g.V.Value.held a.hi a.top a.at a.s.now v p h (sym c.byte_at.ensures ∙ c.if-byte_at-ne10.false) _ c.in-Err.is
