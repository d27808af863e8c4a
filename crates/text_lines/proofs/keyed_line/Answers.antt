-- `keyed_line` meets its contract, by the keys behind which a number was read.
use Rattle.std.proofs.Common.{rules}
use mathlib.Core.Path.{ap, sym, ◌∙◌}
use Rattle.std.specs.declared.result.Result.TheVariants.{Err}
use Rattle.text.specs.Answers.{parsed}
use Rattle.text.specs.Bytes.{lf}
use Rattle.text.specs.Capped.{cap}
use Rattle.text.specs.Keyed.{read_keyed, keyed_form}
use Rattle.text.specs.declared.Keyed.TheVariants.{Former, Latter}
use Rattle.text.proofs.Basics.{handed_on}
use Rattle.text.proofs.NumberLaws.{exact_of, missing_of}
use Rattle.text.proofs.LineLaws.{key_inside, keyed_former, keyed_latter, keyed_missing, kept_err, kept_ok}
use Rattle.text_lines.proofs.keyed_line.Goals as goal

pub overflow_add-at : goal.overflow_add-at
overflow_add-at c =
    let a = c.args in
    let h = key_inside a.one.now lf a.s.now a.at _ _ (exact_of cap _ _ c.in-Ok-default.ensures).is in
    search rules

pub returns-in_err-value-in-Ok-default : goal.returns-in_err-value-in-Ok-default
unfolding read_keyed keyed_form
returns-in_err-value-in-Ok-default c =
    let i = c.in-Ok-default in
    rw (handed_on _ c.from_residual.ensures.1) (kept_err Former _ _ (c.in_err-value-in-Ok-default.ensures _ i.ensures)
    ∙ ap parsed (sym (keyed_former _ _ _ _ _ _ _ _ _ (exact_of cap _ _ i.ensures).is)))

pub returns-in_ok-value-in-Ok-default : goal.returns-in_ok-value-in-Ok-default
unfolding read_keyed keyed_form
returns-in_ok-value-in-Ok-default c =
    let i = c.in-Ok-default in
    kept_ok Former _ _ (c.in_ok-value-in-Ok-default.ensures _ i.ensures)
    ∙ ap parsed (sym (keyed_former _ _ _ _ _ _ _ _ _ (exact_of cap _ _ i.ensures).is))

pub overflow_add-at-in-Err-Ok : goal.overflow_add-at-in-Err-Ok
overflow_add-at-in-Err-Ok c =
    let a = c.args in
    let h = key_inside a.two.now lf a.s.now a.at _ _ (exact_of cap _ _ c.in-Err-Ok.ensures').is in
    search rules

pub returns-in_err-value-in-Err-Ok : goal.returns-in_err-value-in-Err-Ok
unfolding read_keyed keyed_form
returns-in_err-value-in-Err-Ok c =
    let i = c.in-Err-Ok in
    rw (handed_on _ c.from_residual-in_err-value-in-Err-Ok.ensures.1) (kept_err Latter _ _ (c.in_err-value-in-Err-Ok.ensures _ i.ensures')
    ∙ ap parsed (sym (keyed_latter _ _ _ _ _ _ _ _ _ _ (missing_of cap _ _ i.ensures) (exact_of cap _ _ i.ensures').is)))

pub returns-in_ok-value-in-Err-Ok : goal.returns-in_ok-value-in-Err-Ok
unfolding read_keyed keyed_form
returns-in_ok-value-in-Err-Ok c =
    let i = c.in-Err-Ok in
    kept_ok Latter _ _ (c.in_ok-value-in-Err-Ok.ensures _ i.ensures')
    ∙ ap parsed (sym (keyed_latter _ _ _ _ _ _ _ _ _ _ (missing_of cap _ _ i.ensures) (exact_of cap _ _ i.ensures').is))

pub returns-in-Err-Err : goal.returns-in-Err-Err
unfolding read_keyed keyed_form parsed
returns-in-Err-Err c =
    let i = c.in-Err-Err in
    ap Err c.fault_at.ensures ∙ rw c.max.ensures (ap parsed (sym (keyed_missing _ _ _ _ _ _ _ _ _ (missing_of cap _ _ i.ensures) (missing_of cap _ _ i.ensures'))))
