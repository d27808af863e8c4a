-- `number_line` meets its contract: the number with LF behind the key, and then its range, each from what the callee ensures.
use Rattle.std.proofs.Common.{rules}
use mathlib.Core.Path.{sym, ap, ◌∙◌}
use Rattle.std.specs.declared.result.Result.TheVariants.{Err}
use Rattle.text.specs.Bytes.{lf}
use Rattle.text.specs.Number.{number, item}
use Rattle.text.specs.Capped.{cap}
use Rattle.text.specs.Lines.{behind, read_number}
use Rattle.text.proofs.NumberLaws.{exact_of, missing_of}
use Rattle.text.proofs.LineLaws.{key_inside, line_missing}
use Rattle.text_lines.proofs.number_line.Goals as goal

pub returns-in_default : goal.returns-in_default
unfolding read_number
returns-in_default c =
    ap Err c.syntax_fault.ensures ∙ line_missing _ _ _ _ _ (λ b e. missing_of cap _ b (e ∙ c.key_item-read.ensures)) c.in_default.not-Ok

pub overflow_add-at : goal.overflow_add-at
overflow_add-at c =
    let a = c.args in
    let h = key_inside a.key.now lf a.s.now a.at _ _ (exact_of cap _ _ (sym c.in-Ok.is ∙ c.key_item-read.ensures)).is in
    search rules

pub returns : goal.returns
unfolding read_number
returns c =
    let a = c.args in
    c.ranged.ensures (behind a.key.now (item number lf) a.s.now a.at) (sym c.in-Ok.is ∙ c.key_item-read.ensures)
