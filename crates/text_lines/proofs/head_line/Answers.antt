-- `head_line` meets its contract: the line stands there, or another does.
use mathlib.Core.Path.{sym, ap, ◌∙◌}
use Rattle.std.specs.declared.result.Result.TheVariants.{Err}
use Rattle.text.specs.Lines.{read_head}
use Rattle.text.proofs.LineLaws.{head_stands, line_missing, passed_missing}
use Rattle.text_lines.proofs.head_line.Goals as goal

pub returns-in_default : goal.returns-in_default
unfolding read_head
returns-in_default c =
    ap Err c.syntax_fault.ensures ∙ line_missing _ _ _ _ _ (λ b e. passed_missing _ b (e ∙ c.literal-read.ensures)) c.in_default.not-Ok

pub returns : goal.returns
returns c = head_stands _ _ _ _ (sym c.in-Ok.is ∙ c.literal-read.ensures)
