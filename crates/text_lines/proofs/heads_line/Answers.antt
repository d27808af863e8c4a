-- `heads_line` meets its contract: the one line stands there, or the other, or neither.
use mathlib.Core.Path.{ap, ◌∙◌}
use Rattle.std.specs.declared.result.Result.TheVariants.{Err}
use Rattle.text.proofs.LineLaws.{heads_former, heads_latter, heads_missing}
use Rattle.text_lines.proofs.heads_line.Goals as goal

pub returns-in-Ok-default : goal.returns-in-Ok-default
returns-in-Ok-default c = heads_former _ _ _ _ _ c.in-Ok-default.ensures

pub returns-in-Err-Ok : goal.returns-in-Err-Ok
returns-in-Err-Ok c = let i = c.in-Err-Ok in heads_latter _ _ _ _ _ i.ensures _ i.ensures'

pub returns-in-Err-Err : goal.returns-in-Err-Err
returns-in-Err-Err c = let i = c.in-Err-Err in ap Err c.fault_at.ensures ∙ rw c.max.ensures (heads_missing _ _ _ _ _ i.ensures _ i.ensures')
