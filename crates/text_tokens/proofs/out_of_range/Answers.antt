-- `out_of_range` meets its contract.
use mathlib.Core.Path.{ap, ◌∙◌}
use Rattle.std.specs.declared.result.Result.TheVariants.{Err}
use Rattle.text_tokens.proofs.TokenLaws.{place_out, syntax_out}
use Rattle.text_tokens.proofs.out_of_range.Goals as goal

pub returns-in-Ok : goal.returns-in-Ok
returns-in-Ok c = ap Err c.fault_at.ensures ∙ place_out _ _ _ _ (c.in-Ok.ensures)

pub returns-in-Err : goal.returns-in-Err
returns-in-Err c = ap Err c.fault_at-in-Err.ensures ∙ syntax_out _ _ _ _ (c.in-Err.ensures)
