-- `takes_part` is the rule `takes_part`: of a move nothing is asked.
use mathlib.Core.Path.{◌∙◌}
use borrow.Author.Tests.{eq-eqb}
use Rattle.model.proofs.RuleLoops.{part_move, part_idle}
use Rattle.model_rules.proofs.takes_part.Goals as goal

pub returns-then-own-eq0 : goal.returns-then-own-eq0
returns-then-own-eq0 c = eq-eqb _ _ c.if-own-eq0.true ∙ part_move _ _ _ c.if-own-eq0.true

pub returns-else-own-eq0 : goal.returns-else-own-eq0
returns-else-own-eq0 c = rw c.from.ensures (part_idle _ _ _ c.if-own-eq0.false _ c.some_count.ensures)
