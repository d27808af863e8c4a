-- `one_of_net` tells one net-token by its line: one entry, of one.
use mathlib.Core.Path.{◌∙◌}
use borrow.Author.Tests.{ne_eqb}
use Rattle.step.proofs.TokenSums.{beyond}
use Rattle.step.proofs.VerdictLaws.{not_one_line, more_than_one}
use Rattle.step_verdict.proofs.one_of_net.Goals as goal

pub returns-then-taken-ne1 : goal.returns-then-taken-ne1
returns-then-taken-ne1 c = let a = c.args in not_one_line a.rule.now.types a.rule.now.alone a.taken.now c.requires.some c.if-taken-ne1.true

pub returns-else-times-eq1 : goal.returns-else-times-eq1
returns-else-times-eq1 c =
    let a = c.args in
    ne_eqb _ 1 c.if-times-eq1.false ∙ more_than_one a.rule.now.types a.rule.now.alone a.taken.now beyond c.if-taken-ne1.false c.if-times-eq1.false
