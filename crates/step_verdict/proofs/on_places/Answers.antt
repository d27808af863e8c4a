-- `on_places` asks the two tests on the places in their order.
use mathlib.Core.Path.{sym, ◌∙◌}
use Rattle.step.proofs.VerdictLaws.{stop_take, stop_give, pass_places}
use Rattle.step_verdict.proofs.on_places.Goals as goal

pub returns-then-not-asked : goal.returns-then-not-asked
returns-then-not-asked c =
    let a = c.args in
    sym (stop_take _ a.rule.now a.taken.now a.given.now (sym c.asked.ensures ∙ c.if-not-asked.true))

pub returns-then-not-left : goal.returns-then-not-left
returns-then-not-left c =
    let a = c.args in
    sym (stop_give _ a.rule.now a.taken.now a.given.now (sym c.asked.ensures ∙ c.if-not-asked.false) (sym c.left.ensures ∙ c.if-not-left.true))

pub returns : goal.returns
returns c =
    let a = c.args in
    sym (pass_places _ a.rule.now a.taken.now a.given.now (sym c.asked.ensures ∙ c.if-not-asked.false) (sym c.left.ensures ∙ c.if-not-left.false))
