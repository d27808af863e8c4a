-- `verdict` asks the two parts in turn.
use mathlib.Core.Path.{◌∙◌}
use Rattle.step.proofs.VerdictLaws.{handed_on, by_places, by_nets}
use Rattle.step_verdict.proofs.verdict.Goals as goal

pub returns-in_err-on_places : goal.returns-in_err-on_places
returns-in_err-on_places c =
    let a = c.args in
    handed_on _ c.in_err-on_places.field-0.0 c.from_residual.ensures.1 ∙ by_places _ a.rule.now a.taken.now a.given.now _ c.in_err-on_places.ensures

pub returns : goal.returns
returns c =
    let a = c.args in
    by_nets _ a.rule.now a.taken.now a.given.now c.in_ok-on_places.ensures _ c.on_nets.ensures
