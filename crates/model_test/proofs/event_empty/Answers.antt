-- `event_empty` is `empty_event`.
use mathlib.Core.Path.{◌∙◌}
use borrow.Author.Tests.{eq-eqb, ne_eqb}
use Rattle.model.specs.Test.{empty_event}
use Rattle.model.proofs.HeldTestLoops.{and_no, and_yes}
use Rattle.model_test.proofs.event_empty.Goals as goal

pub returns-then-e-eq0-2 : goal.returns-then-e-eq0-2
unfolding empty_event
returns-then-e-eq0-2 c = and_yes _ _ _ (eq-eqb _ _ c.if-e-eq0.true) (and_yes _ _ _ (eq-eqb _ _ c.if-e-eq0-2.true) c.rows_empty.ensures)

pub returns-else-e-eq0-2 : goal.returns-else-e-eq0-2
unfolding empty_event
returns-else-e-eq0-2 c =
    let n = ne_eqb _ _ c.if-e-eq0-2.false in
    and_yes _ _ _ (eq-eqb _ _ c.if-e-eq0.true) (n ∙ and_no _ _ n)

pub returns-else-e-eq0 : goal.returns-else-e-eq0
unfolding empty_event
returns-else-e-eq0 c = let n = ne_eqb _ _ c.if-e-eq0.false in n ∙ and_no _ _ n
