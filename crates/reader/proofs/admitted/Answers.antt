-- `admitted` meets its contract: a text that is too long, or two that are held or not.
use mathlib.Core.Path.{sym, ◌∙◌}
use Rattle.text.proofs.Basics.{handed_on}
use Rattle.reader.proofs.ReadingLaws.{short_ok, admitted_long, admitted_held, admitted_unheld}
use Rattle.reader.proofs.admitted.Goals as goal

pub returns-in_err-short : goal.returns-in_err-short
returns-in_err-short c =
    rw (handed_on _ c.from_residual.ensures.1) (admitted_long _ _ _ _ c.in_err-short.ensures)

pub returns-then-test_marking : goal.returns-then-test_marking
returns-then-test_marking c = admitted_held _ _ _ (short_ok _ _ c.in_ok-short.ensures) (sym c.test_marking.ensures ∙ c.if-test_marking.true)

pub returns-else-test_marking : goal.returns-else-test_marking
returns-else-test_marking c = admitted_unheld _ _ _ (short_ok _ _ c.in_ok-short.ensures) (sym c.test_marking.ensures ∙ c.if-test_marking.false)
