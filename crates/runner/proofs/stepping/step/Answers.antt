-- `step` meets its contract: 1, then 14, then the step on the marking.
use mathlib.Core.Path.{◌∙◌}
use native.Mathlib.Omega.{arith}
use Rattle.text.proofs.Basics.{handed_on}
use Rattle.reader.proofs.ReadingLaws.{admitted_ok, both_model}
use Rattle.runner.proofs.StepAnswers.{both_few, step-unread, step-held}
use Rattle.runner.proofs.stepping.step.Goals as goal

pub returns-in_err-admitted : goal.returns-in_err-admitted
returns-in_err-admitted c =
    rw (handed_on _ c.from_residual.ensures.1) (step-unread _ _ _ _ c.in_err-admitted.ensures)

pub new-stepper-requires : goal.new-stepper-requires
new-stepper-requires c = (both_model _ _ (admitted_ok _ _ _ c.in_ok-admitted.ensures).1, omega (arith, c.room.ensures.value))

pub step_on-requires : goal.step_on-requires
step_on-requires c =
    let a = admitted_ok _ _ _ c.in_ok-admitted.ensures in
    rw (c.new-stepper.ensures.0, c.new-stepper.ensures.1, c.room.ensures.value) (a.1, a.0, c.room.ensures.entries, both_few _ _ a.1)

pub returns : goal.returns
returns c =
    let a = admitted_ok _ _ _ c.in_ok-admitted.ensures in
    c.step_on.ensures.stepped ∙ rw (c.new-stepper.ensures.0, c.new-stepper.ensures.1, c.room.ensures.value) (step-held _ _ _ a.0 a.1)
