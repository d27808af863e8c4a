-- `run_steps` meets its contract: the turns of a run of a held model.
use mathlib.Core.Path.{◌∙◌}
use native.Mathlib.Omega.{arith}
use Rattle.reader.proofs.ReadingLaws.{both_model}
use Rattle.runner_trace.proofs.run_steps.Goals as goal

pub new-stepper-requires : goal.new-stepper-requires
new-stepper-requires c = (both_model _ _ c.requires.0, omega (arith, c.room.ensures.value))

pub steps-fired-requires : goal.steps-fired-requires
steps-fired-requires c =
    rw c.new-stepper.ensures.0
    (record { held = c.requires.0; within = c.requires.1; long = c.room.ensures.entries; room_is = c.new-stepper.ensures.1 ∙ c.room.ensures.value }, c.requires.2)
