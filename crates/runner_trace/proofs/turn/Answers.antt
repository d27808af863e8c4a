-- `turn` meets its contract: the end of the text, or the turn of a step.
use mathlib.Core.Path.{ap, ◌∙◌}
use native.Mathlib.Omega.{arith}
use Prim.Native.Nat.{◌-◌}
use lib.ListN.{length, length-take, length-drop, drop}
use Rattle.model.specs.Limits.{room_limit}
use Rattle.runner.specs.Answers.{held_step}
use Rattle.runner.proofs.StepAnswers.{both_few}
use Rattle.runner_trace.proofs.TurnLaws.{rest-left, turn_ends, turn_steps}
use Rattle.runner_trace.proofs.turn.Goals as goal

pub step_on-requires : goal.step_on-requires
step_on-requires c =
    let s = c.args.r.now.src.now in
    let at = c.args.r.now.at in (
      c.requires.held,
      omega (arith, length-take (length s - at) (drop at s), length-drop at s, c.requires.within),
      c.requires.long,
      omega (arith, c.requires.room_is, both_few _ _ c.requires.held),
    )

pub returns-then-r-clause-tried : goal.returns-then-r-clause-tried
returns-then-r-clause-tried c = turn_ends _ _ _ _ c.if-r.true

pub returns-clause-tried : goal.returns-clause-tried
returns-clause-tried c =
    let a = c.args in
    turn_steps _ _ _ _ c.if-r.false (record { answer = c.step_on.result; marking = c.step_on.new.k })
    ((rw c.requires.room_is at c.step_on.ensures.stepped) ∙ ap (held_step room_limit a.p.now.model.now a.k.now) (rest-left a.r.now.src.now a.r.now.at))
