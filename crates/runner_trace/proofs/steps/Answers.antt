use Rattle.std.proofs.Common.{rules}
use mathlib.Core.Path.{refl, ap, ap₂, ◌∙◌}
use native.Mathlib.Omega.{arith}
use lib.ListN.{length}
use Rattle.text.specs.Bytes.{Text}
use Rattle.model.specs.declared.Model.{Model}
use Rattle.runner_trace.specs.Parts.{turn_at}
use Rattle.runner_trace.proofs.TurnLaws.{Turning, standing_start, standing_turn}
use Rattle.runner_trace.proofs.steps.Goals as goal
use Rattle.runner_trace.proofs.steps.Goals.{After-turn}
use Rattle.std.specs.Prelude.{Some}

pub loop-answer-init : goal.loop-answer-init
loop-answer-init c =
    let a = c.args in
    let q = c.requires in
    (refl, standing_start a.p.now.model.now a.r.now.src.now a.r.now.at a.k.now (record { held = q.0.held; long = q.0.long }) q.1, refl, refl)

pub turn-requires : goal.turn-requires
turn-requires c =
    let q = c.requires.0 in
    let g = c.loop-answer.invariant.1 in
    let i = c.loop-answer.invariant in
    rw i.2 (record { held = g.kept.held; within = rw i.0 q.within; long = g.kept.long; room_is = i.3 ∙ q.room_is })

-- what the turn does to the run
turned : (c : After-turn) →
    let a = c.args in
    let l = c.loop-answer in
    Turning a.p.now.model.now a.k.now a.r.now.src.now a.r.now.at l.fired l.r.at (record { turn = c.turn.result; marking = c.turn.new.k })
turned c =
    let a = c.args in
    let l = c.loop-answer in
    standing_turn a.p.now.model.now a.k.now a.r.now.src.now a.r.now.at l.fired l.r.at l.k l.invariant.1 _
    (c.turn.ensures.tried ∙ ap₂ (λ (m : Model) (s : Text). turn_at m s l.r.at l.k) l.invariant.2 l.invariant.0)

pub overflow_add-r : goal.overflow_add-r
overflow_add-r c =
    let g = (turned (goal.at.overflow_add-r c).After-turn).on _ (c.in-Some.is ∙ ap Some c.in-Ok.is) in
    let h = g.0.inside in
    search rules

pub loop-answer-smaller : goal.loop-answer-smaller
loop-answer-smaller c =
    let g = (turned (goal.at.loop-answer-smaller c).After-turn).on _ (c.in-Some.is ∙ ap Some c.in-Ok.is) in
    omega (arith, g.0.inside, g.1, ap length c.loop-answer.invariant.0)

pub loop-answer-preserved : goal.loop-answer-preserved
loop-answer-preserved c =
    let g = (turned (goal.at.loop-answer-preserved c).After-turn).on _ (c.in-Some.is ∙ ap Some c.in-Ok.is) in
    (c.loop-answer.invariant.0, g.0, c.turn.ensures.same.0 ∙ c.loop-answer.invariant.2, c.turn.ensures.same.1 ∙ c.loop-answer.invariant.3)

pub returns-in-Err : goal.returns-in-Err
returns-in-Err c = (turned (goal.at.returns-in-Err c).After-turn).off _ (c.in-Some.is ∙ ap Some c.in-Err.is)

pub returns : goal.returns
returns c = (turned (goal.at.returns c).After-turn).over c.in_default.is
