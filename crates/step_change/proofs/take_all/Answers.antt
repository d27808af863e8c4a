-- `take_all` takes the lines out one by one, up to the first that takes more than there is.
use Rattle.marking_edit.proofs.Change.{past}
use Rattle.step_change.proofs.LineLaws.{line_times, taking_turn, taking_stop}
use Rattle.step_change.proofs.take_all.Goals as goal

pub take_out-requires : goal.take_out-requires
take_out-requires c =
    let p = line_times c.args.lines.now c.loop-i.i past c.requires.1 c.loop-i-test.true in
    (p.0, c.loop-i.invariant.kept)

pub returns-then-not-take_out : goal.returns-then-not-take_out
returns-then-not-take_out c =
    taking_stop _ c.args.lines.now _ _ past c.loop-i-test.true c.loop-i.invariant c.if-not-take_out.ensures

pub loop-i-preserved : goal.loop-i-preserved
loop-i-preserved c =
    taking_turn _ c.args.lines.now _ _ past c.loop-i-test.true c.loop-i.invariant c.if-not-take_out.ensures
