-- `give_all` gives the lines in one by one, up to the first that has no room.
use Rattle.marking_edit.proofs.Change.{past}
use Rattle.step_change.proofs.LineLaws.{line_times, giving_turn, giving_stop}
use Rattle.step_change.proofs.give_all.Goals as goal

pub insert-requires : goal.insert-requires
insert-requires c =
    let i = c.loop-i.invariant in
    let p = line_times c.args.lines.now c.loop-i.i past c.requires.3 c.loop-i-test.true in
    (c.requires.0, i.within, p.0, p.1, i.kept)

pub returns-then-not-insert : goal.returns-then-not-insert
returns-then-not-insert c =
    giving_stop _ c.args.lines.now _ _ past c.loop-i-test.true c.args.room c.loop-i.invariant c.if-not-insert.ensures

pub loop-i-preserved : goal.loop-i-preserved
loop-i-preserved c =
    giving_turn _ c.args.lines.now _ _ past c.loop-i-test.true c.args.room c.requires.0 c.loop-i.invariant c.if-not-insert.ensures
