-- `outer` reads the first line and the outer weights: the first is refused, or the second stands behind it.
use borrow.Author.Rules.{rules}
use Rattle.text.proofs.Basics.{handed_on}
use Rattle.keeper.proofs.BlockLaws.{outer_refused, outer_read}
use Rattle.keeper.proofs.weightfile.outer.Goals as goal

pub returns-in_err-head : goal.returns-in_err-head
returns-in_err-head c =
    rw (handed_on _ c.from_residual.ensures.1) (outer_refused c.args.m.now c.args.r.now _ _ c.in_err-head.ensures)

pub returns : goal.returns
returns c =
    let m = c.args.m.now in
    outer_read m c.args.r.now c.requires (search rules) _ _ _ _ c.in_ok-head.ensures c.list.ensures
