-- `lines` reads the outer weights and those of the nets behind them.
use Rattle.text.proofs.Basics.{handed_on}
use Rattle.keeper.proofs.BlockLaws.{lines_stop, lines_read}
use Rattle.keeper.proofs.weightfile.lines.Goals as goal

pub returns-in_err-outer : goal.returns-in_err-outer
returns-in_err-outer c =
    rw (handed_on _ c.from_residual.ensures.1) (lines_stop c.args.m.now c.args.r.now _ _ c.in_err-outer.ensures)

pub returns : goal.returns
returns c = lines_read c.args.m.now c.args.r.now _ _ _ _ c.in_ok-outer.ensures c.inner.ensures
