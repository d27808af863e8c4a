-- `net` reads the lines of an object net: one of them is refused, or it is held.
use Rattle.text.proofs.Basics.{handed_on}
use Rattle.model_text.proofs.NetLaws.{inner_refused, inner_few, steps_refused, steps_few, rows_refused, net_read}
use Rattle.model_nets.proofs.net.Goals as goal

pub returns-in_err-number : goal.returns-in_err-number
returns-in_err-number c =
    rw (handed_on _ c.from_residual.ensures.1) (inner_refused c.args.r.now _ c.in_err-number.ensures)

pub returns-in_err-number-2 : goal.returns-in_err-number-2
returns-in_err-number-2 c =
    rw (handed_on _ c.from_residual-in_err-number-2.ensures.1) (steps_refused c.args.r.now _ c.in_ok-number.ensures _ c.in_err-number-2.ensures)

pub tables-requires : goal.tables-requires
tables-requires c =
    rw (c.from-places.ensures, c.from-transitions.ensures)
    (steps_few c.args.r.now _ c.in_ok-number.ensures _ c.in_ok-number-2.ensures, inner_few c.args.r.now _ c.in_ok-number.ensures)

pub returns-in_err-pre : goal.returns-in_err-pre
returns-in_err-pre c =
    rw (handed_on _ c.from_residual-in_err-pre.ensures.1) (rows_refused c.args.r.now _ c.in_ok-number.ensures _ c.in_ok-number-2.ensures _ (rw (c.from-places.ensures, c.from-transitions.ensures) at c.in_err-pre.ensures))

pub returns : goal.returns
returns c =
    rw (c.from-places.ensures, c.from-transitions.ensures)
    (net_read c.args.r.now _ c.in_ok-number.ensures _ c.in_ok-number-2.ensures _ (rw (c.from-places.ensures, c.from-transitions.ensures) at c.in_ok-pre.ensures))
