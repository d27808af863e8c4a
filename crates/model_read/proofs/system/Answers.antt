-- `system` reads the lines from `moves` to the last object net: one of them is refused, or it is held.
use Rattle.text.proofs.Basics.{handed_on}
use Rattle.model_text.proofs.PartLaws.{moves_refused, moves_few, rows_refused, objects_refused, system_read}
use Rattle.model_read.proofs.system.Goals as goal

pub returns-in_err-number : goal.returns-in_err-number
returns-in_err-number c =
    let m = c.args.m.now in
    rw (handed_on _ c.from_residual.ensures.1) (moves_refused m c.args.r.now _ c.in_err-number.ensures)

pub tables-requires : goal.tables-requires
tables-requires c =
    let m = c.args.m.now in
    (rw c.from-moves.ensures (moves_few m c.args.r.now _ c.in_ok-number.ensures), c.requires.1)

pub returns-in_err-pre : goal.returns-in_err-pre
returns-in_err-pre c =
    let m = c.args.m.now in
    rw (handed_on _ c.from_residual-in_err-pre.ensures.1) (rows_refused m c.args.r.now _ c.in_ok-number.ensures _ (rw c.from-moves.ensures at c.in_err-pre.ensures))

pub returns-in_err-nets : goal.returns-in_err-nets
returns-in_err-nets c =
    let m = c.args.m.now in
    rw (handed_on _ c.from_residual-in_err-nets.ensures.1) (objects_refused m c.args.r.now _ c.in_ok-number.ensures _ (rw c.from-moves.ensures at c.in_ok-pre.ensures) _ c.in_err-nets.ensures.read)

pub returns : goal.returns
returns c =
    let m = c.args.m.now in
    rw c.from-moves.ensures (system_read m c.args.r.now _ c.in_ok-number.ensures _ (rw c.from-moves.ensures at c.in_ok-pre.ensures) _ c.in_ok-nets.ensures.read)
