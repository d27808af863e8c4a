use native.Mathlib.Omega.{arith}
use Rattle.text.proofs.Basics.{handed_on}
use Rattle.marking.specs.Held.{as_sizes}
use Rattle.marking.specs.Reading.{limits}
use Rattle.marking.proofs.BlockExactly.{room_none}
use Rattle.marking.proofs.BlockLaws.{going_start, going_kept, line_fits, going_turn, going_bad, going_out, going_done}
use Rattle.marking_read.proofs.net_tokens.Goals as goal

pub loop-init : goal.loop-init
loop-init c = let a = c.args in rw c.empty.ensures (going_start (limits 256 65535) (as_sizes a.z.now) a.room a.n a.r.now (room_none a.room))

pub returns-in_err-entry : goal.returns-in_err-entry
returns-in_err-entry c =
    let a = c.args in
    let l = c.loop in
    rw (handed_on _ c.from_residual.ensures.1)
    (going_bad (limits 256 65535) (as_sizes a.z.now) a.room a.n a.r.now _ _ _ l.invariant _ _ (omega arith) c.in_err-entry.ensures)

pub insert-requires : goal.insert-requires
insert-requires c =
    let a = c.args in
    let k = going_kept (limits 256 65535) (as_sizes a.z.now) a.room a.n a.r.now _ _ _ c.loop.invariant c.requires.0 in
    let f = line_fits (as_sizes a.z.now) c.loop.r _ c.in_ok-entry.ensures in
    (c.requires.0, k.0, f.0, f.1, k.1)

pub returns-then-not-insert : goal.returns-then-not-insert
returns-then-not-insert c =
    let a = c.args in
    let l = c.loop in
    rw c.refuse.ensures.told
    (going_out (limits 256 65535) (as_sizes a.z.now) a.room a.n a.r.now _ _ _ l.invariant _ _ c.refuse.ensures.stands _ _ (omega arith) c.requires.1 c.in_ok-entry.ensures c.if-not-insert.ensures)

pub loop-preserved : goal.loop-preserved
loop-preserved c =
    let a = c.args in
    going_turn (limits 256 65535) (as_sizes a.z.now) a.room a.n a.r.now _ _ _ c.loop.invariant _ _ _ (omega arith) c.requires.1 c.in_ok-entry.ensures c.if-not-insert.ensures

pub returns : goal.returns
returns c =
    let a = c.args in
    going_done (limits 256 65535) (as_sizes a.z.now) a.room a.n a.r.now _ _ _ c.loop.invariant (omega arith)
