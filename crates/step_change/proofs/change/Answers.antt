-- `change` takes the lines taken and gives those given; where that ends early, it undoes what is done.
use native.Mathlib.Omega.{arith}
use Rattle.step_change.proofs.AfterLaws.{len_part}
use Rattle.step_change.proofs.LineLaws.{placed_front}
use Rattle.step_change.proofs.ChangeLaws.{len_took, change_missing, change_crowded, change_done}
use Rattle.step_change.proofs.change.Goals as goal

pub returns-then-out-taken : goal.returns-then-out-taken
returns-then-out-taken c =
    let a = c.args in
    let q = c.requires in
    change_missing a.room a.k.now a.taken.now a.given.now q.2 q.1 _ _ c.take_all-out.ensures c.if-out-taken.true _ _ c.give_all.ensures

pub returns-then-put-given : goal.returns-then-put-given
returns-then-put-given c =
    let a = c.args in
    let q = c.requires in
    change_crowded a.room a.k.now a.taken.now a.given.now q.2 q.1 _ _ c.take_all-out.ensures c.if-out-taken.false _ _ c.give_all-put.ensures c.if-put-given.true _ _
    c.take_all.ensures _ _ c.give_all-then-put-given.ensures

pub returns : goal.returns
returns c =
    let a = c.args in
    let q = c.requires in
    change_done a.room a.k.now a.taken.now a.given.now q.2 q.1 _ _ c.take_all-out.ensures c.if-out-taken.false _ _ c.give_all-put.ensures c.if-put-given.false

pub give_all-requires : goal.give_all-requires
give_all-requires c =
    let a = c.args in
    let q = c.requires in
    let t = c.take_all-out.ensures in
    (q.0, len_took a.room a.k.now a.taken.now a.given.now q.2 q.1 _ _ t, t.kept, placed_front _ a.taken.now q.3)

pub give_all-put-requires : goal.give_all-put-requires
give_all-put-requires c =
    let a = c.args in
    let q = c.requires in
    let t = c.take_all-out.ensures in
    (q.0, len_took a.room a.k.now a.taken.now a.given.now q.2 q.1 _ _ t, t.kept, q.4)

pub take_all-requires : goal.take_all-requires
take_all-requires c = (c.give_all-put.ensures.kept, placed_front _ c.args.given.now c.requires.4)

pub give_all-requires-then-put-given : goal.give_all-requires-then-put-given
give_all-requires-then-put-given c =
    let g = c.give_all-put.ensures in
    let t = c.take_all.ensures in
    (c.requires.0, omega (arith, g.within, len_part _ g.kept _ t.kept (λ x. omega (arith, t.counts x))), t.kept, c.requires.3)
