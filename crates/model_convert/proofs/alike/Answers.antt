-- `alike` is the theory's, of as they are held.
use Rattle.model_convert.proofs.LikeLaws.{by_counts, by_type, by_first, by_second}
use Rattle.model_convert.proofs.alike.Goals as goal

pub returns-then-type_of : goal.returns-then-type_of
returns-then-type_of c =
    let i = c.in-Idle-Idle in
    by_counts _ _ _ i.p i.q i.ensures i.ensures' (rw (c.type_of.ensures, c.type_of-in-Idle-Idle.ensures) at c.if-type_of.true) _ c.eq.ensures

pub returns-in_default : goal.returns-in_default
returns-in_default c = by_second _ _ _ _ c.act-2.ensures c.in_default.not-Idle-1

pub returns-in_default-2 : goal.returns-in_default-2
returns-in_default-2 c = by_first _ _ _ _ c.act.ensures c.in_default.not-Idle-0

pub returns-else-type_of : goal.returns-else-type_of
returns-else-type_of c =
    let i = c.in-Idle-Idle in
    rw (c.type_of.ensures, c.type_of-in-Idle-Idle.ensures) (by_type _ _ _ i.p i.q i.ensures i.ensures' (rw (c.type_of.ensures, c.type_of-in-Idle-Idle.ensures) at c.if-type_of.false))
