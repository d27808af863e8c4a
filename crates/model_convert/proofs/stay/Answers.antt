use Prim.Native.Nat.{◌≤◌, ◌<◌}
use borrow.Author.Rules.{rules}
use native.Mathlib.Omega.{arith}
use Rattle.model.proofs.HeldTests.{held-is, most-events}
use Rattle.model.proofs.ModelSized.{told-sized}
use Rattle.model_convert.proofs.KeptLaws.{begins, few_now, most_at, turns, ends}
use Rattle.model_convert.proofs.stay.Goals as goal
use Rattle.model_convert.proofs.stay.Goals.{After-join-at}

pub loop-k-init : goal.loop-k-init
loop-k-init c = rw c.empty-none.ensures (begins c.args.m.now)

pub offset_bounds-m-k : goal.offset_bounds-m-k
offset_bounds-m-k c = let few = most-events _ (held-is _ c.requires) in search rules

pub bounds-m-k : goal.bounds-m-k
bounds-m-k c = omega (arith, most-events _ (held-is _ c.requires))

pub join-at-requires : goal.join-at-requires
join-at-requires c = omega (arith, few_now _ _ _ _ _ c.loop-k.invariant, most-events _ (held-is _ c.requires))

-- a position is below 64
near : (c : After-join-at) → c.join-at.result < 64
near c =
    let m = c.args.m.now in
    let l = c.loop-k in
    let most : c.join-at.result ≤ l.n = rw c.join-at.ensures.at (most_at _ _ l.n l.kept) in
    omega (arith, most, few_now m l.k l.n l.kept l.numbers l.invariant, most-events m (held-is m c.requires))

pub overflow_cast-numbers : goal.overflow_cast-numbers
overflow_cast-numbers c = let h = near (goal.at.overflow_cast-numbers c).After-join-at in search rules

pub overflow_add-numbers : goal.overflow_add-numbers
overflow_add-numbers c = let h = near (goal.at.overflow_add-numbers c).After-join-at in search rules

pub bounds-numbers-k : goal.bounds-numbers-k
bounds-numbers-k c = omega (arith, most-events _ (held-is _ c.requires))

pub overflow_add-at : goal.overflow_add-at
overflow_add-at c = let h = near (goal.at.overflow_add-at c).After-join-at in search rules

pub loop-k-preserved : goal.loop-k-preserved
loop-k-preserved c =
    let m = c.args.m.now in
    let l = c.loop-k in
    let t = turns m (told-sized m c.type_inv.m) (held-is m c.requires) l.k l.n l.kept l.numbers l.invariant c.loop-k-test.true _ _ c.join-at.ensures.at _ c.join-at.ensures.joined in
    rw c.max-n.ensures t

pub returns-clause-listed : goal.returns-clause-listed
returns-clause-listed c = let l = c.loop-k in (ends _ l.k l.n l.kept l.numbers l.invariant c.loop-k-test.false).0

pub returns-clause-kept : goal.returns-clause-kept
returns-clause-kept c = let l = c.loop-k in (ends _ l.k l.n l.kept l.numbers l.invariant c.loop-k-test.false).1

pub returns-clause-numbers : goal.returns-clause-numbers
returns-clause-numbers c = let l = c.loop-k in (ends _ l.k l.n l.kept l.numbers l.invariant c.loop-k-test.false).2
