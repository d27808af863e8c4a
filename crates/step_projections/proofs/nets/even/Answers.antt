use Prim.Native.Nat.{ℕ, ◌+◌}
use mathlib.Core.Path.{sym, ap, ◌∙◌}
use native.Mathlib.Omega.{arith}
use lib.ListN.{get_or}
use Rattle.step.proofs.FirstFailing.{even_on, even_end}
use Rattle.step_projections.proofs.nets.even.Goals as goal

pub loop-k-preserved : goal.loop-k-preserved
loop-k-preserved c =
    let l = c.loop-k in
    let a = c.args in
    let added = get_or a.post.now l.k 0 in
    l.invariant
    ∙ even_on a.made.now a.held.now a.pre.now a.post.now c.told-made c.told-held c.told-post l.k l.all (c.saturating_sub.result + added) (omega arith)
    (ap (λ (v : ℕ). v + added) c.saturating_sub.ensures)

pub returns : goal.returns
returns c =
    let l = c.loop-k in
    let a = c.args in
    sym (l.invariant ∙ even_end a.made.now a.held.now a.pre.now a.post.now c.told-made c.told-held c.told-post l.k l.all c.loop-k-test.false)
