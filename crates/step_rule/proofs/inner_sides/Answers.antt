use borrow.Author.Rules.{rules}
use mathlib.Core.Path.{◌≡◌, ap, sym, ◌∙◌}
use mathlib.Core.List.{[]}
use native.Mathlib.Omega.{arith}
use native.Mathlib.Nat.{sub-zero}
use lib.ListN.{length, get_or, length-set}
use Rattle.model.specs.Held.{no_net, row_at}
use Rattle.model.specs.declared.ObjectNet.{ObjectNet}
use Rattle.model.proofs.ModelSized.{told-sized}
use Rattle.model.proofs.HeldTestLoops.{at_any}
use Rattle.step.specs.RuleParts.{arc_sum, net_sum, pre_arcs, post_arcs}
use Rattle.step.proofs.ArcSums.{nets_next, nets_done}
use Rattle.step.proofs.UnusedRows.{laid_over}
use Rattle.step_rule.proofs.inner_sides.Goals as goal

pub loop-n-init : goal.loop-n-init
loop-n-init c =
    let r = c.requires in
    (omega arith, r.2.long, r.3.long, rw sub-zero (laid_over _ _ r.0 _ r.2), rw sub-zero (laid_over _ _ r.0 _ r.3))

pub loop-n-preserved : goal.loop-n-preserved
loop-n-preserved c =
    let m = c.args.m.now in
    let sync = c.args.sync.now in
    let n = c.loop-n.n in
    let i = c.loop-n.invariant in
    let sized = told-sized m c.type_inv.m in
    let none : ObjectNet = record { places = 0; transitions = 0; pre = []; post = [] } in
    let net : get_or m.objects n none ≡ get_or m.objects n no_net = at_any m.objects n none no_net (omega (arith, sized.objects)) in
    let x = c.summed.ensures ∙ ap (λ (o : ObjectNet). arc_sum pre_arcs o (row_at sync n)) net in
    let y = c.summed-in-loop-n.ensures ∙ ap (λ (o : ObjectNet). arc_sum post_arcs o (row_at sync n)) net in
    let u : length c.summed.result ≡ 32 = search rules in
    let v : length c.summed-in-loop-n.result ≡ 32 = search rules in (
      omega arith,
      length-set c.loop-n.pre n c.summed.result ∙ i.1,
      length-set c.loop-n.post n c.summed-in-loop-n.result ∙ i.2,
      nets_next (net_sum pre_arcs m.objects sync) n m.nets c.loop-n.pre c.summed.result (omega arith) (sym (ap length x) ∙ u) x ∙ i.3,
      nets_next (net_sum post_arcs m.objects sync) n m.nets c.loop-n.post c.summed-in-loop-n.result (omega arith) (sym (ap length y) ∙ v) y ∙ i.4,
    )

pub returns : goal.returns
returns c =
    let m = c.args.m.now in
    let n = c.loop-n.n in (
      sym (nets_done (net_sum pre_arcs m.objects c.args.sync.now) n m.nets c.loop-n.pre (omega arith)) ∙ c.loop-n.invariant.3,
      sym (nets_done (net_sum post_arcs m.objects c.args.sync.now) n m.nets c.loop-n.post (omega arith)) ∙ c.loop-n.invariant.4,
    )
