-- `dot` is the product of factors and counts: each summand is at most the limit of the one times that of the other.
use mathlib.Core.Path.{ap, ◌∙◌}
use mathlib.Core.List.{map}
use mathlib.Core.Logic.{inl, inr}
use native.Mathlib.Omega.{arith}
use lib.ListN.{length-map}
use Rattle.weigh.proofs.DotLaws.{held_is, held_within, held_fits, sum_fits, added_next, added_fits, added_up, added_within, all_rest}
use Rattle.weigh.proofs.dot.Goals as goal

pub overflow_mul-sum : goal.overflow_mul-sum
overflow_mul-sum g c = held_fits c.wide.ensures c.wide-in-loop-factor.ensures

pub overflow_add-sum : goal.overflow_add-sum
overflow_add-sum g c =
    let p = held_within c.wide.ensures c.wide-in-loop-factor.ensures in
    let long = length-map c.args.factors.now g.F.Factor.number in
    let few = sum_fits c.wide.ensures c.wide-in-loop-factor.ensures _ (omega (arith, long, c.requires.few)) in
    added_fits _ c.loop-factor.sum-bits _ few c.loop-factor.invariant.2 (ap (map g.F.Factor.number) c.in-Some.ensures.steps.0) p.0 p.1

pub loop-factor-preserved : goal.loop-factor-preserved
loop-factor-preserved g c =
    let l = c.loop-factor in
    let s = c.in-Some.ensures.steps in
    let i = l.invariant in
    let p = held_within c.wide.ensures c.wide-in-loop-factor.ensures in
    let long = length-map c.args.factors.now g.F.Factor.number in
    let few = sum_fits c.wide.ensures c.wide-in-loop-factor.ensures _ (omega (arith, long, c.requires.few)) in (
      i.0,
      i.1,
      added_next _ l.sum-bits l.yielded _ few i.2 (ap (map g.F.Factor.number) s.0) (ap (map g.C.Count.count) s.1)
          (held_is c.wide.ensures c.wide-in-loop-factor.ensures) p.0 p.1,
      all_rest g.F.Factor.within s.0 i.3,
    )

pub returns-clause-value : goal.returns-clause-value
returns-clause-value g c =
    added_up _ c.loop-factor.invariant.2
    (elim c.in-None.ensures.steps [ inl x ↦ inl (length-map _ g.F.Factor.number ∙ x.1.0) | inr x ↦ inr (length-map _ g.C.Count.count ∙ x.1.0) ])

pub returns-clause-low : goal.returns-clause-low
returns-clause-low g c =
    let long = length-map c.args.factors.now g.F.Factor.number in
    (added_within _ c.loop-factor.invariant.2 (omega (arith, long, c.requires.few))).0
