-- `covers` is the test of all weights: the outer ones, and those of each net.
use borrow.Author.Rules.{rules}
use mathlib.Core.Path.{refl, sym, ap, ◌∙◌}
use mathlib.Core.List.{[]}
use native.Mathlib.Omega.{arith}
use native.Mathlib.Nat.{sub-zero}
use Rattle.std.proofs.lemmas.Iterator.{YieldsList-from_range}
use Rattle.std.proofs.lemmas.Iterator.Search.{all_from_yields_List}
use Rattle.eos.specs.Multiset.{every}
use Rattle.model.proofs.HeldTestLoops.{and_no, and_yes}
use Rattle.model.proofs.RuleLoops.{all_same}
use Rattle.weigh.specs.Sums.{numbers, enough, net_covered, covered}
use Rattle.weigh.proofs.NumberLaws.{first_numbers}
use Rattle.weigh_cover.proofs.covers.Goals as goal

pub returns-then-all_enough : goal.returns-then-all_enough
unfolding covered
returns-then-all_enough g c =
    let a = c.args in
    let number = g.W.Factor.number in
    let nets = a.m.now.nets in
    let net = net_covered a.m.now.objects (numbers number a.weights.now) a.sum in
    let row = first_numbers number a.m.now.places a.weights.now 0 [] (omega (arith, c.told-weights)) in
    let outer = ap (every (enough a.most a.sum)) row in
    and_yes _ _ _ (sym outer ∙ sym c.all_enough.ensures ∙ c.if-all_enough.true)
    (all_from_yields_List net _ _ _ c.all.ensures.ran (YieldsList-from_range 0 nets nets refl (sub-zero nets)) (λ x b q k. search rules)
    ∙ all_same nets _ net (λ i. refl))

pub returns-else-all_enough : goal.returns-else-all_enough
unfolding covered
returns-else-all_enough g c =
    let a = c.args in
    let row = first_numbers g.W.Factor.number a.m.now.places a.weights.now 0 [] (omega (arith, c.told-weights)) in
    let outer = ap (every (enough a.most a.sum)) row in
    c.if-all_enough.false ∙ and_no _ _ (sym outer ∙ sym c.all_enough.ensures ∙ c.if-all_enough.false)
