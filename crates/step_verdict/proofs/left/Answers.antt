-- `left` is the test of what is given, on the places that the event names, or on those of what is taken.
use Prim.Native.Nat.{ℕ}
use mathlib.Core.Path.{ap, ap₂, ◌∙◌}
use mathlib.Core.List.{List}
use Rattle.eos.specs.Vector.{eq_v}
use Rattle.marking.proofs.TokenOrder.{same_lists}
use Rattle.step.proofs.VerdictLaws.{given_named, given_alone}
use Rattle.step_verdict.proofs.left.Goals as goal

pub returns-then-rule-eq0 : goal.returns-then-rule-eq0
returns-then-rule-eq0 c =
    let a = c.args in
    same_lists c.outer_of.result a.rule.now.post.outer _ c.eq.ensures ∙ ap (λ (v : List ℕ). eq_v v a.rule.now.post.outer) c.outer_of.ensures
    ∙ given_named a.rule.now a.taken.now c.if-rule-eq0.true a.given.now

pub returns : goal.returns
returns c =
    let a = c.args in
    same_lists c.outer_of-2.result c.outer_of-3.result _ c.eq-2.ensures ∙ ap₂ eq_v c.outer_of-2.ensures c.outer_of-3.ensures ∙ given_alone a.rule.now a.taken.now c.if-rule-eq0.false a.given.now
