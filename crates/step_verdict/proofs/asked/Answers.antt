-- `asked` is the test of what is taken, on the places that the event names, or on its net.
use Prim.Native.Nat.{ℕ}
use mathlib.Core.Path.{ap, ◌∙◌}
use mathlib.Core.List.{List}
use Rattle.eos.specs.Vector.{eq_v}
use Rattle.marking.proofs.TokenOrder.{same_lists}
use Rattle.step.proofs.VerdictLaws.{taken_named, taken_alone}
use Rattle.step_verdict.proofs.asked.Goals as goal

pub returns-then-rule-eq0 : goal.returns-then-rule-eq0
returns-then-rule-eq0 c =
    let a = c.args in
    same_lists c.outer_of.result a.rule.now.pre.outer _ c.eq.ensures ∙ ap (λ (v : List ℕ). eq_v v a.rule.now.pre.outer) c.outer_of.ensures ∙ taken_named a.rule.now a.taken.now c.if-rule-eq0.true

pub returns : goal.returns
returns c = let a = c.args in c.one_of_net.ensures ∙ taken_alone a.rule.now a.taken.now c.if-rule-eq0.false
