-- `on_nets` asks the tests 9 and 10 in their order.
use Prim.Native.Nat.{ℕ}
use mathlib.Core.Bool.{Bool}
use mathlib.Core.Path.{sym, ap, ◌∙◌}
use native.Mathlib.Omega.{arith}
use Rattle.eos.specs.Vector.{le_v}
use Rattle.eos.specs.Causes.{failing}
use Rattle.model.specs.Held.{row_at, told}
use Rattle.step.specs.VerdictParts.{even_in}
use Rattle.eos.proofs.FirstLaws.{failing-least}
use Rattle.step.proofs.VerdictLaws.{told_some, taken_same, given_same, stop_short, stop_unequal, pass_nets}
use Rattle.step_verdict.proofs.on_nets.Goals as goal

pub overflow_add-result : goal.overflow_add-result
overflow_add-result c =
    let q = c.args.rule.now in
    let f : ℕ → Bool = λ n. le_v (row_at q.pre.inner n) (row_at c.add_insides.new.sums n) in
    omega (arith, (failing-least q.nets f c.in-Some.net (told_some (failing q.nets 0 f) c.in-Some.net c.in-Some.ensures)).within, c.requires.0.nets)

pub returns-in-Some : goal.returns-in-Some
returns-in-Some c =
    let a = c.args in
    sym (stop_short _ a.rule.now a.taken.now a.given.now c.in-Some.net
    (c.in-Some.ensures ∙ ap told (taken_same a.rule.now a.taken.now _ c.requires.0.nets c.add_insides.ensures)))

pub overflow_add-result-in-Some-unbalanced_net : goal.overflow_add-result-in-Some-unbalanced_net
overflow_add-result-in-Some-unbalanced_net c =
    let q = c.args.rule.now in
    let n = c.in-Some-unbalanced_net.net in
    let f : ℕ → Bool = even_in c.add_insides-2.new.sums c.add_insides.new.sums q.pre.inner q.post.inner in
    omega (arith, (failing-least q.nets f n (told_some (failing q.nets 0 f) n c.in-Some-unbalanced_net.ensures)).within, c.requires.0.nets)

pub returns-in-Some-unbalanced_net : goal.returns-in-Some-unbalanced_net
returns-in-Some-unbalanced_net c =
    let a = c.args in
    let q = a.rule.now in
    sym (stop_unequal _ q a.taken.now a.given.now
    (c.in_default.ensures ∙ ap told (taken_same q a.taken.now _ c.requires.0.nets c.add_insides.ensures)) c.in-Some-unbalanced_net.net
    (c.in-Some-unbalanced_net.ensures ∙ ap told (given_same q a.taken.now _ c.requires.0.nets c.add_insides.ensures a.given.now _ c.add_insides-2.ensures)))

pub returns : goal.returns
returns c =
    let a = c.args in
    let q = a.rule.now in
    sym (pass_nets _ q a.taken.now a.given.now
    (c.in_default.ensures ∙ ap told (taken_same q a.taken.now _ c.requires.0.nets c.add_insides.ensures))
    (c.in_default-unbalanced_net.ensures ∙ ap told (given_same q a.taken.now _ c.requires.0.nets c.add_insides.ensures a.given.now _ c.add_insides-2.ensures)))
