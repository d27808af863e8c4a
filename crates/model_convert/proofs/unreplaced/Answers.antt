use mathlib.Core.Path.{sym, ap, ◌∙◌}
use borrow.Author.Rules.{rules}
use Rattle.eos.proofs.FailingLaws.{failing_on, failing_here, failing_end}
use Rattle.model.specs.Held.{told}
use Rattle.model.proofs.HeldTests.{held-is, most-events}
use Rattle.model.proofs.ModelSized.{told-sized}
use Rattle.model_convert.proofs.WholeLaws.{from_first, replaceable_read}
use Rattle.model_convert.proofs.unreplaced.Goals as goal

pub shared_ref_as_front-events : goal.shared_ref_as_front-events
shared_ref_as_front-events c = most-events _ (held-is _ c.requires)

pub offset_bounds-m-k : goal.offset_bounds-m-k
offset_bounds-m-k c = let few = most-events _ (held-is _ c.requires) in search rules

pub loop-k-init : goal.loop-k-init
loop-k-init c = from_first c.args.m.now

pub returns-then-not-replaceable : goal.returns-then-not-replaceable
returns-then-not-replaceable c =
    let m = c.args.m.now in
    let here = replaceable_read m (told-sized m c.type_inv.m) (held-is m c.requires) c.loop-k.k c.loop-k-test.true _ in
    ap told (sym (failing_here _ _ _ c.loop-k-test.true (sym here ∙ sym c.replaceable.ensures ∙ c.if-not-replaceable.true)) ∙ c.loop-k.invariant)

pub loop-k-preserved : goal.loop-k-preserved
loop-k-preserved c =
    let m = c.args.m.now in
    let here = replaceable_read m (told-sized m c.type_inv.m) (held-is m c.requires) c.loop-k.k c.loop-k-test.true _ in
    sym (failing_on _ _ _ c.loop-k-test.true (sym here ∙ sym c.replaceable.ensures ∙ c.if-not-replaceable.false)) ∙ c.loop-k.invariant

pub returns : goal.returns
returns c = ap told (sym (failing_end _ _ _ c.loop-k-test.false) ∙ c.loop-k.invariant)
