-- `judged` meets its contract: all weights 0, an event that is not balanced, or weights that pass.
use borrow.Author.Rules.{rules}
use mathlib.Core.Path.{◌≡◌, sym, ap, ap₂, ◌∙◌}
use mathlib.Core.List.{List}
use native.Mathlib.Omega.{arith}
use lib.ListN.{length-take}
use lib.IntN.{ℤ, nat_abs}
use Rattle.weigh.specs.Sums.{marking_weight, covered}
use Rattle.weigh.proofs.NumberLaws.{numbers_same}
use mir.Syntax.{w64}
use mir.Val.{to_z, of_z}
use Rattle.std.proofs.lemmas.Int.{ints}
use Rattle.eos.specs.Multiset.{every}
use Rattle.eos.specs.Weights.{is_zero}
use Rattle.model.proofs.HeldTests.{held-is, most-nets, most-places}
use Rattle.marking.specs.declared.Entry.{Entry}
use Rattle.marking.proofs.SizeLaws.{nets-small, type-few}
use Rattle.keeper.specs.declared.HeldWeights.{HeldWeights}
use Rattle.keeper.proofs.HeldRows.{Kept}
use Rattle.keeper.proofs.ZeroLaws.{zero_is}
use Rattle.keeper.proofs.JudgeLaws.{model-held, marking_held, entries_few, places_in, turned_zero, turned-event, none_turned, passed_is}
use Rattle.std.specs.Prelude.{Ok}
use Rattle.keeper.proofs.judged.Goals as goal

pub overflow_add-result : goal.overflow_add-result
overflow_add-result c = omega (arith, most-nets _ (held-is _ (model-held _ _ c.requires.both)))

pub unbalanced-requires : goal.unbalanced-requires
unbalanced-requires c = record { tested = model-held _ _ c.requires.both; room = c.requires.room }

pub returns-then-all_zero : goal.returns-then-all_zero
returns-then-all_zero c =
    let m = c.args.m.now in
    λ w h.
    let kept : Kept m w = record { held = model-held _ _ c.requires.both; types = search rules; objects = c.requires.room.0; shaped = h.shaped } in
    let zero = zero_is m w kept ∙ sym (ap (λ (x : HeldWeights). every (every is_zero) x.rows) h.is) ∙ sym c.all_zero.ensures in
    turned_zero _ _ w _ (zero ∙ c.if-all_zero.true)

pub held-requires : goal.held-requires
held-requires c = entries_few _ _ c.requires.both

pub marking_weight-sum-requires : goal.marking_weight-sum-requires
marking_weight-sum-requires c =
    let few = entries_few _ _ c.requires.both in
    let k = c.args.k.now in
    let places = places_in _ _ c.requires.both in
    let types = type-few _ (model-held _ _ c.requires.both) in
    (omega arith, (omega arith, (rw c.held.ensures.entries (omega (arith, few, length-take k.len k.entries), places, types), (omega arith, λ k d p i e q. tt))))

pub covers-cover-requires : goal.covers-cover-requires
covers-cover-requires c =
    let h = model-held _ _ c.requires.both in
    let m = c.args.m.now in
    (omega arith, (omega arith, ((most-places m (held-is m h), most-nets m (held-is m h), nets-small m h c.requires.room.0), λ k d p i e q. tt)))

pub returns-in-Some : goal.returns-in-Some
returns-in-Some c =
    let m = c.args.m.now in
    λ w h.
    let kept : Kept m w = record { held = model-held _ _ c.requires.both; types = search rules; objects = c.requires.room.0; shaped = h.shaped } in
    let zero = zero_is m w kept ∙ sym (ap (λ (x : HeldWeights). every (every is_zero) x.rows) h.is) ∙ sym c.all_zero.ensures in
    turned-event _ _ w _ (zero ∙ c.if-all_zero.false) _ (c.unbalanced.ensures.first w h) c.in-Some.event c.in-Some.is

pub returns : goal.returns
returns c =
    let m = c.args.m.now in
    λ w h.
    let kept : Kept m w = record { held = model-held _ _ c.requires.both; types = search rules; objects = c.requires.room.0; shaped = h.shaped } in
    let zero = zero_is m w kept ∙ sym (ap (λ (x : HeldWeights). every (every is_zero) x.rows) h.is) ∙ sym c.all_zero.ensures in
    let sum : to_z w64 (of_z w64 c.marking_weight-sum.result) ≡ c.marking_weight-sum.result = omega (arith, ints) in
    let rows = numbers_same c.args.held.now.rows in
    ap Ok (passed_is m w kept c.args.k.now (marking_held _ _ c.requires.both) c.args.held.now h.is c.marking_weight-sum.result
    (c.marking_weight-sum.ensures.value ∙ ap₂ (λ (r : List (List ℤ)) (es : List Entry). marking_weight r m.types es) rows c.held.ensures.entries) _ sum _ _
    (c.covers-cover.ensures ∙ ap₂ (covered c.args.most m.places m.nets m.objects) rows (c.unsigned_abs.ensures.value ∙ ap nat_abs sum)))
    ∙ none_turned _ _ w _ (zero ∙ c.if-all_zero.false) _ (c.unbalanced.ensures.first w h) c.in_default.is
