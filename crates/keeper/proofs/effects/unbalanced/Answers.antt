-- `unbalanced` is the first event whose effect is not 0, for the weights that are held.
use mathlib.Core.Path.{◌≡◌, ap, subst, ◌∙◌}
use mathlib.Core.List.{List}
use native.Mathlib.Omega.{arith}
use borrow.Author.Rules.{rules}
use lib.IntN.{ℤ}
use lib.ListN.{length, take}
use lib.Seq.{length-take-le}
use Rattle.model.proofs.HeldTests.{held-is, most-nets, most-events}
use Rattle.weigh.specs.Sums.{Gains}
use Rattle.weigh.proofs.NumberLaws.{numbers_same}
use Rattle.keeper.specs.declared.HeldWeights.{HeldWeights}
use Rattle.keeper.proofs.HeldRows.{Kept}
use Rattle.keeper.proofs.BalanceLaws.{act_in, event_listed, first-unbalanced, found_within}
use Rattle.keeper.proofs.effects.unbalanced.Goals as goal

pub of-requires : goal.of-requires
of-requires c = (omega arith, (omega arith, (most-nets _ (held-is _ c.requires.tested), (omega arith, λ k d p i e q. tt))))

pub shared_ref_as_front-listed : goal.shared_ref_as_front-listed
shared_ref_as_front-listed c = omega (arith, most-events _ (held-is _ c.requires.tested))

pub first_unbalanced-requires : goal.first_unbalanced-requires
first_unbalanced-requires c =
    let m = c.args.m.now in
    let listed = most-events m (held-is m c.requires.tested) in
    let room = c.requires.room.1 in
    let long : length (take m.listed m.events) ≡ m.listed = length-take-le m.listed m.events (omega arith) in
    λ k h. rw (event_listed m k (omega arith)) (act_in m c.requires.tested k (omega arith))

pub returns : goal.returns
returns c =
    let m = c.args.m.now in
    let listed = most-events m (held-is m c.requires.tested) in
    let room = c.requires.room.1 in
    let long : length (take m.listed m.events) ≡ m.listed = length-take-le m.listed m.events (omega arith) in
    record {
      first = λ w h.
          let kept : Kept m w = record { held = c.requires.tested; types = search rules; objects = c.requires.room.0; shaped = h.shaped } in
          let rows = numbers_same c.args.held.now.rows ∙ ap (λ (x : HeldWeights). x.rows) h.is in
          let g = subst (λ (r : List (List ℤ)). Gains m r c.of.result.rows) rows c.of.ensures.rows in
          rw c.of.ensures.nets at c.first_unbalanced.ensures ∙ first-unbalanced m w kept c.of.result.rows g (omega arith);
      within = rw c.first_unbalanced.ensures (found_within _ (length (take m.listed m.events)) 64 (omega arith));
    }
