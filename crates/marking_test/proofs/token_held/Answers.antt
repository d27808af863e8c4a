-- `token_held` meets its contract: the place first, and then what follows the counts.
use Rattle.std.proofs.Common.{rules, tests, sym, ◌∙◌, eqb, ◌≡◌, length}
use mathlib.Core.Bool.{false≢true}
use borrow.Author.Tests.{leb-true, lt-leb}
use Rattle.std.proofs.lemmas.Bool.{leb-false}
use Rattle.std.proofs.lemmas.Iterator.{YieldsList-from_slice}
use Rattle.std.proofs.lemmas.Iterator.Adapters.{YieldsList-from_skip}
use Rattle.std.proofs.lemmas.Iterator.Search.{all_from_yields_List}
use Rattle.marking.specs.Held.{as_sizes}
use Rattle.marking.proofs.HeldTests.{held_place, held_low, held_high}
use Rattle.marking_test.proofs.token_held.Goals as goal
use Rattle.marking_test.proofs.token_held.Goals.{then-t-ge1, else-t-ge1}

pub returns-then-t-z : goal.returns-then-t-z
returns-then-t-z c =
    let n : length c.args.t.now.counts ≡ 32 = search rules in
    elim c.if-t-ge1.branch [
      | then-t-ge1 w ↦ held_place (as_sizes c.args.z.now) c.args.t.now _ w.if-t-ge1.true (leb-true _ _ (sym w.value-is ∙ c.if-t-z.true)) n
          (all_from_yields_List (λ v. eqb v 0) _ _ _ c.all.ensures.ran
          (YieldsList-from_skip _ (YieldsList-from_slice c.args.t.now.counts (cc)) (c.skip.ensures.count ∙ c.size_at-size.ensures)) (λ x b q k. search (rules, tests)))
      | else-t-ge1 w ↦ absurd (false≢true (sym (lt-leb 1 c.args.t.now.place w.if-t-ge1.false) ∙ sym w.value-is ∙ c.if-t-z.true))
    ]

pub returns-else-t-z : goal.returns-else-t-z
returns-else-t-z c =
    elim c.if-t-ge1.branch [
      | then-t-ge1 w ↦ c.if-t-z.false ∙ held_high (as_sizes c.args.z.now) c.args.t.now (leb-false _ _ (sym w.value-is ∙ c.if-t-z.false))
      | else-t-ge1 w ↦ c.if-t-z.false ∙ held_low (as_sizes c.args.z.now) c.args.t.now w.if-t-ge1.false
    ]
