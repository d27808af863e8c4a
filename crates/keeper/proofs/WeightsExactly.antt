-- The weight check passes exactly the weights that pass: the weights of the file, some of them not 0, and every event's effect 0. Then its
-- sum is the marking's weighted sum, and its cover says whether the weights cover. Refused weights have sum 0 and cover 0.
use Prim.Native.Nat.{ℕ, ◌+◌, ◌/◌, ◌≤◌}
use mathlib.Core.Path.{◌≡◌, refl, ap, sym, ◌∙◌}
use mathlib.Core.Logic.{◌↔◌}
use mathlib.Core.Bool.{Bool, true, false, ◌&&◌}
use mathlib.Core.List.{[]}
use mathlib.Core.Option.{Option, none, some}
use native.Mathlib.Omega.{arith}
use lib.Dec.{leb}
use lib.IntN.{ℤ, pos, nat_abs}
use lib.ListN.{length, get_or}
use borrow.Author.Tests.{leb-true, le-leb, ltb-true, lt-ltb}
use Rattle.text.specs.Bytes.{Text}
use Rattle.text.proofs.Basics.{and_true}
use Rattle.text.specs.Lines.{Outcome, got, bad}
use Rattle.keeper.specs.Split.{above}
use Rattle.text.proofs.TestLaws.{and_both, every-at, every_of}
use Rattle.eos.specs.Multiset.{every}
use Rattle.eos.specs.Weights.{Weights, weigh, WeightCause, weight_refusal, Passing, positive, least, covers}
use Rattle.eos.proofs.CauseLaws.{no_cause_passes, passes_no_cause}
use Rattle.model.specs.Limits.{longest, cover_limit, count_limit}
use Rattle.model.specs.Held.{model_of}
use Rattle.model.specs.declared.Model.{Model}
use Rattle.marking.specs.Held.{tokens_of}
use Rattle.marking.specs.declared.Marking.{Marking}
use Rattle.reader.specs.Answers.{held_both}
use Rattle.marking.specs.Sizes.{sizes_for}
use Rattle.keeper.specs.Reading.{read_weight_file}
use Rattle.keeper.specs.Answers.{passed_weights, turned_or, judged_weights, weight_checking, check_given}
use Rattle.keeper.specs.Covering.{Covering}
use Rattle.keeper.specs.declared.WeightCheck.{WeightCheck}
use Rattle.keeper.proofs.CoverLaws.{positive-above}
use Rattle.keeper.proofs.CheckLaws.{check_got, check_bad}
use Rattle.std.specs.Prelude.{Ok, Result, Err}
use Rattle.keeper.specs.declared.WeightRefusal.{WeightRefusal}

-- ---- cover, part by part

some_above : (v : ℤ) → positive v ≡ true → 1 ≤ above v
some_above v h = ltb-true 0 (above v) (sym (positive-above v) ∙ h)

above_some : (v : ℤ) → 1 ≤ above v → positive v ≡ true
above_some v h = positive-above v ∙ lt-ltb 0 (above v) h

pub covers_parts : (most : ℕ) (w : Weights) (sum : ℕ) → (covers most count_limit w sum ≡ true) ↔ Covering most w sum
unfolding covers
covers_parts most w sum =
    let few : ℤ → Bool = λ v. leb (sum / nat_abs v) count_limit in (
      λ h.
          let a = and_true (every positive w.outward && every (every positive) w.inward && leb (sum / least w.outward) most) _ h in
          let b = and_true (every positive w.outward && every (every positive) w.inward) _ a.0 in
          let c = and_true (every positive w.outward) _ b.0 in
          record {
            outer_some = λ p q. some_above (get_or w.outward p (pos 0)) (every-at positive w.outward p (pos 0) c.0 q);
            inner_some = λ n i q r.
                some_above (get_or (get_or w.inward n []) i (pos 0))
                (every-at positive (get_or w.inward n []) i (pos 0) (every-at (every positive) w.inward n [] c.1 q) r);
            tokens = leb-true (sum / least w.outward) most b.1;
            counts = λ n i q r.
                leb-true (sum / nat_abs (get_or (get_or w.inward n []) i (pos 0))) count_limit
                (every-at few (get_or w.inward n []) i (pos 0) (every-at (every few) w.inward n [] a.1 q) r);
          },
      λ c.
          and_both _ _
          (and_both _ _
          (and_both (every positive w.outward) (every (every positive) w.inward)
          (every_of positive w.outward (pos 0) (λ p q. above_some (get_or w.outward p (pos 0)) (c.outer_some p q)))
          (every_of (every positive) w.inward []
          (λ n q. every_of positive (get_or w.inward n []) (pos 0) (λ i r. above_some (get_or (get_or w.inward n []) i (pos 0)) (c.inner_some n i q r)))))
          (le-leb (sum / least w.outward) most c.tokens))
          (every_of (every few) w.inward []
          (λ n q. every_of few (get_or w.inward n []) (pos 0) (λ i r. le-leb (sum / nat_abs (get_or (get_or w.inward n []) i (pos 0))) count_limit (c.counts n i q r)))),
    )

-- ---- refused weights

-- sum 0 and cover 0
abbrev pub Nothing : WeightCheck → Type 0
Nothing c = (c.sum ≡ pos 0) × (c.cover ≡ false)

-- weights that do not pass have sum 0 and cover 0, whatever is lent
pub refused-nothing : (m : Model) (k : Marking) (s : Text) → ((c : WeightCheck) → weight_checking m k s ≡ Ok c → ⊥) → Nothing (check_given (weight_checking m k s))
refused-nothing m k s n = go (weight_checking m k s) n
  where
    go : (o : Result WeightCheck WeightRefusal) → ((c : WeightCheck) → o ≡ Ok c → ⊥) → Nothing (check_given o)
    go (Ok c) n = absurd (n c refl)
    go (Err e) n = (refl, refl)

-- ---- weights that pass

pub refused≢passed : {G : Type 0} {e : WeightRefusal} {c : WeightCheck} → ◌≡◌ {A = Result WeightCheck WeightRefusal} (Err e) (Ok c) → G
refused≢passed h = let z : ◌≡◌ {A = ℕ} 0 1 = cc in absurd (omega arith)

turned-passed : (last : ℕ) (o : Option WeightCause) (c d : WeightCheck) → turned_or last o c ≡ Ok d → o ≡ none
unfolding turned_or
turned-passed last none c d h = refl
turned-passed last (some why) c d h = refused≢passed h

module _ (m : Model) (k : Marking) (s : Text) (held : held_both m k ≡ true) (few : length s ≤ longest) where
  abbrev file : Outcome Weights
  file = read_weight_file (model_of m) s

  abbrev sum : Weights → ℤ
  sum w = weigh (model_of m) w (tokens_of (sizes_for m) k)

  -- weights that pass are answered with their sum and cover
  pub passes : (w : Weights) (x : ℕ) → file ≡ got w x → Passing (model_of m) w → weight_checking m k s ≡ Ok (passed_weights cover_limit w (sum w))
  unfolding judged_weights turned_or
  passes w x e p = check_got m k s few held w x e ∙ rw (passes_no_cause (model_of m) w p)

  abbrev Found : Type 0
  Found = (w : Weights) × (x : ℕ) × (file ≡ got w x) × Passing (model_of m) w

  found : (o : Outcome Weights) → file ≡ o → (c : WeightCheck) × (weight_checking m k s ≡ Ok c) → Found
  unfolding judged_weights
  found (got w x) e (c, h) =
      (w, x, e, no_cause_passes (model_of m) w (turned-passed (2 + length (model_of m).nets) (weight_refusal (model_of m) w) _ c (sym (check_got m k s few held w x e) ∙ h)))
  found (bad d) e (c, h) = refused≢passed (sym (check_bad m k s few held d e) ∙ h)

  -- the check passes exactly where the file says weights that pass
  pub weights_exactly : ((c : WeightCheck) × (weight_checking m k s ≡ Ok c)) ↔ Found
  weights_exactly = (found file refl, λ (w, x, e, p). (passed_weights cover_limit w (sum w), passes w x e p))

  module _ (w : Weights) (x : ℕ) (e : file ≡ got w x) (p : Passing (model_of m) w) where
    given_is : check_given (weight_checking m k s) ≡ passed_weights cover_limit w (sum w)
    given_is = ap check_given (passes w x e p)

    -- then the sum is the marking's weighted sum
    pub sum_exactly : (check_given (weight_checking m k s)).sum ≡ sum w
    sum_exactly = ap (λ (c : WeightCheck). c.sum) given_is

    cover_is : (check_given (weight_checking m k s)).cover ≡ covers cover_limit count_limit w (nat_abs (sum w))
    cover_is = ap (λ (c : WeightCheck). c.cover) given_is

    -- and cover says exactly whether the weights cover
    pub cover_exactly : ((check_given (weight_checking m k s)).cover ≡ true) ↔ Covering cover_limit w (nat_abs (sum w))
    cover_exactly = (λ h. (covers_parts cover_limit w (nat_abs (sum w))).0 (sym cover_is ∙ h), λ c. cover_is ∙ (covers_parts cover_limit w (nat_abs (sum w))).1 c)
