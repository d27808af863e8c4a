-- The check of weights, case by case: 6, 7, or they pass with their sum and cover.
use Prim.Native.Nat.{ℕ, ◌+◌, ◌≤◌}
use mathlib.Core.Path.{◌≡◌, refl, ap, ap₂, sym, ◌∙◌}
use mathlib.Core.Bool.{Bool, true, false}
use mathlib.Core.List.{List, [], ◌∷◌}
use mathlib.Core.Option.{Option, none, some}
use native.Mathlib.Omega.{arith}
use native.Mathlib.Numerals.{add-one}
use lib.IntN.{ℤ, nat_abs}
use lib.ListN.{length}
use Rattle.text.proofs.Basics.{and_true}
use Rattle.eos.specs.Model as eos
use Rattle.std.specs.Prelude as answer
use Rattle.eos.specs.Causes.{first, unless, at, failing}
use Rattle.eos.specs.Weights.{Weights, is_zero, effect, all_zero, weigh, unbalanced, weight_refusal, covers}
use Rattle.model.specs.Limits.{room_limit, count_limit}
use Rattle.model.specs.Held.{model_of, told}
use Rattle.model.specs.Test.{held_model}
use Rattle.model.specs.declared.Model.{Model}
use Rattle.model.proofs.HeldTests.{held-is, most-places}
use Rattle.marking.specs.Tokens.{entries_in, OnPlaces}
use Rattle.marking.specs.Held.{tokens_of, held_marking}
use Rattle.marking.specs.declared.Marking.{Marking}
use Rattle.marking.proofs.HoldMarking.{held_few}
use Rattle.reader.specs.Answers.{held_both, held_in}
use Rattle.marking.specs.Sizes.{sizes_for}
use Rattle.keeper.specs.Held.{hold_weights}
use Rattle.keeper.specs.Answers.{passed_weights, turned_or, judged_weights}
use Rattle.weigh.specs.Sums.{marking_weight, covered}
use Rattle.keeper.specs.declared.HeldWeights.{HeldWeights}
use Rattle.keeper.specs.declared.WeightCheck.{WeightCheck}
use Rattle.model.proofs.ShapeLaws.{nets-long, events-long}
use Rattle.keeper.proofs.HeldRows.{Kept}
use Rattle.keeper.proofs.MarkingLaws.{entries_right, on_places}
use Rattle.keeper.proofs.WeighLaws.{weigh_is}
use Rattle.keeper.proofs.CoverLaws.{covers-is}
use Rattle.std.specs.Prelude.{Err, Ok}
use Rattle.keeper.specs.declared.WeightRefusal.TheVariants.{Unbalanced, Weightless}

-- ---- a held model and a held marking

module _ (m : Model) (k : Marking) (held : held_both m k ≡ true) where
  pub model-held : held_model m ≡ true
  unfolding held_in
  model-held = (and_true (held_model m) (held_marking room_limit (sizes_for m) k) held).0

  pub marking_held : held_marking room_limit (sizes_for m) k ≡ true
  unfolding held_in
  marking_held = (and_true (held_model m) (held_marking room_limit (sizes_for m) k) held).1

  pub entries_few : k.len ≤ room_limit
  entries_few = held_few room_limit (sizes_for m) k marking_held

  pub places_in : OnPlaces (entries_in k)
  places_in = on_places (sizes_for m) (most-places m (held-is m model-held)) (entries_in k) (entries_right (sizes_for m) k marking_held)

-- ---- weights that pass

module _ (m : Model) (w : Weights) (kept : Kept m w) (k : Marking) (held : held_marking room_limit (sizes_for m) k ≡ true) (h : HeldWeights) (is : h ≡ hold_weights w) where
  abbrev sum : ℤ
  sum = weigh (model_of m) w (tokens_of (sizes_for m) k)

  pub passed_is : (z : ℤ) → z ≡ marking_weight h.rows m.types (entries_in k) → (s : ℤ) → s ≡ z → (most : ℕ) (cover : Bool)
      → cover ≡ covered most m.places m.nets m.objects h.rows (nat_abs z)
      → record { sum = s; cover = cover } ≡ passed_weights most w sum
  unfolding tokens_of
  passed_is z p s e most cover c =
      let rows-is : h.rows ≡ (hold_weights w).rows = ap (λ (x : HeldWeights). x.rows) is in
      let z-is : z ≡ sum = p ∙ ap (λ (t : List (List ℤ)). marking_weight t m.types (entries_in k)) rows-is
      ∙ sym (weigh_is m w kept (entries_in k) (entries_right (sizes_for m) k held)) in
      let c-is : cover ≡ covers most count_limit w (nat_abs sum) =
      c ∙ ap₂ (covered most m.places m.nets m.objects) rows-is (ap nat_abs z-is) ∙ sym (covers-is m w kept (nat_abs sum) most) in
      ap₂ {C = WeightCheck} (λ (x : ℤ) (y : Bool). record { sum = x; cover = y }) (e ∙ z-is) c-is

-- ---- the causes

module _ (most : ℕ) (m : Model) (w : Weights) (μ : eos.Marking) where
  abbrev first-unbalanced : Option ℕ
  first-unbalanced = failing m.listed 0 (λ k. is_zero (effect (model_of m) w (eos.event (model_of m) k)))

  -- the last line of the file
  abbrev last : ℕ
  last = 2 + length (model_of m).nets

  pub turned_zero : all_zero w ≡ true → Err (Weightless (m.nets + 2)) ≡ judged_weights most (model_of m) μ w
  unfolding judged_weights turned_or weight_refusal first unless
  turned_zero h =
      let e : m.nets + 2 ≡ 2 + m.nets = omega arith in
      rw (h, nets-long m, e)

  module _ (some_weight : all_zero w ≡ false) where
    pub turned-event : (r : answer.Option ℕ) → r ≡ told first-unbalanced → (k : ℕ) → r ≡ answer.Some k
        → Err (Unbalanced (k + 1)) ≡ judged_weights most (model_of m) μ w
    unfolding judged_weights turned_or weight_refusal first unless at
    turned-event r e k d = rw (some_weight, events-long m) (go first-unbalanced (sym d ∙ e))
      where
        go : (o : Option ℕ) → answer.Some k ≡ told o → Err (Unbalanced (k + 1)) ≡ turned_or last (first (at unbalanced o ∷ [])) (passed_weights most w (weigh (model_of m) w μ))
        go none p = let z : ◌≡◌ {A = ℕ} 0 1 = cc in absurd (omega arith)
        go (some i) p = let q : k ≡ i = cc in rw (q, add-one i)

    pub none_turned : (r : answer.Option ℕ) → r ≡ told first-unbalanced → r ≡ answer.None → Ok (passed_weights most w (weigh (model_of m) w μ)) ≡ judged_weights most (model_of m) μ w
    unfolding judged_weights turned_or weight_refusal first unless at
    none_turned r e d = rw (some_weight, events-long m) (go first-unbalanced (sym d ∙ e))
      where
        go : (o : Option ℕ) → answer.None ≡ told o → Ok (passed_weights most w (weigh (model_of m) w μ)) ≡ turned_or last (first (at unbalanced o ∷ [])) (passed_weights most w (weigh (model_of m) w μ))
        go none p = refl
        go (some i) p = let z : ◌≡◌ {A = ℕ} 0 1 = cc in absurd (omega arith)
