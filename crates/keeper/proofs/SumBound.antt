-- Sums lie within 35,183,315,132,160,000 either side of 0 (02, K7): 256 entries, each of at most 65,535 net-tokens, and each of these of at most
-- one outer weight and 32 counts of 65,535 times an inner weight, weights of at most 1,000.
use Prim.Native.Nat.{ℕ, zero, suc, ◌+◌, ◌*◌, ◌≤◌, ◌<◌}
use mathlib.Core.Path.{◌≡◌, refl, ap, ◌∙◌}
use mathlib.Core.Bool.{Bool, true, false, cond, ◌&&◌}
use mathlib.Core.List.{List, [], ◌∷◌, ◌++◌, map}
use mathlib.Core.Option.{Option, none, some}
use native.Mathlib.Omega.{arith}
use native.Mathlib.Nat.{mul-le-mul, zero-add}
use lib.Dec.{leb, eqb}
use lib.IntN.{ℤ, pos, negsuc, nat_abs}
use lib.ListN.{length, get_or, replicate, length-map, get_or-map, get_or-eq_default}
use borrow.Author.Tests.{leb-true, le-leb, ne_eqb, eqb-true}
use Rattle.text.specs.Bytes.{Text}
use Rattle.text.specs.Lines.{Outcome, got, bad, every, modest}
use Rattle.keeper.specs.Split.{above, below}
use Rattle.text.proofs.Basics.{by_test, and_true}
use Rattle.text.proofs.TestLaws.{and_both, every_at-at}
use Rattle.eos.specs.Counted.{Counted, spelt}
use Rattle.eos.specs.Model as eos
use Rattle.eos.specs.Firing.{outer, inner}
use Rattle.eos.specs.Weights.{Weights, weigh, WeightCause, weight_refusal}
use Rattle.eos.proofs.CountedLaws.{spelt_grouped}
use Rattle.eos.proofs.FiringLaws.{alike}
use Rattle.model.specs.Limits.{longest, cover_limit, count_limit, alike_limit, weight_limit}
use Rattle.model.specs.Held.{SizedModel, model_of}
use Rattle.model.specs.Rules.{nth}
use Rattle.model.specs.Test.{held_model}
use Rattle.model.specs.declared.Model.{Model}
use Rattle.model.proofs.SlotLaws.{by_index}
use Rattle.marking.specs.Held.{SizedMarking, tokens_of}
use Rattle.marking.specs.Reading.{right_net_token, right_block}
use Rattle.marking.specs.Sizes.{sizes_for}
use Rattle.marking.specs.declared.Marking.{Marking}
use Rattle.marking.proofs.HoldMarking as hold
use Rattle.marking.proofs.SizeLaws.{held_roomy}
use Rattle.reader.specs.Reading.{bounds}
use Rattle.reader.specs.Answers.{held_both, held_in}
use Rattle.reader.proofs.GivenLaws.{Given, given-model, given_marking}
use Rattle.keeper.specs.Reading.{read_weight_file, right_inner, right_weights}
use Rattle.keeper.specs.Answers.{passed_weights, turned_or, judged_weights, weighed, weights_or, weight_checking, check_given}
use Rattle.keeper.proofs.SplitLaws.{dot_n, dots_n, dot_n_none, value_split, sub_above, sub_below, weight_of, weight_by, weight_none, weight_more}
use Rattle.keeper.proofs.HeldRows.{Kept, inner-long, net-long, net-small}
use Rattle.keeper.proofs.WeightsReadBack.{weights_are_right, right_shaped}

-- a weight, and a count, within its limit
abbrev Light : ℕ → Bool
Light v = leb v weight_limit

abbrev Few : ℕ → Bool
Few v = leb v count_limit

-- ---- one net-token

-- weights times counts
dot_n_most : (u x : List ℕ) → every Light u ≡ true → every Few x ≡ true → dot_n u x ≤ length u * 65535000
dot_n_most [] x p q = omega arith
dot_n_most (a ∷ u) [] p q = omega arith
dot_n_most (a ∷ u) (b ∷ x) p q =
    let l = and_true (Light a) _ p in
    let f = and_true (Few b) _ q in
    let m : a * b ≤ 1000 * 65535 = mul-le-mul (leb-true a weight_limit l.0) (leb-true b count_limit f.0) in
    omega (arith, m, dot_n_most u x l.1 f.1)

-- the weights of a net: at most 32
abbrev Row : List ℕ → Type 0
Row u = (length u ≤ 32) × (every Light u ≡ true)

abbrev Rows : List (List ℕ) → Type 0
Rows us = (n : ℕ) → Row (get_or us n [])

-- what is inside counts for its own net alone
abbrev own : ℕ → List ℕ → ℕ → List ℕ
own d x n = cond (eqb d (suc n)) x []

own_past : (d : ℕ) (x : List ℕ) (us : List (List ℕ)) (n : ℕ) → d ≤ n → dots_n us n (own d x) ≡ 0
own_past d x [] n h = refl
own_past d x (u ∷ us) n h =
    let e : dot_n u (own d x n) ≡ 0 = rw (ne_eqb d (suc n) (λ p. omega arith)) (dot_n_none u) in
    omega (arith, e, own_past d x us (suc n) (omega arith))

own_most : (d : ℕ) (x : List ℕ) → every Few x ≡ true → (us : List (List ℕ)) (n : ℕ) → Rows us → dots_n us n (own d x) ≤ 2097120000
own_most d x few [] n rows = omega arith
own_most d x few (u ∷ us) n rows =
    let row = rows 0 in
    by_test (eqb d (suc n))
    (λ h.
    let e : d ≡ suc n = eqb-true d (suc n) h in
    let f : dot_n u (own d x n) ≡ dot_n u x = rw h in
    omega (arith, f, dot_n_most u x row.1 few, row.0, own_past d x us (suc n) (omega arith)))
    (λ h.
    let f : dot_n u (own d x n) ≡ 0 = rw h (dot_n_none u) in
    omega (arith, f, own_most d x few us (suc n) (λ i. rows (suc i))))

nth_light : (u : List ℕ) (i : ℕ) → every Light u ≡ true → nth u i ≤ 1000
nth_light [] i h = omega arith
nth_light (a ∷ u) zero h = leb-true a weight_limit (and_true (Light a) _ h).0
nth_light (a ∷ u) (suc i) h = nth_light u i (and_true (Light a) _ h).1

-- ---- a marking

abbrev Counts : eos.NetToken → Bool
Counts t = every Few t.inside

abbrev Small : Counted eos.NetToken → Bool
Small l = Counts l.one && leb l.times alike_limit

module _ (m : eos.Model) (w : Weights) (f : ℤ → ℕ) (light : every Light (map f w.outward) ≡ true) (rows : Rows (map (map f) w.inward)) where
  token_most : (t : eos.NetToken) → Counts t ≡ true → weight_of m w f t ≤ 2097121000
  token_most t few =
      omega (arith, nth_light (map f w.outward) t.place light, own_most (eos.type_of m t.place) t.inside few (map (map f) w.inward) 0 rows)

  -- so many of one more
  copies_more : (t : eos.NetToken) (n : ℕ) (μ : eos.Marking) → weight_by m w f (replicate n t ++ μ) ≡ n * weight_of m w f t + weight_by m w f μ
  copies_more t zero μ = omega arith
  copies_more t (suc n) μ = omega (arith, weight_more m w f t (replicate n t ++ μ), copies_more t n μ)

  lines_most : (ls : eos.Lines) → every Small ls ≡ true → weight_by m w f (spelt ls) ≤ length ls * 137434824735000
  lines_most [] h = omega (arith, weight_none m w f)
  lines_most (l ∷ ls) h =
      let p = and_true (Small l) _ h in
      let q = and_true (Counts l.one) _ p.0 in
      let most : l.times * weight_of m w f l.one ≤ 65535 * 2097121000 = mul-le-mul (leb-true l.times alike_limit q.1) (token_most l.one q.0) in
      omega (arith, copies_more l.one l.times (spelt ls), most, lines_most ls p.1)

-- ---- a held model, a held marking of it, and weights that were read

-- a part of each weight is no larger than the weight
light_of : (f : ℤ → ℕ) → ((z : ℤ) → f z ≤ nat_abs z) → (ws : List ℤ) → every (modest weight_limit) ws ≡ true → every Light (map f ws) ≡ true
light_of f part [] h = refl
light_of f part (z ∷ ws) h =
    let p = and_true (modest weight_limit z) _ h in
    and_both (Light (f z)) _ (le-leb (f z) weight_limit (omega (arith, part z, leb-true (nat_abs z) weight_limit p.0))) (light_of f part ws p.1)

above_part : (z : ℤ) → above z ≤ nat_abs z
above_part (pos n) = omega arith
above_part (negsuc n) = omega arith

below_part : (z : ℤ) → below z ≤ nat_abs z
below_part (pos n) = omega arith
below_part (negsuc n) = omega arith

lines_small : (m : Model) (ls : eos.Lines) → every (right_net_token bounds (sizes_for m)) ls ≡ true → every Small ls ≡ true
lines_small m [] h = refl
lines_small m (l ∷ ls) h =
    let p = and_true (right_net_token bounds (sizes_for m) l) _ h in
    let r = hold.right_is bounds (sizes_for m) l p.0 in
    and_both (Small l) _ (and_both (Counts l.one) _ r.token.counts r.times) (lines_small m ls p.1)

-- within that number, either side of 0
abbrev pub Within : ℤ → Type 0
Within z = nat_abs z ≤ 35183315132160000

-- a number of which both parts are so small
parts_within : (z : ℤ) → above z ≤ 35183315132160000 → below z ≤ 35183315132160000 → Within z
parts_within (pos n) p q = p
parts_within (negsuc n) p q = q

module _ (m : Model) (k : Marking) (sized : SizedModel m) (small : SizedMarking k) where
  abbrev μ : eos.Marking
  μ = tokens_of (sizes_for m) k

  module _ (held : held_both m k ≡ true) (w : Weights) (right : right_weights (model_of m) w ≡ true) where
    model-held : held_model m ≡ true
    unfolding held_in
    model-held = (and_true (held_model m) _ held).0

    kept : Kept m w
    kept = record { held = model-held; types = sized.types; objects = sized.objects; shaped = right_shaped (model_of m) w right }

    tokens : hold.Held (sizes_for m) μ
    unfolding held_in
    tokens = (hold.held_tokens (sizes_for m) (held_roomy m model-held) k small (and_true (held_model m) _ held).1).0

    outer_right : every (modest weight_limit) w.outward ≡ true
    unfolding right_weights
    outer_right =
        let p = and_true (eqb (length w.outward) (eos.places (model_of m)) && every (modest weight_limit) w.outward) _ right in
        (and_true (eqb (length w.outward) (eos.places (model_of m))) _ p.0).1

    inner_right : (n : ℕ) → n < length w.inward → every (modest weight_limit) (get_or w.inward n []) ≡ true
    unfolding right_weights right_inner
    inner_right n h =
        let p = and_true (eqb (length w.outward) (eos.places (model_of m)) && every (modest weight_limit) w.outward) _ right in
        let q = and_true (eqb (length w.inward) (length (model_of m).nets)) _ p.1 in
        let r = rw (zero-add n) at (every_at-at (right_inner (model_of m)) w.inward 0 n [] q.1 h) in
        (and_true (eqb (length (get_or w.inward n [])) (eos.net (model_of m) n).size) _ r).1

    module _ (f : ℤ → ℕ) (part : (z : ℤ) → f z ≤ nat_abs z) where
      row_right : (n : ℕ) → Row (map f (get_or w.inward n []))
      row_right n =
          by_index (length w.inward) n
          (λ h. (
            omega (arith, length-map (get_or w.inward n []) f, net-long m w kept n (omega (arith, inner-long m w kept)), net-small m w kept n),
            light_of f part (get_or w.inward n []) (inner_right n h),
          ))
          (λ h. rw (get_or-eq_default w.inward [] h) (omega arith, refl))

      rows_right : Rows (map (map f) w.inward)
      rows_right n = rw (get_or-map (map f) w.inward n []) (row_right n)

      part_most : weight_by (model_of m) w f μ ≤ 35183315132160000
      unfolding right_block
      part_most =
          let ls = eos.entries μ in
          let p = and_true (leb (length ls) 256) _ tokens.right in
          let is : spelt ls ≡ μ = spelt_grouped eos.like alike (eos.canonical μ) ∙ tokens.ordered in
          omega (
            arith,
            lines_most (model_of m) w f (light_of f part w.outward outer_right) rows_right ls (lines_small m ls p.1),
            leb-true (length ls) 256 p.0,
            ap (weight_by (model_of m) w f) is,
          )

    weigh-within : Within (weigh (model_of m) w μ)
    unfolding weigh
    weigh-within =
        let e = value_split w (outer (model_of m) μ) (λ n. inner (model_of m) n μ) in
        let a = weight_by (model_of m) w above μ in
        let b = weight_by (model_of m) w below μ in
        parts_within (weigh (model_of m) w μ)
        (omega (arith, ap above e ∙ sub_above a b, part_most above above_part))
        (omega (arith, ap below e ∙ sub_below a b, part_most below below_part))

  -- ---- the weight check

  turned-within : (most last : ℕ) (o : Option WeightCause) (w : Weights) (z : ℤ) → Within z → Within (check_given (turned_or last o (passed_weights most w z))).sum
  unfolding turned_or
  turned-within most last none w z h = h
  turned-within most last (some why) w z h = omega arith

  file_within : held_both m k ≡ true → (s : Text) (o : Outcome Weights) → read_weight_file (model_of m) s ≡ o → Within (check_given (weighed cover_limit (model_of m) μ s o)).sum
  unfolding weighed judged_weights
  file_within held s (got w x) e =
      turned-within cover_limit (2 + length (model_of m).nets) (weight_refusal (model_of m) w) w (weigh (model_of m) w μ)
      (weigh-within held w (weights_are_right (model_of m) s 0 w x e))
  file_within held s (bad d) e = omega arith

  tested_within : (b : Bool) → held_both m k ≡ b → (s : Text) → Within (check_given (weights_or b m k s)).sum
  unfolding weights_or
  tested_within true h s = file_within h s (read_weight_file (model_of m) s) refl
  tested_within false h s = omega arith

  -- whatever the check answers
  pub sum-within : (s : Text) → Within (check_given (weight_checking m k s)).sum
  unfolding weight_checking
  sum-within s =
      by_test (leb (length s) longest)
      (λ t. rw (t, weight_checking) (tested_within (held_both m k) refl s))
      (λ t. rw (t, weight_checking) (omega arith))

-- of a model and a marking that some accepted reading gives
pub given_sum_within : (m : Model) (k : Marking) → Given m k → (s : Text) → Within (check_given (weight_checking m k s)).sum
given_sum_within m k g s = sum-within m k (given-model m k g) (given_marking m k g) s
