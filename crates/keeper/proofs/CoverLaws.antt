-- Weights cover exactly where the code's test of each weight passes.
use Prim.Native.Nat.{ℕ, zero, suc, ◌*◌, ◌/◌, ◌≤◌, ◌<◌, min}
use mathlib.Core.Path.{◌≡◌, refl, ap, sym, ◌∙◌}
use mathlib.Core.Bool.{Bool, true, false, ◌&&◌, false≢true, and-true, and-false}
use mathlib.Core.List.{List, [], ◌∷◌}
use native.Mathlib.Omega.{arith}
use lib.Dec.{leb, ltb}
use lib.IntN.{ℤ, pos, negsuc, nat_abs}
use lib.ListN.{length, take, get_or}
use lib.Seq.{length-take-le, get_or-take, ext_get_or}
use borrow.Author.Tests.{leb-true, le-leb, lt-ltb}
use Rattle.std.proofs.lemmas.Nat.{le-div}
use native.Mathlib.Nat.{mul-le-mul, div-mul-le_self, le_refl}
use Rattle.text.proofs.Basics.{by_test, by_le, and_true}
use Rattle.text.proofs.TestLaws.{within-is}
use Rattle.model.proofs.HeldTests.{held-is}
use Rattle.keeper.specs.Split.{above}
use Rattle.eos.specs.Firing.{all_below}
use Rattle.eos.specs.Multiset.{every}
use Rattle.eos.specs.Weights.{Weights, positive, least, covers}
use Rattle.model.specs.Limits.{count_limit}
use Rattle.model.specs.Held.{no_net, row_at}
use Rattle.model.specs.declared.Model.{Model}
use Rattle.keeper.specs.Held.{weight_row, hold_weights}
use Rattle.weigh.specs.Sums.{enough, net_covered, covered}
use Rattle.keeper.proofs.EveryLaws.{below_same, every-below, every_and, each_and}
use Rattle.keeper.proofs.HeldRows.{Kept, few-places, outer-long, inner-long, net-long, net-small, outer-row, inner-row, number_held, length_row}

-- three tests in another order
and_turn : (a b c : Bool) → ((a && b) && c) ≡ (b && (a && c))
and_turn true b c = refl
and_turn false true c = refl
and_turn false false c = refl

-- a weight by its part above 0
pub positive-above : (v : ℤ) → positive v ≡ ltb 0 (above v)
positive-above (pos zero) = refl
positive-above (pos (suc n)) = sym (lt-ltb 0 (suc n) (omega arith))
positive-above (negsuc n) = refl

-- ---- the sum divided by the least of weights

-- a number divided by a larger one
less_by : (sum a b : ℕ) → 1 ≤ a → a ≤ b → sum / b ≤ sum / a
less_by sum a b h p =
    let q : sum / b * a ≤ sum / b * b = mul-le-mul (le_refl (sum / b)) p in
    le-div (sum / b) sum a (omega arith) (omega (arith, q, div-mul-le_self sum b))

positive-size : (v : ℤ) → positive v ≡ true → 1 ≤ nat_abs v
positive-size (pos zero) h = absurd (false≢true h)
positive-size (pos (suc n)) h = omega arith
positive-size (negsuc n) h = absurd (false≢true h)

least-size : (l : List ℤ) → 1 ≤ length l → every positive l ≡ true → 1 ≤ least l
least-size [] n h = absurd (omega arith)
least-size (v ∷ []) n h = positive-size v (and_true (positive v) true h).0
least-size (v ∷ u ∷ l) n h =
    let p = and_true (positive v) (every positive (u ∷ l)) h in
    omega (arith, positive-size v p.0, least-size (u ∷ l) (omega arith) p.1)

both_least : (most sum a low : ℕ) → 1 ≤ a → 1 ≤ low → (leb (sum / a) most && leb (sum / low) most) ≡ leb (sum / min a low) most
both_least most sum a low h k =
    by_le a low
    (λ p.
    let e : min a low ≡ a = omega arith in
    let q = less_by sum a low h p in
    rw e
    (by_test (leb (sum / a) most)
    (λ t. rw (t, le-leb (sum / low) most (omega (arith, q, leb-true (sum / a) most t))))
    (λ t. rw t)))
    (λ p.
    let e : min a low ≡ low = omega arith in
    let q = less_by sum low a k (omega arith) in
    rw e
    (by_test (leb (sum / low) most)
    (λ t. rw (t, le-leb (sum / a) most (omega (arith, q, leb-true (sum / low) most t))))
    (λ t. rw t (and-false (leb (sum / a) most)))))

-- it is at most so many where it is for each weight
least_most : (most sum : ℕ) (l : List ℤ) → 1 ≤ length l → every positive l ≡ true → every (λ v. leb (sum / nat_abs v) most) l ≡ leb (sum / least l) most
least_most most sum [] n h = absurd (omega arith)
least_most most sum (v ∷ []) n h = and-true (leb (sum / nat_abs v) most)
least_most most sum (v ∷ u ∷ l) n h =
    let p = and_true (positive v) (every positive (u ∷ l)) h in
    ap (λ (t : Bool). leb (sum / nat_abs v) most && t) (least_most most sum (u ∷ l) (omega arith) p.1)
    ∙ both_least most sum (nat_abs v) (least (u ∷ l)) (positive-size v p.0) (least-size (u ∷ l) (omega arith) p.1)

-- ---- a row

row-taken : (ws : List ℤ) (n : ℕ) → length ws ≡ n → n ≤ 32 → take n (weight_row ws) ≡ ws
row-taken ws n long few =
    let taken : length (take n (weight_row ws)) ≡ n = length-take-le n (weight_row ws) (omega (arith, length_row ws)) in
    ext_get_or (pos 0) (take n (weight_row ws)) ws (taken ∙ sym long)
    (λ i p. get_or-take n (weight_row ws) i (pos 0) (omega arith) ∙ number_held ws (omega arith) i)

module _ (m : Model) (w : Weights) (kept : Kept m w) (sum : ℕ) where
  abbrev rows : List (List ℤ)
  rows = (hold_weights w).rows

  outer_is : (most : ℕ) → every (enough most sum) (take m.places (row_at rows 0)) ≡ every (enough most sum) w.outward
  outer_is most =
      ap (λ (l : List ℤ). every (enough most sum) (take m.places l)) (outer-row m w kept)
      ∙ ap (every (enough most sum)) (row-taken w.outward m.places (outer-long m w kept) (few-places m w kept))

  inner_is : (n : ℕ) → n < m.nets → every (enough count_limit sum) (get_or w.inward n []) ≡ net_covered m.objects rows sum n
  inner_is n p =
      sym (ap (λ (l : List ℤ). every (enough count_limit sum) (take (get_or m.objects n no_net).places l)) (inner-row m w kept n p)
      ∙ ap (every (enough count_limit sum)) (row-taken (get_or w.inward n []) (get_or m.objects n no_net).places (net-long m w kept n p) (net-small m w kept n)))

  nets_enough : every (every (enough count_limit sum)) w.inward ≡ all_below m.nets (net_covered m.objects rows sum)
  nets_enough =
      every-below (every (enough count_limit sum)) w.inward []
      ∙ ap (λ (c : ℕ). all_below c (λ n. every (enough count_limit sum) (get_or w.inward n []))) (inner-long m w kept)
      ∙ below_same m.nets _ (net_covered m.objects rows sum) inner_is

  some : 1 ≤ m.places
  some = (within-is 1 32 m.places (held-is m kept.held).places-few).0

  -- weights cover exactly where the code's test says so
  pub covers-is : (most : ℕ) → covers most count_limit w sum ≡ covered most m.places m.nets m.objects rows sum
  unfolding covers covered
  covers-is most =
      let size = λ (v : ℤ). leb (sum / nat_abs v) most in
      let small = λ (v : ℤ). leb (sum / nat_abs v) count_limit in
      let inner = every (every positive) w.inward in
      let outer : every (enough most sum) (take m.places (row_at rows 0)) ≡ (every positive w.outward && every size w.outward) =
      outer_is most ∙ every_and positive size w.outward in
      let nets : all_below m.nets (net_covered m.objects rows sum) ≡ (inner && every (every small) w.inward) = sym nets_enough ∙ each_and positive small w.inward in
      by_test (every positive w.outward)
      (λ h.
      let low : every size w.outward ≡ leb (sum / least w.outward) most = least_most most sum w.outward (omega (arith, outer-long m w kept, some)) h in
      rw (outer, nets, h, low) (and_turn inner (leb (sum / least w.outward) most) (every (every small) w.inward)))
      (λ h. rw (outer, nets, h))
