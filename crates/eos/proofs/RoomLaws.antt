-- Laws of room: so many unlike elements fit, and so many alike; what is part of a multiset that fits, or has few elements, fits too.
use mathlib.Core.Path.{◌≡◌, refl, ap}
use mathlib.Core.Logic.{◌↔◌}
use mathlib.Core.Bool.{Bool, true, false, ◌&&◌}
use mathlib.Core.List.{List, [], ◌∷◌, ◌++◌}
use Prim.Native.Nat.{ℕ, zero, suc, ◌+◌, ◌*◌, ◌≤◌}
use native.Mathlib.Omega.{arith}
use lib.Dec.{T, leb, leb→le, le→leb}
use lib.ListN.{length, length-map}
use Rattle.eos.specs.Multiset.{bit, count, Within, Same, Sorted}
use Rattle.eos.specs.Counted.{Counted, ones, spelt, there, up_to, total, tally, fits, under}
use Rattle.eos.specs.Model.{Marking, like, before}
use Rattle.eos.specs.Room.{Room, Fits}
use Rattle.eos.proofs.Basics.{true_is, is_true, and_l, and_r, and_i}
use Rattle.eos.proofs.MultisetLaws.{Likeness, bit_self, count_append, length-less}
use Rattle.eos.proofs.OrderLaws.{Order}
use Rattle.eos.proofs.CountedLaws.{total_none, count_spelt, under_none, tally_strict, count_tally, tally_same}
use Rattle.eos.proofs.FiringLaws.{alike, token_order}

module _ {A : Type 0} (le like : A → A → Bool) (O : Order le) (L : Likeness like) where
  -- ---- how many of each
  pub up_to_count : (n : ℕ) (es : List (Counted A)) → Sorted (under le) (ones es) → T (up_to n es) → (x : A) → count like x (spelt es) ≤ n
  up_to_count n [] s t x = omega arith
  up_to_count n (e ∷ es) s t x =
      go (like x e.one) refl (up_to_count n es s.1 (and_r (leb e.times n) (up_to n es) t) x)
    where
      go : (k : Bool) → like x e.one ≡ k → count like x (spelt es) ≤ n → count like x (spelt (e ∷ es)) ≤ n
      go true u r =
          let z : total like x es ≡ 0 = total_none like x es (rw (L.same x e.one (true_is u)) (under_none le like O L e.one (ones es) s.0)) in
          let b : total like x (e ∷ es) ≡ 1 * e.times + total like x es = rw u refl in
          omega (arith, count_spelt like L x (e ∷ es), leb→le e.times n (and_l (leb e.times n) (up_to n es) t))
      go false u r =
          let b : total like x (e ∷ es) ≡ 0 * e.times + total like x es = rw u refl in
          omega (arith, count_spelt like L x (e ∷ es), count_spelt like L x es)

  pub count_up_to : (n : ℕ) (es : List (Counted A)) → ((x : A) → count like x (spelt es) ≤ n) → T (up_to n es)
  count_up_to n [] h = tt
  count_up_to n (e ∷ es) h =
      let own : bit (like e.one e.one) * e.times ≡ 1 * e.times = ap (λ (b : ℕ). b * e.times) (bit_self like L e.one) in
      and_i (leb e.times n) (up_to n es)
      (le→leb e.times n (omega (arith, h e.one, count_spelt like L e.one (e ∷ es))))
      (count_up_to n es (λ x. omega (arith, h x, count_spelt like L x (e ∷ es), count_spelt like L x es)))

  -- ---- how many unlike
  -- what is counted is there, and each once
  ones_total : (x : A) (es : List (Counted A)) → T (there es) → count like x (ones es) ≤ total like x es
  ones_total x [] t = omega arith
  ones_total x (e ∷ es) t = go (like x e.one) (ones_total x es (and_r (leb 1 e.times) (there es) t))
    where
      go : (k : Bool) → count like x (ones es) ≤ total like x es → bit k + count like x (ones es) ≤ bit k * e.times + total like x es
      go true r = omega (arith, r, leb→le 1 e.times (and_l (leb 1 e.times) (there es) t))
      go false r = omega (arith, r)

  rising_one : (x : A) (m : List A) → Sorted (under le) m → count like x m ≤ 1
  rising_one x [] s = omega arith
  rising_one x (a ∷ m) s = go (like x a) refl (rising_one x m s.1)
    where
      go : (k : Bool) → like x a ≡ k → count like x m ≤ 1 → bit k + count like x m ≤ 1
      go true u r = rw (L.same x a (true_is u), under_none le like O L a m s.0) (omega arith)
      go false u r = omega (arith, r)

  one_each : (x : A) (m : List A) → count like x (ones (tally le like m)) ≤ count like x m
  one_each x m =
      let es : List (Counted A) = tally le like m in
      omega (arith, ones_total x es (tally_strict le like O L m).some, count_spelt like L x es, count_tally le like O L x m)

  length_ones : (m n : List A) → Within like (ones (tally le like m)) n → length (tally le like m) ≤ length n
  length_ones m n h = omega (arith, length-less like L (ones (tally le like m)) n h, length-map (tally le like m) (λ e. e.one))

  pub length_tally : (m : List A) → length (tally le like m) ≤ length m
  length_tally m = length_ones m m (λ x. one_each x m)

  pub length_part : (m n : List A) → Within like m n → length (tally le like m) ≤ length (tally le like n)
  length_part m n h =
      omega (arith, length_ones m (ones (tally le like n)) (λ x. go x (count like x (ones (tally le like n))) refl), length-map (tally le like n) (λ e. e.one))
    where
      go : (x : A) (k : ℕ) → count like x (ones (tally le like n)) ≡ k → count like x (ones (tally le like m)) ≤ k
      go x zero z =
          let fs : List (Counted A) = tally le like n in
          omega (arith, one_each x m, h x, count_tally le like O L x n, count_spelt like L x fs, total_none like x fs z)
      go x (suc k) z = omega (arith, rising_one x (ones (tally le like m)) (tally_strict le like O L m).rising)

  -- ---- the test decides
  fits_all : (u a : ℕ) (m : List A) → length (tally le like m) ≤ u → ((x : A) → count like x m ≤ a) → fits le like u a m ≡ true
  unfolding fits
  fits_all u a m h g =
      let es : List (Counted A) = tally le like m in
      is_true (leb (length es) u && up_to a es)
      (and_i (leb (length es) u) (up_to a es) (le→leb (length es) u h) (count_up_to a es (λ x. omega (arith, g x, count_tally le like O L x m))))

  fits_yes : (u a : ℕ) (m : List A) → fits le like u a m ≡ true → (length (tally le like m) ≤ u) × ((x : A) → count like x m ≤ a)
  unfolding fits
  fits_yes u a m e =
      let es : List (Counted A) = tally le like m in
      let t : T (up_to a es) = and_r (leb (length es) u) (up_to a es) (true_is e) in (
        leb→le (length es) u (and_l (leb (length es) u) (up_to a es) (true_is e)),
        λ x. omega (arith, up_to_count a es (tally_strict le like O L m).rising t x, count_tally le like O L x m),
      )

  pub fits_exactly : (u a : ℕ) (m : List A) → (fits le like u a m ≡ true) ↔ ((length (tally le like m) ≤ u) × ((x : A) → count like x m ≤ a))
  fits_exactly u a m = (fits_yes u a m, λ h. fits_all u a m h.0 h.1)

  -- a part of what fits does too
  pub fits_part : (u a : ℕ) (m n : List A) → Within like m n → fits le like u a n ≡ true → fits le like u a m ≡ true
  fits_part u a m n h e =
      let f = fits_yes u a n e in
      fits_all u a m (omega (arith, length_part m n h, f.0)) (λ x. omega (arith, h x, f.1 x))

  pub fits_front : (u a : ℕ) (m n : List A) → fits le like u a (m ++ n) ≡ true → fits le like u a m ≡ true
  fits_front u a m n = fits_part u a m (m ++ n) (λ x. omega (arith, count_append like L x m n))

  -- the order does not matter
  pub fits_same : (u a : ℕ) (m n : List A) → Same like m n → fits le like u a m ≡ fits le like u a n
  unfolding fits
  fits_same u a m n h = rw (tally_same le like O L m n h) refl

  -- few elements fit
  count_length : (x : A) (m : List A) → count like x m ≤ length m
  count_length x [] = omega arith
  count_length x (b ∷ m) = go (like x b) (count_length x m)
    where
      go : (k : Bool) → count like x m ≤ length m → bit k + count like x m ≤ suc (length m)
      go true h = omega arith
      go false h = omega arith

  pub fits_few : (u a : ℕ) (m : List A) → length m ≤ u → length m ≤ a → fits le like u a m ≡ true
  fits_few u a m h k = fits_all u a m (omega (arith, h, length_tally m)) (λ x. omega (arith, k, count_length x m))

-- ---- markings

-- a part of a marking that there is room for
pub room_part : (r : Room) (ν μ : Marking) → Within like ν μ → Fits r μ → Fits r ν
room_part r ν μ h f = record {
  room = true_is (fits_part before like token_order alike r.unlike r.alike ν μ h (is_true _ f.room));
  small = λ t c. f.small t (omega (arith, h t));
}
