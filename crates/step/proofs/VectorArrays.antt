-- Laws of sums of vectors, and of sums kept in an array.
use Prim.Native.Nat.{ℕ, zero, suc, ◌+◌, ◌*◌, ◌≤◌, ◌<◌}
use mathlib.Core.Path.{◌≡◌, refl, sym, ap, ap₂, subst, ◌∙◌}
use mathlib.Core.List.{List, [], ◌∷◌, ◌++◌}
use native.Mathlib.Omega.{arith}
use native.Mathlib.Numerals.{add-one}
use lib.ListN.{length, take, set, get_or-eq_default}
use lib.Seq.{take-suc, take_all, length-take-le}
use Rattle.eos.specs.Vector.{◌⊕◌, ◌⊖◌, times, zeros, unit}
use Rattle.eos.proofs.VectorLaws.{get_d-⊕}
use Rattle.eos.proofs.VectorSums.{length-times, nth-times}
use Rattle.model.specs.Rules.{nth}

pub sum_nil : (x : List ℕ) → x ⊕ [] ≡ x
sum_nil [] = refl
sum_nil (a ∷ x) = refl

pub sum_assoc : (x y z : List ℕ) → x ⊕ (y ⊕ z) ≡ (x ⊕ y) ⊕ z
sum_assoc [] y z = refl
sum_assoc (a ∷ x) [] z = refl
sum_assoc (a ∷ x) (b ∷ y) [] = refl
sum_assoc (a ∷ x) (b ∷ y) (c ∷ z) = let e : a + (b + c) ≡ a + b + c = omega arith in ap₂ ◌∷◌ e (sum_assoc x y z)

pub at_least : (x y : List ℕ) → length y ≤ length (x ⊕ y)
at_least [] y = omega arith
at_least (a ∷ x) [] = omega arith
at_least (a ∷ x) (b ∷ y) = omega (arith, at_least x y)

-- ---- zeros and one

pub zeros-left : (n : ℕ) (y : List ℕ) → n ≤ length y → zeros n ⊕ y ≡ y
zeros-left zero y h = refl
zeros-left (suc n) [] h = absurd (omega arith)
zeros-left (suc n) (b ∷ y) h = let e : 0 + b ≡ b = omega arith in ap₂ ◌∷◌ e (zeros-left n y (omega arith))

pub zeros_right : (n : ℕ) (x : List ℕ) → n ≤ length x → x ⊕ zeros n ≡ x
zeros_right zero x h = sum_nil x
zeros_right (suc n) [] h = absurd (omega arith)
zeros_right (suc n) (a ∷ x) h = let e : a + 0 ≡ a = omega arith in ap₂ ◌∷◌ e (zeros_right n x (omega arith))

times_unit : (n p i : ℕ) → n * nth (unit p) i ≤ n
times_unit n zero zero = omega arith
times_unit n zero (suc i) = omega arith
times_unit n (suc p) zero = omega arith
times_unit n (suc p) (suc i) = times_unit n p i

-- ---- sums in an array

-- so many more at p
pub put_units : (n : ℕ) (s : List ℕ) (p : ℕ) → p < length s → set s p (nth s p + n) ≡ s ⊕ times n (unit p)
put_units n [] p h = absurd (omega arith)
put_units n (a ∷ s) zero h = let e : a + n ≡ a + n * 1 = omega arith in ap₂ ◌∷◌ e (sym (sum_nil s))
put_units n (a ∷ s) (suc p) h = let e : a ≡ a + n * 0 = omega arith in ap₂ ◌∷◌ e (put_units n s p (omega arith))

pub units_more : (n : ℕ) (s : List ℕ) (p b : ℕ) → ((k : ℕ) → nth s k ≤ b) → (k : ℕ) → nth (s ⊕ times n (unit p)) k ≤ b + n
units_more n s p b h k = omega (arith, get_d-⊕ s (times n (unit p)) k, nth-times n (unit p) k, times_unit n p k, h k)

-- the next number of a row that is added
pub put_next_lem : (s v : List ℕ) (x : ℕ) → length v < length s → set (s ⊕ v) (length v) (nth (s ⊕ v) (length v) + x) ≡ s ⊕ (v ++ (x ∷ []))
put_next_lem [] v x h = absurd (omega arith)
put_next_lem (a ∷ s) [] x h = ap (λ (k : List ℕ). (a + x) ∷ k) (sym (sum_nil s))
put_next_lem (a ∷ s) (b ∷ v) x h = ap (λ (k : List ℕ). (a + b) ∷ k) (put_next_lem s v x (omega arith))

put_at : (s v : List ℕ) (x k : ℕ) → length v ≡ k → k < length s → set (s ⊕ v) k (nth (s ⊕ v) k + x) ≡ s ⊕ (v ++ (x ∷ []))
put_at s v x k e h =
    subst (λ (j : ℕ). set (s ⊕ v) j (nth (s ⊕ v) j + x) ≡ s ⊕ (v ++ (x ∷ []))) e (put_next_lem s v x (omega (arith, e)))

-- a row added to another of 32 so many times, number by number
module _ (n : ℕ) (s l : List ℕ) (k : ℕ) (room : length s ≡ 32) (long : length l ≡ 32) (h : k < 32) where
  abbrev more : List ℕ
  more = times n l

  more_long : length more ≡ 32
  more_long = length-times n l ∙ long

  part_long : length (take k more) ≡ k
  part_long = length-take-le k more (omega (arith, more_long))

  -- the next number still is what it was
  pub add_at : nth (s ⊕ take k more) k ≡ nth s k
  add_at = omega (arith, get_d-⊕ s (take k more) k, get_or-eq_default (take k more) 0 {n = k} (omega (arith, part_long)))

  pub add_turn : set (s ⊕ take k more) k (nth (s ⊕ take k more) k + n * nth l k) ≡ s ⊕ take (k + 1) more
  add_turn =
      let e : take (suc k) more ≡ take k more ++ (nth more k ∷ []) = take-suc more k 0 (omega (arith, more_long)) in
      rw (add-one k, e, nth-times n l k) (put_at s (take k more) (n * nth l k) k part_long (omega arith))

-- all of them
pub all_times : (n k : ℕ) (s l : List ℕ) → length l ≡ 32 → 32 ≤ k → s ⊕ take k (times n l) ≡ s ⊕ times n l
all_times n k s l long h = ap (λ (v : List ℕ). s ⊕ v) (take_all k (times n l) (omega (arith, length-times n l)))

-- ---- a difference
pub length-less : (x y : List ℕ) → length (x ⊖ y) ≡ length x
length-less [] y = refl
length-less (a ∷ x) [] = refl
length-less (a ∷ x) (b ∷ y) = ap suc (length-less x y)
