-- Laws of sums over the numbers below n.
use Prim.Native.Nat.{ℕ, zero, suc, ◌+◌, ◌<◌}
use mathlib.Core.Path.{◌≡◌, refl, ap, ap₂, sym, ◌∙◌}
use native.Mathlib.Omega.{arith}
use native.Mathlib.Numerals.{add-one}
use lib.IntN.{ℤ, pos, ◌+ℤ◌, ◌-ℤ◌, +ℤ_assoc, +ℤ_idl, +ℤ_idr}
use Rattle.std.proofs.lemmas.Int.{ints}
use Rattle.model.proofs.SlotLaws.{by_index}
use Rattle.weigh.specs.Sums.{total}

-- one summand more, and none
pub total_on : (n : ℕ) (f : ℕ → ℤ) → total (n + 1) f ≡ total n f +ℤ f n
unfolding total
total_on n f = rw (add-one n)

pub total_none : (f : ℕ → ℤ) → total 0 f ≡ pos 0
unfolding total
total_none f = refl

-- sums of the same summands
pub total_same : (n : ℕ) (f g : ℕ → ℤ) → ((i : ℕ) → i < n → f i ≡ g i) → total n f ≡ total n g
unfolding total
total_same zero f g h = refl
total_same (suc n) f g h = ap₂ ◌+ℤ◌ (total_same n f g (λ i p. h i (omega arith))) (h n (omega arith))

-- the difference of two sums
pub total_minus : (n : ℕ) (f g : ℕ → ℤ) → total n (λ i. f i -ℤ g i) ≡ total n f -ℤ total n g
unfolding total
total_minus zero f g = refl
total_minus (suc n) f g = let e = total_minus n f g in omega (arith, ints, e)

-- the first summand stands before the others
pub total_front : (n : ℕ) (f : ℕ → ℤ) → total (suc n) f ≡ f 0 +ℤ total n (λ i. f (suc i))
unfolding total
total_front zero f = +ℤ_idl (f 0) ∙ sym (+ℤ_idr (f 0))
total_front (suc n) f = ap (λ (z : ℤ). z +ℤ f (suc n)) (total_front n f) ∙ +ℤ_assoc (f 0) (total n (λ i. f (suc i))) (f (suc n))

-- the same behind another number
pub total_begins : (first : ℤ) (f : ℕ → ℤ) → first ≡ first +ℤ total 0 f
unfolding total
total_begins first f = sym (+ℤ_idr first)

pub total_further : (first sum r : ℤ) (n : ℕ) (f : ℕ → ℤ) → sum ≡ first +ℤ total n f → r ≡ f n → sum +ℤ r ≡ first +ℤ total (n + 1) f
total_further first sum r n f p q =
    ap₂ ◌+ℤ◌ p q ∙ +ℤ_assoc first (total n f) (f n) ∙ ap (λ (z : ℤ). first +ℤ z) (sym (total_on n f))

pub total_zero : (n : ℕ) (f : ℕ → ℤ) → ((i : ℕ) → i < n → f i ≡ pos 0) → total n f ≡ pos 0
unfolding total
total_zero zero f h = refl
total_zero (suc n) f h = ap₂ ◌+ℤ◌ (total_zero n f (λ i p. h i (omega arith))) (h n (omega arith))

-- a sum of which one summand is not 0
pub total_one : (n k : ℕ) (f : ℕ → ℤ) → k < n → ((i : ℕ) → (i ≡ k → ⊥) → f i ≡ pos 0) → total n f ≡ f k
unfolding total
total_one zero k f h z = absurd (omega arith)
total_one (suc n) k f h z =
    by_index n k
    (λ p. ap₂ ◌+ℤ◌ (total_one n k f p z) (z n (λ e. omega arith)) ∙ +ℤ_idr (f k))
    (λ p.
    let e : k ≡ n = omega arith in
    ap₂ ◌+ℤ◌ (total_zero n f (λ i q. z i (λ d. omega arith))) (ap f (sym e)) ∙ +ℤ_idl (f k))
