-- Laws of tests: of two at once, of a range, of every element of a list.
use Prim.Native.Nat.{ℕ, zero, suc, ◌+◌, ◌≤◌, ◌<◌}
use mathlib.Core.Path.{◌≡◌, refl}
use mathlib.Core.List.{List, [], ◌∷◌}
use mathlib.Core.Bool.{Bool, true, ◌&&◌}
use native.Mathlib.Omega.{arith}
use native.Mathlib.Nat.{add-zero}
use lib.Dec.{leb, eqb}
use borrow.Author.Tests.{leb-true, le-leb, eqb-true, eq-eqb}
use lib.ListN.{length, get_or}
use Rattle.text.specs.Lines.{every, in_range}
use Rattle.text.specs.Repeat.{every_at}
use Rattle.text.proofs.Basics.{and_true}

-- two tests that hold, hold at once
pub and_both : (a b : Bool) → a ≡ true → b ≡ true → (a && b) ≡ true
and_both a b p q = rw (p, q)

-- a number, and a further test
pub eqb_and : (m n : ℕ) (b : Bool) → (eqb m n && b) ≡ true → (m ≡ n) × (b ≡ true)
eqb_and m n b h = let p = and_true (eqb m n) b h in (eqb-true m n p.0, p.1)

pub and_eqb : (m n : ℕ) (b : Bool) → m ≡ n → b ≡ true → (eqb m n && b) ≡ true
and_eqb m n b e h = and_both (eqb m n) b (eq-eqb m n e) h

-- a range, as its two bounds
pub within-is : (lo hi v : ℕ) → in_range lo hi v ≡ true → (lo ≤ v) × (v ≤ hi)
within-is lo hi v h = let p = and_true (leb lo v) (leb v hi) h in (leb-true lo v p.0, leb-true v hi p.1)

pub is_within : (lo hi v : ℕ) → lo ≤ v → v ≤ hi → in_range lo hi v ≡ true
is_within lo hi v p q = rw (le-leb lo v p, le-leb v hi q)

module _ {A : Type 0} where
  -- a test of every element, by index
  pub every-at : (f : A → Bool) (l : List A) (i : ℕ) (d : A) → every f l ≡ true → i < length l → f (get_or l i d) ≡ true
  every-at f [] i d h p = absurd (omega arith)
  every-at f (a ∷ l) zero d h p = (and_true (f a) (every f l) h).0
  every-at f (a ∷ l) (suc i) d h p = every-at f l i d (and_true (f a) (every f l) h).1 (omega arith)

  pub every_of : (f : A → Bool) (l : List A) (d : A) → ((i : ℕ) → i < length l → f (get_or l i d) ≡ true) → every f l ≡ true
  every_of f [] d h = refl
  every_of f (a ∷ l) d h = and_both (f a) (every f l) (h 0 (omega arith)) (every_of f l d (λ i p. h (suc i) (omega arith)))

  -- a test of every element by its index, the first of index k
  pub every_at-at : (f : ℕ → A → Bool) (l : List A) (k i : ℕ) (d : A) → every_at f k l ≡ true → i < length l → f (k + i) (get_or l i d) ≡ true
  every_at-at f [] k i d h p = absurd (omega arith)
  every_at-at f (a ∷ l) k zero d h p = rw (add-zero k) (and_true (f k a) (every_at f (suc k) l) h).0
  every_at-at f (a ∷ l) k (suc i) d h p =
      let e : k + suc i ≡ suc k + i = omega arith in
      rw e (every_at-at f l (suc k) i d (and_true (f k a) (every_at f (suc k) l) h).1 (omega arith))

  pub every_at_of : (f : ℕ → A → Bool) (l : List A) (k : ℕ) (d : A) → ((i : ℕ) → i < length l → f (k + i) (get_or l i d) ≡ true) → every_at f k l ≡ true
  every_at_of f [] k d h = refl
  every_at_of f (a ∷ l) k d h =
      and_both (f k a) (every_at f (suc k) l) (rw (add-zero k) at (h 0 (omega arith)))
      (every_at_of f l (suc k) d (λ i p. let e : k + suc i ≡ suc k + i = omega arith in rw e at (h (suc i) (omega arith))))
