-- Texts laid over a list: one after another, beside a store, beside each other, and byte by byte.
use Prim.Native.Nat.{ℕ, suc, ◌+◌, ◌≤◌, ◌<◌}
use mathlib.Core.Path.{◌≡◌, refl, ◌∙◌}
use mathlib.Core.Logic.{◌⊎◌, inl, inr, ⊎_elim}
use mathlib.Core.List.{List, [], ◌∷◌, ◌++◌}
use native.Mathlib.Omega.{arith}
use native.Mathlib.Nat.{add-zero}
use lib.ListN.{length, set, get_or}
use lib.Seq.{sets, set_comm, get_or-set_other}

-- a text after another
pub sets_append : (a b l : List ℕ) (i : ℕ) → sets l i (a ++ b) ≡ sets (sets l i a) (i + length a) b
sets_append [] b l i = rw add-zero
sets_append (x ∷ a) b l i = let e : i + suc (length a) ≡ suc i + length a = omega arith in rw e (sets_append a b (set l i x) (suc i))

-- a store behind a text may come before it
pub sets-set : (a l : List ℕ) (i j x : ℕ) → i + length a ≤ j → sets (set l j x) i a ≡ set (sets l i a) j x
sets-set [] l i j x h = refl
sets-set (y ∷ a) l i j x h =
    rw (set_comm l j i x y (λ e. omega arith)) (sets-set a (set l i y) (suc i) j x (omega arith))

-- two texts that lie apart are laid in either order
pub sets_apart : (a b l : List ℕ) (i j : ℕ) → i + length a ≤ j → sets (sets l j b) i a ≡ sets (sets l i a) j b
sets_apart a [] l i j h = refl
sets_apart a (x ∷ b) l i j h = sets_apart a b (set l j x) i (suc j) (omega arith) ∙ rw (sets-set a l i j x h)

-- bytes beside the text are untouched
pub sets_past : (a l : List ℕ) (i j : ℕ) → (j < i) ⊎ (i + length a ≤ j) → get_or (sets l i a) j 0 ≡ get_or l j 0
sets_past [] l i j h = refl
sets_past (x ∷ a) l i j h =
    sets_past a (set l i x) (suc i) j (⊎_elim (λ p. inl (omega arith)) (λ p. inr (omega arith)) h)
    ∙ get_or-set_other l i j x 0 (⊎_elim (λ p e. omega arith) (λ p e. omega arith) h)
