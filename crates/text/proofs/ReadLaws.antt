-- Small laws of readings, of a fixed text, and of where a byte stands.
use Prim.Native.Nat.{ℕ, suc, ◌+◌, ◌≤◌, ◌<◌}
use mathlib.Core.Path.{◌≡◌, refl}
use mathlib.Core.List.{List}
use native.Mathlib.Omega.{arith}
use borrow.Author.Tests.{ltb-true, ltb-false, eq-eqb, ne_eqb}
use lib.Dec.{ltb}
use Rattle.text.proofs.Basics.{by_test}
use lib.ListN.{length, get_or, get_or-eq_default}
use Rattle.text.specs.Bytes.{Text, far}
use Rattle.text.specs.Number.{Read, missing, found, literal}

-- a reading by what it found
pub by_read : {A G : Type 0} (x : Read A) → ((b : ℕ) → x ≡ missing b → G) → ((a : A) (u : ℕ) → x ≡ found a u → G) → G
by_read (missing b) f g = f b refl
by_read (found a u) f g = g a u refl

module _ {A : Type 0} where
  pub missing≢found : {b : ℕ} {a : A} {u : ℕ} → missing b ≡ found a u → ⊥
  missing≢found e = let z : ◌≡◌ {A = ℕ} 0 1 = cc in omega arith

  pub missing-is : {b c : ℕ} → ◌≡◌ {A = Read A} (missing b) (missing c) → b ≡ c
  missing-is e = cc

  pub found-is : {a b : A} {u t : ℕ} → found a u ≡ found b t → (a ≡ b) × (u ≡ t)
  found-is e = ((cc), (cc))

-- past the end of a text no byte but 0 is read
pub past_other : (s : List ℕ) (u b : ℕ) → 0 < b → length s ≤ u → get_or s u 0 ≡ b → ⊥
past_other s u b p h e = omega (arith, e, get_or-eq_default s 0 h)

-- a byte that is not 0 stands in the text
pub within_text : (s : List ℕ) (u b : ℕ) → get_or s u 0 ≡ suc b → u < length s
within_text s u b e = by_test (ltb u (length s)) (λ p. ltb-true u (length s) p) (λ p. absurd (past_other s u (suc b) (omega arith) (ltb-false u (length s) p) e))

-- ---- a fixed text
module _ (t s : Text) (at : ℕ) where
  pub literal_here : far s at t ≡ at + length t → literal t s at ≡ found tt (at + length t)
  unfolding literal
  literal_here e = rw (eq-eqb _ _ e, literal)

  pub literal_other : (far s at t ≡ at + length t → ⊥) → literal t s at ≡ missing (far s at t)
  unfolding literal
  literal_other n = rw (ne_eqb _ _ n, literal)
