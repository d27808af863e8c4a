-- How a number is read, byte by byte.
use Prim.Native.Nat.{ℕ, ◌+◌, ◌-◌, ◌*◌, ◌≤◌}
use mathlib.Core.Path.{◌≡◌, ap, sym, ◌∙◌}
use mathlib.Core.List.{◌∷◌}
use mathlib.Core.Bool.{true, false, true≢false}
use lib.Dec.{leb}
use borrow.Author.Tests.{leb-true, eq-eqb, ne_eqb}
use Rattle.text.specs.Bytes.{Text}
use Rattle.text.proofs.Basics.{and_true}
use Rattle.text.specs.Number.{missing, found, is_digit, digits, number_of}

module _ (v u b : ℕ) (s : Text) where
  -- one digit more
  pub digits_more : is_digit b ≡ true → digits v u (b ∷ s) ≡ digits (v * 10 + (b - 48)) (u + 1) s
  unfolding digits
  digits_more e = rw (e, digits)

  -- a number ends before a byte that is no digit
  pub digits_stop : is_digit b ≡ false → digits v u (b ∷ s) ≡ found v u
  unfolding digits
  digits_stop e = rw (e, digits)

module _ (at b : ℕ) (s : Text) where
  -- a number that begins with '0' is 0
  pub of_zero : b ≡ 48 → number_of at (b ∷ s) ≡ found 0 (at + 1)
  unfolding number_of
  of_zero e = rw (eq-eqb b 48 e, number_of)

  -- a number that begins with another digit goes on
  pub of_digit : (b ≡ 48 → ⊥) → is_digit b ≡ true → number_of at (b ∷ s) ≡ digits (b - 48) (at + 1) s
  unfolding number_of
  of_digit n d = rw (ne_eqb b 48 n, d, number_of)

  -- no number begins with another byte
  pub of_other : is_digit b ≡ false → number_of at (b ∷ s) ≡ missing at
  unfolding number_of
  of_other d = rw (ne_eqb b 48 (λ p. true≢false (ap is_digit (sym p) ∙ d)), d, number_of)

-- a digit is a byte from 48 to 57
pub digit_bounds : (b : ℕ) → is_digit b ≡ true → (48 ≤ b) × (b ≤ 57)
digit_bounds b e = let p = and_true (leb 48 b) (leb b 57) e in (leb-true 48 b p.0, leb-true b 57 p.1)
