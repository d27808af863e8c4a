-- Laws of how far a text goes with another, of what is left of one, and of the lines that end in it.
use Prim.Native.Nat.{ℕ, suc, ◌+◌, ◌-◌, ◌≤◌, ◌<◌, min}
use mathlib.Core.Path.{◌≡◌, refl, ◌∙◌}
use mathlib.Core.List.{[], ◌∷◌}
use native.Mathlib.Omega.{arith}
use native.Mathlib.Nat.{min-eq_left}
use native.Mathlib.Numerals.{add-one}
use lib.Dec.{eqb, leb}
use Rattle.std.specs.List.{count_by}
use Rattle.std.proofs.lemmas.List.Recursion.{is_count_by}
use borrow.Author.Tests.{eq-eqb, ne_eqb, leb-true, leb-false}
use lib.ListN.{length, take, drop, get_or, drop_of_length-le, length-drop}
use lib.Seq.{drop-cons, take_all}
use Rattle.text.specs.Bytes.{Text, lf, meet, far, newlines, line_at}
use Rattle.text.proofs.Basics.{by_test}

-- ---- how far a text goes with another

module _ (c b : ℕ) (t r : Text) where
  pub meet_same : b ≡ c → meet (c ∷ t) (b ∷ r) ≡ suc (meet t r)
  unfolding meet
  meet_same e = rw (eq-eqb b c e, meet)

  pub meet_other : (b ≡ c → ⊥) → meet (c ∷ t) (b ∷ r) ≡ 0
  unfolding meet
  meet_other n = rw (ne_eqb b c n, meet)

pub meet_none : (t : Text) → meet t [] ≡ 0
unfolding meet
meet_none [] = refl
meet_none (c ∷ t) = refl

pub far_least : (s : Text) (at : ℕ) (t : Text) → at ≤ far s at t
unfolding far
far_least s at t = omega arith

-- past the end of s nothing goes on
pub far_end : (s : Text) (at : ℕ) (t : Text) → length s ≤ at → far s at t ≡ at
unfolding far
far_end s at t h = rw (drop_of_length-le s h) (omega (arith, meet_none t))

-- the texts from their bytes at i on
module _ (t r : Text) (i : ℕ) where
  module _ (h : i < length t) (k : i < length r) where
    pub meet_more : get_or r i 0 ≡ get_or t i 0 → meet (drop i t) (drop i r) ≡ 1 + meet (drop (i + 1) t) (drop (i + 1) r)
    meet_more e =
        rw (drop-cons t i 0 h, drop-cons r i 0 k, meet_same (get_or t i 0) (get_or r i 0) (drop (suc i) t) (drop (suc i) r) e, add-one i) (omega arith)

    pub meet_differs : (get_or r i 0 ≡ get_or t i 0 → ⊥) → meet (drop i t) (drop i r) ≡ 0
    meet_differs n = rw (drop-cons t i 0 h, drop-cons r i 0 k) (meet_other (get_or t i 0) (get_or r i 0) _ _ n)

  pub meet_over : min (length t) (length r) ≤ i → meet (drop i t) (drop i r) ≡ 0
  unfolding meet
  meet_over h =
      by_test (leb (length t) i)
      (λ p. rw (drop_of_length-le t (leb-true _ _ p)))
      (λ p. let q : length r ≤ i = omega (arith, leb-false _ _ p) in rw (drop_of_length-le r q) (meet_none (drop i t)))

-- ---- what is left of a text

drop_past : (s : Text) (n : ℕ) → length s ≤ n → drop n s ≡ []
drop_past s n h = drop_of_length-le s h

-- what is left of a text from a position on, which may lie past its end
drop_within : (s : Text) (at m : ℕ) → m ≡ min at (length s) → take (length s - m) (drop m s) ≡ drop at s
drop_within s at m e =
    take_all (length s - m) (drop m s) (omega (arith, length-drop m s))
    ∙ by_test (leb at (length s))
    (λ h. let same : m ≡ at = omega (arith, e, leb-true at (length s) h) in rw same)
    (λ h.
    let k = leb-false at (length s) h in
    rw (drop_past s m (omega (arith, e, k)), drop_past s at (omega (arith, k))))

-- how far a text goes, by the bytes that it has in common with what is left
pub far_left : (s : Text) (at m n : ℕ) (t : Text) → m ≡ min at (length s) → meet t (take (length s - m) (drop m s)) ≡ n → at + n ≡ far s at t
unfolding far
far_left s at m n t e h = rw (← h, drop_within s at m e)

-- ---- line numbers

-- the lines ended in a text are its bytes LF
newlines_counted : (s : Text) → newlines s ≡ count_by (λ b. eqb b lf) s
unfolding newlines
newlines_counted s =
    is_count_by newlines (λ b. eqb b lf) refl (λ b s. by_test (eqb b lf) (λ h. rw (h, newlines) (omega arith)) (λ h. rw (h, newlines))) s

line_last : (s : Text) (i at : ℕ) → length s ≤ i → i ≤ at → line_at s i ≡ line_at s at
line_last s i at h k = rw (take_all at s (omega arith), take_all i s h)

-- past the end of the text there is no line more
line_within : (s : Text) (at : ℕ) → line_at s (min at (length s)) ≡ line_at s at
line_within s at =
    by_test (leb at (length s))
    (λ h. rw (min-eq_left (leb-true at (length s) h)))
    (λ h. let k = leb-false at (length s) h in line_last s (min at (length s)) at (omega (arith, k)) (omega (arith, k)))

pub line_counted : (s : Text) (at n : ℕ) → n ≡ count_by (λ b. eqb b lf) (take (min at (length s)) s) → n + 1 ≡ line_at s at
line_counted s at n e = let z = newlines_counted (take (min at (length s)) s) in omega (arith, e, z, line_within s at)
