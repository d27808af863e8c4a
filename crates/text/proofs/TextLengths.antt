-- How long texts are at most.
use Prim.Native.Nat.{ℕ, zero, suc, ◌+◌, ◌*◌, ◌^◌, ◌≤◌, ◌<◌}
use mathlib.Core.Path.{◌≡◌}
use mathlib.Core.List.{List, [], ◌∷◌, ◌++◌}
use native.Mathlib.Omega.{arith}
use native.Mathlib.Nat.{suc-mul}
use lib.ListN.{length, get_or, length-append}
use Rattle.text.specs.Bytes.{Text, lf}
use Rattle.text.specs.Lists.{stop_of}
use Rattle.text.specs.Printed.{decimal, items_text, end_text, texts, number_text, list_text}
use Rattle.text.proofs.DecimalLaws.{length-below}

module _ {A : Type 0} (text : A → Text) (none : A) (most : ℕ) where
  -- at most n things of at most `most` bytes each, one after the other
  pub texts-length : (l : List A) (n : ℕ) → length l ≤ n → ((i : ℕ) → i < length l → length (text (get_or l i none)) ≤ most) → length (texts text l) ≤ n * most
  unfolding texts
  texts-length [] n h each = omega arith
  texts-length (a ∷ l) zero h each = absurd (omega arith)
  texts-length (a ∷ l) (suc n) h each =
      omega (arith, length-append (text a) (texts text l), suc-mul n most, each 0 (omega arith), texts-length l n (omega arith) (λ i p. each (suc i) (omega arith)))

  -- over the byte that ends a list
  module _ (last : ℕ) where
    items-length : (l : List A) (n : ℕ) → length l ≤ n → ((i : ℕ) → i < length l → length (text (get_or l i none)) ≤ most) → length (items_text text last l) ≤ n * suc most
    unfolding items_text
    items-length [] n h each = omega arith
    items-length (a ∷ l) zero h each = absurd (omega arith)
    items-length (a ∷ l) (suc n) h each =
        omega (
          arith,
          length-append (text a) (stop_of last (length l) ∷ items_text text last l),
          suc-mul n (suc most),
          each 0 (omega arith),
          items-length l n (omega arith) (λ i p. each (suc i) (omega arith)),
        )

    -- a list to its end
    pub end_length : (l : List A) (n : ℕ) → length l ≤ n → ((i : ℕ) → i < length l → length (text (get_or l i none)) ≤ most)
        → length (end_text text last l) ≤ suc (n * suc most)
    unfolding end_text
    end_length [] n h each = omega arith
    end_length (a ∷ l) n h each = omega (arith, items-length (a ∷ l) n h each)

    -- where there is room for a thing at least, its end is counted
    pub ended-length : (l : List A) (n : ℕ) → length l ≤ suc n → ((i : ℕ) → i < length l → length (text (get_or l i none)) ≤ most)
        → length (end_text text last l) ≤ suc n * suc most
    unfolding end_text
    ended-length [] n h each = omega (arith, suc-mul n (suc most))
    ended-length (a ∷ l) n h each = items-length (a ∷ l) (suc n) h each

-- the line of a number of at most k + 1 digits
pub number-length : (key : Text) (k n : ℕ) → n < 10 ^ suc k → length (number_text key n) ≤ length key + (k + 2)
unfolding number_text
number-length key k n h = omega (arith, length-append key (decimal n ++ (lf ∷ [])), length-append (decimal n) (lf ∷ []), length-below k n h)

-- the line of at most n numbers of at most k + 1 digits each
pub list_length : (key : Text) (k : ℕ) (vs : List ℕ) (n : ℕ) → length vs ≤ n → ((i : ℕ) → i < length vs → get_or vs i 0 < 10 ^ suc k)
    → length (list_text key vs) ≤ length key + suc (n * (k + 2))
unfolding list_text
list_length key k vs n h each =
    let e : suc (suc k) ≡ k + 2 = omega arith in
    omega (arith, length-append key (end_text decimal lf vs), rw e at (end_length decimal 0 (suc k) lf vs n h (λ i p. length-below k (get_or vs i 0) (each i p))))
