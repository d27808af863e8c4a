-- Rows of weights by their numbers: those of one row, of a part of it, and of numbers themselves; a test of each.
use Prim.Native.Nat.{ℕ, ◌<◌}
use mathlib.Core.Path.{◌≡◌, refl, sym, ap, ap₂, ◌∙◌}
use mathlib.Core.Bool.{Bool, ◌&&◌}
use mathlib.Core.List.{List, [], ◌∷◌, map}
use lib.IntN.{ℤ, pos}
use lib.ListN.{length, take, get_or}
use Rattle.std.proofs.lemmas.List.{get_or-map, take-map, map-id}
use Rattle.eos.specs.Multiset.{every}
use Rattle.model.specs.Held.{row_at}
use Rattle.weigh.specs.Sums.{number_of, numbers}

-- a number is its own
pub numbers_same : (rows : List (List ℤ)) → numbers (λ n. n) rows ≡ rows
numbers_same [] = refl
numbers_same (row ∷ rows) = ap₂ ◌∷◌ (map-id row) (numbers_same rows)

module _ {A : Type 0} (number : A → ℤ) where
  -- the numbers of a row
  pub row_numbers : (rows : List (List A)) (i : ℕ) (d : List A) → i < length rows → row_at (numbers number rows) i ≡ map number (get_or rows i d)
  row_numbers rows i d h = get_or-map (map number) rows i d [] h

  -- the number of a weight in a row
  pub number_at : (rows : List (List A)) (i k : ℕ) (d : List A) (e : A) → i < length rows → k < length (get_or rows i d)
      → number (get_or (get_or rows i d) k e) ≡ number_of (row_at (numbers number rows) i) k
  number_at rows i k d e h p =
      sym (ap (λ (row : List ℤ). number_of row k) (row_numbers rows i d h) ∙ get_or-map number (get_or rows i d) k e (pos 0) p)

  -- those of the first of its weights
  pub first_numbers : (n : ℕ) (rows : List (List A)) (i : ℕ) (d : List A) → i < length rows
      → map number (take n (get_or rows i d)) ≡ take n (row_at (numbers number rows) i)
  first_numbers n rows i d h = sym (take-map number n (get_or rows i d)) ∙ ap (take n) (sym (row_numbers rows i d h))

  -- a test of each of them
  pub every_number : (f : ℤ → Bool) (row : List A) → every (λ a. f (number a)) row ≡ every f (map number row)
  every_number f [] = refl
  every_number f (a ∷ row) = ap (λ (b : Bool). f (number a) && b) (every_number f row)
