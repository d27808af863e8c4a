-- Laws of tests of every element: by index, and of two tests at once.
use Prim.Native.Nat.{ℕ, zero, suc, ◌<◌}
use mathlib.Core.Path.{◌≡◌, refl, ap, ap₂, ◌∙◌}
use mathlib.Core.Bool.{Bool, true, false, ◌&&◌}
use Rattle.std.specs.Cmp.{both_ways}
use mathlib.Core.List.{List, [], ◌∷◌}
use native.Mathlib.Omega.{arith}
use lib.ListN.{length, get_or}
use Rattle.text.proofs.TestLaws.{every-at, every_of}
use Rattle.eos.specs.Firing.{all_below}
use Rattle.eos.specs.Multiset.{every}
use Rattle.model.proofs.SlotLaws.{below_at, below_of}

pub below_same : (n : ℕ) (f g : ℕ → Bool) → ((i : ℕ) → i < n → f i ≡ g i) → all_below n f ≡ all_below n g
below_same zero f g h = refl
below_same (suc n) f g h = ap₂ ◌&&◌ (h n (omega arith)) (below_same n f g (λ i p. h i (omega arith)))

and_middle : (a b c d : Bool) → ((a && b) && (c && d)) ≡ ((a && c) && (b && d))
and_middle true true c d = refl
and_middle true false true d = refl
and_middle true false false d = refl
and_middle false b c d = refl

module _ {A : Type 0} where
  -- by index
  pub every-below : (f : A → Bool) (l : List A) (d : A) → every f l ≡ all_below (length l) (λ i. f (get_or l i d))
  every-below f l d =
      both_ways (every f l) (all_below (length l) (λ i. f (get_or l i d)))
      (λ h. below_of (length l) (λ i. f (get_or l i d)) (λ i p. every-at f l i d h p))
      (λ h. every_of f l d (λ i p. below_at (length l) (λ i. f (get_or l i d)) h i p))

  -- two tests at once
  pub every_and : (f g : A → Bool) (l : List A) → every (λ a. f a && g a) l ≡ (every f l && every g l)
  every_and f g [] = refl
  every_and f g (a ∷ l) = ap (λ (t : Bool). (f a && g a) && t) (every_and f g l) ∙ and_middle (f a) (g a) (every f l) (every g l)

  -- of lists of lists
  pub each_and : (f g : A → Bool) (l : List (List A)) → every (every (λ a. f a && g a)) l ≡ (every (every f) l && every (every g) l)
  each_and f g [] = refl
  each_and f g (a ∷ l) = ap₂ ◌&&◌ (every_and f g a) (each_and f g l) ∙ and_middle (every f a) (every g a) (every (every f) l) (every (every g) l)
