-- The rules, asked of each number of a range in turn.
use Prim.Native.Nat.{ℕ, zero, suc, ◌+◌, ◌-◌}
use mathlib.Core.Path.{◌≡◌, refl, ap, sym, ◌∙◌}
use mathlib.Core.List.{List, [], ◌∷◌}
use mathlib.Core.Bool.{Bool, true, false, not, ◌&&◌, beq}
use native.Mathlib.Omega.{arith}
use native.Mathlib.Nat.{add-zero}
use lib.Dec.{eqb}
use lib.ListN.{length, get_or}
use Rattle.std.specs.List.{list_all, range_with_len, enumerate_from}
use Rattle.text.specs.Lines.{every}
use Rattle.eos.specs.Firing.{all_below}
use Rattle.model.specs.Rules.{takes_part}

-- ---- numbers from 0 on

and_across : (a b c : Bool) → (a && (b && c)) ≡ (b && (a && c))
and_across true b c = refl
and_across false true c = refl
and_across false false c = refl

all_first : (n : ℕ) (f : ℕ → Bool) → all_below (suc n) f ≡ (f 0 && all_below n (λ k. f (suc k)))
all_first zero f = refl
all_first (suc n) f = ap (λ (b : Bool). f (suc n) && b) (all_first n f) ∙ and_across (f (suc n)) (f 0) (all_below n (λ k. f (suc k)))

all_from : (n i : ℕ) (f : ℕ → Bool) (g : ℕ → Bool) → ((k : ℕ) → f (i + k) ≡ g k) → list_all f (range_with_len i n) ≡ all_below n g
all_from zero i f g h = refl
all_from (suc n) i f g h =
    let first : f i ≡ g 0 = rw (add-zero i) at (h 0) in
    let rest = all_from n (i + 1) f (λ k. g (suc k)) (λ k. let e : i + 1 + k ≡ i + suc k = omega arith in rw e (h (suc k))) in
    rw (first, rest) (sym (all_first n g))

pub all_same : (n : ℕ) (f g : ℕ → Bool) → ((k : ℕ) → f k ≡ g k) → list_all f (range_with_len 0 n) ≡ all_below n g
all_same n f g h = all_from n 0 f g (λ k. let e : 0 + k ≡ k = omega arith in ap f e ∙ h k)

array_from : {A : Type 0} (d : A) (f : ℕ → A → Bool) (l : List A) (i : ℕ) (g : ℕ → Bool) → ((k : ℕ) → f (i + k) (get_or l k d) ≡ g k)
    → list_all (λ (p : ℕ × A). f p.0 p.1) (enumerate_from i l) ≡ all_below (length l) g
array_from d f [] i g h = refl
array_from {A = A} d f (a ∷ l) i g h =
    let first : f i a ≡ g 0 = rw (add-zero i) at (h 0) in
    let rest = array_from d f l (i + 1) (λ k. g (suc k)) (λ k. let e : i + 1 + k ≡ i + suc k = omega arith in rw e (h (suc k))) in
    rw (first, rest) (sym (all_first (length l) g))

-- each element with its index
pub all_in_array : {A : Type 0} (d : A) (f : ℕ → A → Bool) (l : List A) (n : ℕ) → length l ≡ n
    → list_all (λ (p : ℕ × A). f p.0 p.1) (enumerate_from 0 l) ≡ all_below n (λ k. f k (get_or l k d))
all_in_array d f l n e =
    array_from d f l 0 (λ k. f k (get_or l k d)) (λ k. let z : 0 + k ≡ k = omega arith in rw z) ∙ rw e

pub every_in_list : {A : Type 0} (f : A → Bool) (l : List A) → list_all f l ≡ every f l
every_in_list f [] = refl
every_in_list f (a ∷ l) = ap (λ (b : Bool). f a && b) (every_in_list f l)

-- ---- counts

-- nothing but 0
abbrev pub zeros : List ℕ → Bool
zeros l = every (λ c. eqb c 0) l

beq_across : (a b : Bool) → beq a b ≡ beq b a
beq_across true true = refl
beq_across true false = refl
beq_across false true = refl
beq_across false false = refl

module _ (n : ℕ) (v : List ℕ) where
  pub part_move : (own : ℕ) → own ≡ 0 → true ≡ takes_part own n v
  unfolding takes_part
  part_move own e = rw e

  pub part_idle : (own : ℕ) → (own ≡ 0 → ⊥) → (some : Bool) → some ≡ not (zeros v) → beq some (eqb (own - 1) n) ≡ takes_part own n v
  unfolding takes_part
  part_idle zero p some h = absurd (p refl)
  part_idle (suc own) p some h = let e : suc own - 1 ≡ own = omega arith in rw (e, h) (beq_across (not (zeros v)) (eqb own n))

  -- only whether there are counts matters
  pub part_same : (w : List ℕ) → zeros w ≡ zeros v → (own : ℕ) → takes_part own n w ≡ takes_part own n v
  unfolding takes_part
  part_same w e zero = refl
  part_same w e (suc own) = rw e
