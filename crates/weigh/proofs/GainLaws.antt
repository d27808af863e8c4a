-- What transitions gain, as the rows are laid one after the other.
use Prim.Native.Nat.{ℕ, zero, suc, ◌+◌, ◌≤◌, ◌<◌}
use mathlib.Core.Path.{◌≡◌, refl, ◌∙◌}
use mathlib.Core.Bool.{Bool, not, cond}
use mathlib.Core.List.{List, [], ◌∷◌}
use native.Mathlib.Omega.{arith}
use native.Mathlib.Nat.{add-zero}
use native.Mathlib.Numerals.{add-one}
use lib.Dec.{ltb}
use lib.IntN.{ℤ, pos, nat_abs}
use lib.ListN.{length, get_or, set, replicate, length-set}
use lib.Seq.{get_or-set_same, get_or-set_other, set_out}
use Rattle.std.specs.Prelude as answer
use Rattle.std.specs.List.{All, position_from, position_or_len}
use Rattle.std.proofs.lemmas.Iterator.Adapters.{position_from-zero}
use Rattle.text.proofs.Basics.{by_test}
use Rattle.eos.specs.Causes.{failing}
use Rattle.model.specs.Held.{no_net, row_at, told}
use Rattle.model.specs.declared.Model.{Model}
use Rattle.model.proofs.SlotLaws.{by_index}
use Rattle.model.proofs.HeldTestLoops.{at_any}
use Rattle.weigh.specs.Sums.{number_of, gain_of, most_gain, Within, Small, Addable, GainRowWithin, GainsWithin, GainRow, move_gain}

by_same : {G : Type 0} (i j : ℕ) → (i ≡ j → G) → ((i ≡ j → ⊥) → G) → G
by_same i j f g = by_index i j (λ p. g (λ e. omega arith)) (λ p. by_index j i (λ q. g (λ e. omega arith)) (λ q. f (omega arith)))

-- ---- a row

pub small_none : {most : ℕ} (n : ℕ) → Within most (replicate n (pos 0))
small_none zero k = omega arith
small_none (suc n) zero = omega arith
small_none (suc n) (suc k) = small_none n k

-- each of its numbers may be a factor
pub small_all : (row : List ℤ) → Addable row → All (λ g. nat_abs g ≤ 137436856320) row
small_all row h k d p = rw (at_any row k d (pos 0) p) (h k)

-- the gains of the first n transitions, in a row of 32
module _ (w : List ℤ) (pre post : List (List ℕ)) where
  pub record Gained (n : ℕ) (row : List ℤ) : Type 0 where
    pub long : length row ≡ 32
    pub small : Small row
    pub is : (t : ℕ) → t < n → number_of row t ≡ gain_of w pre post t

  pub gained_none : Gained 0 (replicate 32 (pos 0))
  gained_none = record { long = refl; small = small_none 32; is = λ t h. absurd (omega arith) }

  pub gained_next : (n : ℕ) (row : List ℤ) (gain : ℤ) → Gained n row → n < 32 → nat_abs gain ≤ 1069531200 → gain ≡ gain_of w pre post n → Gained (n + 1) (set row n gain)
  gained_next n row gain g h few e = record {
    long = length-set row n gain ∙ g.long;
    small = λ k.
        by_same k n
        (λ d. rw (d, get_or-set_same row n gain (pos 0) (omega (arith, g.long))) few)
        (λ d. rw (get_or-set_other row n k gain (pos 0) d) (g.small k));
    is = λ t p.
        by_same t n
        (λ d. rw (d, get_or-set_same row n gain (pos 0) (omega (arith, g.long))) e)
        (λ d. rw (get_or-set_other row n t gain (pos 0) d) (g.is t (omega (arith, d))));
  }

  pub gained_all : (row : List ℤ) → Gained 32 row → GainRow w pre post row
  gained_all row g = record { long = g.long; small = g.small; is = g.is }

-- ---- rows laid one after the other

module _ (m : Model) (weights : List (List ℤ)) where
  -- the row of the moves, and those of the first n nets, at most so much
  pub record LaidWithin (most n : ℕ) (table : List (List ℤ)) : Type 0 where
    pub long : length table ≡ 9
    pub small : (r : ℕ) → Within most (row_at table r)
    pub moves : GainRowWithin most (row_at weights 0) m.pre m.post (row_at table 0)
    pub nets : (k : ℕ) → k < n
        → GainRowWithin most (row_at weights (suc k)) (get_or m.objects k no_net).pre (get_or m.objects k no_net).post (row_at table (suc k))

  -- so they are by weights of at most 65,535
  abbrev pub Laid : ℕ → List (List ℤ) → Type 0
  Laid n table = LaidWithin most_gain n table

  module _ {most : ℕ} where
    rows_set : (table : List (List ℤ)) (i : ℕ) (row : List ℤ) → ((r : ℕ) → Within most (row_at table r)) → Within most row
        → (r : ℕ) → Within most (row_at (set table i row) r)
    rows_set table i row h p r =
        by_same r i
        (λ e. by_index (length table) i (λ q. rw (e, get_or-set_same table i row [] q) p) (λ q. rw (set_out table i row q) (h r)))
        (λ d. rw (get_or-set_other table i r row [] d) (h r))

    rows_none : (n r : ℕ) → Within most (row_at (replicate n (replicate 32 (pos 0))) r)
    rows_none zero r = λ k. omega arith
    rows_none (suc n) zero = small_none 32
    rows_none (suc n) (suc r) = rows_none n r

    pub laid_none : (row : List ℤ) → GainRowWithin most (row_at weights 0) m.pre m.post row → LaidWithin most 0 (set (replicate 9 (replicate 32 (pos 0))) 0 row)
    laid_none row g = record {
      long = refl;
      small = rows_set (replicate 9 (replicate 32 (pos 0))) 0 row (rows_none 9) g.small;
      moves = g;
      nets = λ k p. absurd (omega arith);
    }

    pub laid_next : (n : ℕ) (table : List (List ℤ)) (row : List ℤ) → LaidWithin most n table → n < 8
        → GainRowWithin most (row_at weights (suc n)) (get_or m.objects n no_net).pre (get_or m.objects n no_net).post row
        → LaidWithin most (n + 1) (set table (n + 1) row)
    laid_next n table row l h g = record {
      long = length-set table (n + 1) row ∙ l.long;
      small = rows_set table (n + 1) row l.small g.small;
      moves = rw (get_or-set_other table (n + 1) 0 row [] (λ e. omega arith)) l.moves;
      nets = λ k p.
          by_same k n
          (λ d. rw (d, ← (add-one n), get_or-set_same table (n + 1) row [] (omega (arith, l.long)), add-one n) g)
          (λ d. rw (get_or-set_other table (n + 1) (suc k) row [] (λ e. d (omega arith))) (l.nets k (omega (arith, d))));
    }

    pub laid_done : (table : List (List ℤ)) → LaidWithin most m.nets table → GainsWithin most m weights table
    laid_done table l = record { small = l.small; moves = l.moves; nets = l.nets }

-- ---- a move's gain

pub move_small : (row : List ℤ) → Addable row → (k : ℕ) → nat_abs (move_gain row k) ≤ 137436856320
unfolding move_gain
move_small row h zero = omega arith
move_small row h (suc k) = h k

-- ---- the first that fails

module _ {A : Type 0} (f : A → Bool) (d : A) where
  failing_from : (l : List A) (i : ℕ) (g : ℕ → Bool) → ((k : ℕ) → f (get_or l k d) ≡ g (i + k)) → position_from (λ a. not (f a)) i l ≡ told (failing (length l) i g)
  failing_from [] i g h = refl
  failing_from (a ∷ l) i g h =
      let here : f a ≡ g i = rw (add-zero i) at (h 0) in
      let rest = failing_from l (suc i) g (λ k. let e : suc i + k ≡ i + suc k = omega arith in rw e (h (suc k))) in
      rw (here, add-one i) (by_test (g i) (λ t. rw t rest) (λ t. rw t))

  -- as the library looks for it
  pub first_failing : (l : List A)
      → cond (ltb (position_or_len (λ a. not (f a)) l) (length l)) (answer.Some (position_or_len (λ a. not (f a)) l)) answer.None
      ≡ told (failing (length l) 0 (λ k. f (get_or l k d)))
  first_failing l =
      position_from-zero (λ a. not (f a)) l
      ∙ failing_from l 0 (λ k. f (get_or l k d)) (λ k. let e : 0 + k ≡ k = omega arith in rw e)
