-- Laws of projections that are added up entry by entry.
use Prim.Native.Nat.{ℕ, zero, suc, ◌+◌, ◌-◌, ◌≤◌, ◌<◌}
use mathlib.Core.Path.{◌≡◌, refl, sym}
use mathlib.Core.List.{List, [], ◌∷◌}
use native.Mathlib.Omega.{arith}
use native.Mathlib.Numerals.{add-one}
use lib.Dec.{T, leb, leb→le}
use lib.ListN.{length, get_or, drop, drop_of_length-le}
use lib.Seq.{drop-cons}
use Rattle.eos.specs.Vector.{◌⊕◌, times, zeros, unit}
use Rattle.eos.specs.Counted.{there, up_to}
use Rattle.eos.proofs.Basics.{and_l, and_r}
use Rattle.eos.proofs.VectorSums.{length-zeros}
use Rattle.marking.specs.Tokens.{all_counted}
use Rattle.marking.specs.declared.Entry.{Entry}
use Rattle.marking.proofs.TokenOrder.{outside}
use Rattle.step.specs.Verdict.{outer_entries, inside_in, inner_entries}
use Rattle.step.proofs.VectorArrays.{sum_assoc, at_least, zeros-left, zeros_right}

-- ---- a projection: f of each entry, added up
module _ (f : Entry → List ℕ) (P : List Entry → List ℕ) (nothing : P [] ≡ zeros 32) (more : (e : Entry) (es : List Entry) → P (e ∷ es) ≡ f e ⊕ P es) where
  wide : (es : List Entry) → 32 ≤ length (P es)
  wide [] = rw nothing (omega (arith, length-zeros 32))
  wide (e ∷ es) = rw (more e es) (omega (arith, at_least (f e) (P es), wide es))

  -- before the first entry, after one more, and after the last
  pub sum-start : (es : List Entry) → P es ≡ zeros 32 ⊕ P es
  sum-start es = sym (zeros-left 32 (P es) (wide es))

  module _ (es : List Entry) (i : ℕ) (s : List ℕ) where
    pub sum_turn : (d : Entry) → i < length es → s ⊕ P (drop i es) ≡ (s ⊕ f (get_or es i d)) ⊕ P (drop (i + 1) es)
    sum_turn d h = rw (add-one i, drop-cons es i d h, more (get_or es i d) (drop (suc i) es)) (sum_assoc s (f (get_or es i d)) (P (drop (suc i) es)))

    pub sum_end : length es ≤ i → length s ≡ 32 → s ⊕ P (drop i es) ≡ s
    sum_end h e = rw (drop_of_length-le es {i = i} h, nothing) (zeros_right 32 s (omega arith))

-- ---- both projections are such
pub outer_none : outer_entries [] ≡ zeros 32
unfolding outer_entries
outer_none = refl

abbrev pub places_in : Entry → List ℕ
places_in e = times e.times (unit (e.token.place - 1))

pub outer_more : (e : Entry) (es : List Entry) → outer_entries (e ∷ es) ≡ places_in e ⊕ outer_entries es
unfolding outer_entries
outer_more e es = refl

pub inner_none : (types : List ℕ) (n : ℕ) → inner_entries types n [] ≡ zeros 32
unfolding inner_entries
inner_none types n = refl

abbrev pub insides_in : List ℕ → ℕ → Entry → List ℕ
insides_in types n e = times e.times (inside_in types n e.token)

pub inner_more : (types : List ℕ) (n : ℕ) (e : Entry) (es : List Entry) → inner_entries types n (e ∷ es) ≡ insides_in types n e ⊕ inner_entries types n es
unfolding inner_entries
inner_more types n e es = refl

-- ---- the lines of a block, one by one

-- what the code reads past the last entry
abbrev pub beyond : Entry
beyond = record { token = outside; times = 0 }

pub times_at : (n : ℕ) (es : List Entry) (i : ℕ) (d : Entry) → T (there (all_counted es)) → T (up_to n (all_counted es)) → i < length es
    → (1 ≤ (get_or es i d).times) × ((get_or es i d).times ≤ n)
times_at n [] i d s u h = absurd (omega arith)
times_at n (e ∷ es) zero d s u h =
    (leb→le 1 e.times (and_l (leb 1 e.times) (there (all_counted es)) s), leb→le e.times n (and_l (leb e.times n) (up_to n (all_counted es)) u))
times_at n (e ∷ es) (suc i) d s u h =
    times_at n es i d (and_r (leb 1 e.times) (there (all_counted es)) s) (and_r (leb e.times n) (up_to n (all_counted es)) u) (omega arith)
