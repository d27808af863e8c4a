-- Laws of the first net that fails: how what is made of it is compared with what it has after a step, and how it is found.
use Prim.Native.Nat.{ℕ, zero, suc, ◌+◌, ◌-◌, ◌≤◌, ◌<◌}
use mathlib.Core.Path.{◌≡◌, refl, sym, ◌∙◌}
use mathlib.Core.Bool.{Bool, true, false, not, cond, ◌&&◌, and-true, and_assoc}
use mathlib.Core.Option.{Option, some}
use mathlib.Core.List.{List}
use native.Mathlib.Omega.{arith}
use native.Mathlib.Numerals.{add-one}
use lib.Dec.{eqb}
use lib.ListN.{length, drop, drop_of_length-le}
use lib.Seq.{drop-cons}
use Rattle.std.specs.Prelude.{Some}
use Rattle.std.specs.List.{find, range_with_len}
use Rattle.eos.specs.Causes.{failing}
use Rattle.eos.specs.Vector.{◌⊕◌, ◌⊖◌, eq_v}
use Rattle.eos.proofs.VectorLaws.{get_d-⊕, get_d-⊖}
use Rattle.eos.proofs.VectorSums.{long-left}
use Rattle.model.specs.Rules.{nth}
use Rattle.model.specs.Held.{told}
use Rattle.step.proofs.VectorArrays.{length-less}

-- ---- vectors compared number by number

module _ (a b : List ℕ) (i : ℕ) (t : Bool) where
  eq_on : i < length a → i < length b
      → t && eq_v (drop i a) (drop i b) ≡ (t && eqb (nth a i) (nth b i)) && eq_v (drop (i + 1) a) (drop (i + 1) b)
  eq_on h k = rw (add-one i, drop-cons a i 0 h, drop-cons b i 0 k) (sym (and_assoc t (eqb (nth a i) (nth b i)) (eq_v (drop (suc i) a) (drop (suc i) b))))

  eq_end : length a ≤ i → length b ≤ i → t && eq_v (drop i a) (drop i b) ≡ t
  eq_end h k = rw (drop_of_length-le a {i = i} h, drop_of_length-le b {i = i} k) (and-true t)

-- ---- a row is what a net has after a step
module _ (made held pre post : List ℕ) (o : length made ≡ 32) (p : length held ≡ 32) (q : length post ≡ 32) (k : ℕ) (t : Bool) where
  abbrev moved : List ℕ
  moved = held ⊖ pre ⊕ post

  moved_long : length moved ≡ 32
  moved_long =
      let l = length-less held pre ∙ p in
      long-left (held ⊖ pre) post (omega arith) ∙ l

  pub even_on : (v : ℕ) → k < 32 → v ≡ nth held k - nth pre k + nth post k
      → t && eq_v (drop k made) (drop k moved) ≡ (t && eqb (nth made k) v) && eq_v (drop (k + 1) made) (drop (k + 1) moved)
  even_on v c e =
      let at : nth moved k ≡ v = omega (arith, get_d-⊕ (held ⊖ pre) post k, get_d-⊖ held pre k) in
      eq_on made moved k t (omega arith) (omega (arith, moved_long)) ∙ rw at

  pub even_end : 32 ≤ k → t && eq_v (drop k made) (drop k moved) ≡ t
  even_end c = eq_end made moved k t (omega arith) (omega (arith, moved_long))

-- ---- the first of a range at which a test fails, as it is found
pub found : (n i : ℕ) (f : ℕ → Bool) → find (λ k. not (f k)) (range_with_len i n) ≡ told (failing n i f)
found zero i f = refl
found (suc n) i f = go (f i) (rw (add-one i) (found n (suc i) f))
  where
    rest : Option ℕ
    rest = failing n (suc i) f

    go : (b : Bool) → find (λ k. not (f k)) (range_with_len (i + 1) n) ≡ told rest
        → cond (not b) (Some i) (find (λ k. not (f k)) (range_with_len (i + 1) n)) ≡ told (cond b rest (some i))
    go true e = e
    go false e = refl
