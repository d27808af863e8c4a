-- The projections of held lines are those of the net-tokens that they spell, padded.
use Prim.Native.Nat.{ℕ, suc, ◌-◌, ◌*◌, ◌≤◌, ◌<◌}
use mathlib.Core.Path.{◌≡◌, refl, sym, ap, ap₂, ◌∙◌}
use mathlib.Core.Bool.{Bool, true, false, cond}
use mathlib.Core.List.{List, [], ◌∷◌, map}
use native.Mathlib.Omega.{arith}
use lib.Dec.{T, eqb, leb, ltb, leb→le, eqb→eq, ltb→lt}
use lib.ListN.{length, get_or}
use Rattle.eos.specs.Vector.{◌⊕◌, times, unit, zeros}
use Rattle.eos.specs.Multiset as M
use Rattle.eos.specs.Counted.{ones, spelt, there}
use Rattle.eos.specs.Model.{NetToken, Marking, Lines, Model, places, net, type_of, size_of, proper}
use Rattle.eos.specs.Firing.{outer, inside_of, inner}
use Rattle.eos.proofs.Basics.{true_is, and_l, and_r}
use Rattle.eos.proofs.VectorLaws.{get_d-⊕}
use Rattle.eos.proofs.VectorSums.{length-times, nth-times, length-unit, length-zeros, long_right, nth_zero}
use Rattle.eos.proofs.CountedLaws.{every_ones}
use Rattle.eos.proofs.FiringLaws.{outer_spelt, inner_spelt}
use Rattle.text.specs.Answers.{padded}
use Rattle.text.proofs.PaddedLaws.{at-padded, length-padded}
use Rattle.model.specs.Rules.{under, nth, right_plant}
use Rattle.model.proofs.RuleLaws.{right_is, few-places}
use Rattle.marking.specs.Held.{hold_token, hold_line}
use Rattle.marking.proofs.HeldBy.{spelt_held}
use Rattle.step.specs.Verdict.{outer_entries, types_in, inside_in, inner_entries}
use Rattle.step.proofs.TokenSums.{outer_none, outer_more, inner_none, inner_more}
use Rattle.step.proofs.PaddedTests.{padded_of}
use Rattle.step.proofs.SidesHeld.{net-small}

-- ---- a net-token of a right model
pub record Fit (m : Model) (t : NetToken) : Type 0 where
  pub place : t.place < places m
  pub size : length t.inside ≡ size_of m (type_of m t.place)

pub fit : (m : Model) (t : NetToken) → T (proper m t) → Fit m t
fit m t h = record {
  place = ltb→lt t.place (places m) (and_l (ltb t.place (places m)) _ h);
  size = eqb→eq (length t.inside) _ (and_r (ltb t.place (places m)) _ h);
}

-- two sums of vectors, number by number
nth_both : (x y v w : List ℕ) (i : ℕ) → nth x i ≡ nth v i → nth y i ≡ nth w i → nth (x ⊕ y) i ≡ nth (v ⊕ w) i
nth_both x y v w i p q = omega (arith, get_d-⊕ x y i, get_d-⊕ v w i, p, q)

nth_so_many : (n : ℕ) (x v : List ℕ) (i : ℕ) → nth x i ≡ nth v i → nth (times n x) i ≡ nth (times n v) i
nth_so_many n x v i p = nth-times n x i ∙ ap (λ (k : ℕ). n * k) p ∙ sym (nth-times n v i)

outer_nothing : (m : Model) → outer m [] ≡ zeros (places m)
unfolding outer
outer_nothing m = refl

inner_nothing : (m : Model) (n : ℕ) → inner m n [] ≡ zeros (net m n).size
unfolding inner
inner_nothing m n = refl

module _ (header : ℕ) (m : Model) (right : right_plant (under header m) ≡ true) where
  few : places m ≤ 32
  few = few-places _ (right_is _ right)

  -- ---- the outer projection
  outer_nth : (ls : Lines) → T (there ls) → (i : ℕ) → nth (outer_entries (map hold_line ls)) i ≡ nth (outer m (spelt ls)) i
  outer_nth [] h i = rw (outer_none, outer_nothing m) (nth_zero 32 i ∙ sym (nth_zero (places m) i))
  outer_nth (l ∷ ls) h i =
      let e : suc l.one.place - 1 ≡ l.one.place = omega arith in
      let some : 1 ≤ l.times = leb→le 1 l.times (and_l (leb 1 l.times) (there ls) h) in
      let r = outer_nth ls (and_r (leb 1 l.times) (there ls) h) i in
      rw (outer_more (hold_line l) (map hold_line ls), e, outer_spelt m l ls some)
      (nth_both (times l.times (unit l.one.place)) (outer_entries (map hold_line ls)) (times l.times (unit l.one.place)) (outer m (spelt ls)) i refl r)

  pub outer-long : (l : Marking) → T (M.every (proper m) l) → length (outer m l) ≡ places m
  unfolding outer
  outer-long [] h = length-zeros (places m)
  outer-long (t ∷ l) h =
      let f = fit m t (and_l (proper m t) (M.every (proper m) l) h) in
      let r = outer-long l (and_r (proper m t) (M.every (proper m) l) h) in
      long_right (unit t.place) (outer m l) (omega (arith, length-unit t.place, f.place)) ∙ r

  outer_wide : (ls : Lines) → T (M.every (proper m) (ones ls)) → length (outer_entries (map hold_line ls)) ≡ 32
  outer_wide [] h = rw outer_none (length-zeros 32)
  outer_wide (l ∷ ls) h =
      let f = fit m l.one (and_l (proper m l.one) (M.every (proper m) (ones ls)) h) in
      let r = outer_wide ls (and_r (proper m l.one) (M.every (proper m) (ones ls)) h) in
      let e : suc l.one.place - 1 ≡ l.one.place = omega arith in
      rw (outer_more (hold_line l) (map hold_line ls), e)
      (long_right (times l.times (unit l.one.place)) (outer_entries (map hold_line ls))
      (omega (arith, length-times l.times (unit l.one.place), length-unit l.one.place, f.place, few, r)) ∙ r)

  pub outer_held : (ls : Lines) → T (M.every (proper m) (spelt ls)) → T (there ls) → outer_entries (map hold_line ls) ≡ padded (outer m (spelt ls))
  outer_held ls h k =
      padded_of (outer_entries (map hold_line ls)) (outer m (spelt ls)) (outer_wide ls (every_ones (proper m) ls k h))
      (omega (arith, outer-long (spelt ls) h, few)) (outer_nth ls k)

  -- ---- the type of a net-token's place
  type_same : (t : NetToken) → get_or (padded m.types) (suc t.place - 1) 0 ≡ type_of m t.place
  type_same t =
      let e : suc t.place - 1 ≡ t.place = omega arith in
      rw e (at-padded m.types few t.place)

  types_same : (l : Marking) → map (λ t. get_or (padded m.types) (t.place - 1) 0) (map hold_token l) ≡ map (λ t. type_of m t.place) l
  types_same [] = refl
  types_same (t ∷ l) = ap₂ ◌∷◌ (type_same t) (types_same l)

  pub types_held : (ls : Lines) → types_in (padded m.types) (map hold_line ls) ≡ map (λ t. type_of m t.place) (spelt ls)
  types_held ls = rw (spelt_held ls) (types_same (spelt ls))

  -- ---- the inner projection of net n
  module _ (n : ℕ) (k : n < length m.nets) where
    own_long : (t : NetToken) → Fit m t → type_of m t.place ≡ suc n → length t.inside ≡ (net m n).size
    own_long t f e = f.size ∙ ap (size_of m) e

    inside-nth : (t : NetToken) → Fit m t → (i : ℕ) → nth (inside_in (padded m.types) n (hold_token t)) i ≡ nth (inside_of m n t) i
    inside-nth t f i = rw (type_same t) (go (eqb (type_of m t.place) (suc n)) refl)
      where
        go : (b : Bool) → eqb (type_of m t.place) (suc n) ≡ b → nth (cond b (padded t.inside) []) i ≡ nth (cond b t.inside []) i
        go true e =
            let d : type_of m t.place ≡ suc n = eqb→eq (type_of m t.place) (suc n) (true_is e) in
            at-padded t.inside (omega (arith, own_long t f d, net-small _ m right n k)) i
        go false e = refl

    inner-nth : (ls : Lines) → T (M.every (proper m) (ones ls)) → T (there ls) → (i : ℕ)
        → nth (inner_entries (padded m.types) n (map hold_line ls)) i ≡ nth (inner m n (spelt ls)) i
    inner-nth [] h s i = rw (inner_none (padded m.types) n, inner_nothing m n) (nth_zero 32 i ∙ sym (nth_zero (net m n).size i))
    inner-nth (l ∷ ls) h s i =
        let f = fit m l.one (and_l (proper m l.one) (M.every (proper m) (ones ls)) h) in
        let some : 1 ≤ l.times = leb→le 1 l.times (and_l (leb 1 l.times) (there ls) s) in
        let r = inner-nth ls (and_r (proper m l.one) (M.every (proper m) (ones ls)) h) (and_r (leb 1 l.times) (there ls) s) i in
        let own : List ℕ = inside_in (padded m.types) n (hold_token l.one) in
        rw (inner_more (padded m.types) n (hold_line l) (map hold_line ls), inner_spelt m l ls some n)
        (nth_both (times l.times own) (inner_entries (padded m.types) n (map hold_line ls)) (times l.times (inside_of m n l.one)) (inner m n (spelt ls)) i
        (nth_so_many l.times own (inside_of m n l.one) i (inside-nth l.one f i)) r)

    pub inner-long : (l : Marking) → T (M.every (proper m) l) → length (inner m n l) ≡ (net m n).size
    unfolding inner
    inner-long [] h = length-zeros (net m n).size
    inner-long (t ∷ l) h =
        let f = fit m t (and_l (proper m t) (M.every (proper m) l) h) in
        let r = inner-long l (and_r (proper m t) (M.every (proper m) l) h) in
        long_right (inside_of m n t) (inner m n l) (rw r (go f (eqb (type_of m t.place) (suc n)) refl)) ∙ r
      where
        go : Fit m t → (b : Bool) → eqb (type_of m t.place) (suc n) ≡ b → length (cond b t.inside []) ≤ (net m n).size
        go f true e = omega (arith, own_long t f (eqb→eq (type_of m t.place) (suc n) (true_is e)))
        go f false e = omega arith

    inner_wide : (ls : Lines) → length (inner_entries (padded m.types) n (map hold_line ls)) ≡ 32
    inner_wide [] = rw (inner_none (padded m.types) n) (length-zeros 32)
    inner_wide (l ∷ ls) =
        let own : List ℕ = inside_in (padded m.types) n (hold_token l.one) in
        rw (inner_more (padded m.types) n (hold_line l) (map hold_line ls))
        (long_right (times l.times own) (inner_entries (padded m.types) n (map hold_line ls))
        (rw (inner_wide ls, length-times l.times own) (go (eqb (get_or (padded m.types) (suc l.one.place - 1) 0) (suc n)))) ∙ inner_wide ls)
      where
        go : (b : Bool) → length (cond b (padded l.one.inside) []) ≤ 32
        go true = omega (arith, length-padded l.one.inside)
        go false = omega arith

    pub inner-held : (ls : Lines) → T (M.every (proper m) (spelt ls)) → T (there ls)
        → inner_entries (padded m.types) n (map hold_line ls) ≡ padded (inner m n (spelt ls))
    inner-held ls h s =
        padded_of (inner_entries (padded m.types) n (map hold_line ls)) (inner m n (spelt ls)) (inner_wide ls)
        (omega (arith, inner-long (spelt ls) h, net-small _ m right n k)) (inner-nth ls (every_ones (proper m) ls s h) s)
