-- A reader that accepts exactly what is printed: what that means, and how it carries over to tests and to several things in a row.
use Prim.Native.Nat.{ℕ, zero, suc, ◌+◌}
use mathlib.Core.Path.{◌≡◌, refl, ap, ◌∙◌}
use mathlib.Core.List.{List, [], ◌∷◌}
use mathlib.Core.Bool.{Bool, true, false, ◌&&◌}
use native.Mathlib.Omega.{arith}
use native.Mathlib.Nat.{add-zero}
use lib.Dec.{eqb}
use borrow.Author.Tests.{eqb-true, eq-eqb}
use lib.ListN.{length}
use Rattle.text.specs.Bytes.{Text}
use Rattle.text.proofs.Basics.{by_test, and_true}
use Rattle.text.specs.Number.{Read, missing, found}
use Rattle.text.specs.Lines.{Outcome, got, bad, then, need, many, judged, every}
use Rattle.text.specs.Printed.{texts}
use Rattle.text.specs.declared.Fault.{Fault}
use Rattle.text.proofs.Standing.{Stands, Reaches, stands_left, stands_right, ends_join, nothing_reaches, reach_join}
use Rattle.text.specs.declared.Cause.{Cause}

-- a text stands there, and what it says is fine
pub record Accepts (s : Text) (at : ℕ) (text : Text) (next : ℕ) (fine : Bool) : Type 0 where
  pub reaches : Reaches s at text next
  pub fine-is : fine ≡ true

-- what is accepted as one value is accepted as an equal one
pub accepts_as : {A : Type 0} (s : Text) (at : ℕ) (text : A → Text) (fine : A → Bool) (a b : A) (u t : ℕ) → (a ≡ b) × (u ≡ t)
    → Accepts s at (text a) u (fine a) → Accepts s at (text b) t (fine b)
accepts_as s at text fine a b u t k h = rw (k.0, k.1) at h

-- f answers `yes` exactly at the texts of what is fine
pub record Reads {A R : Type 0} (yes : A → ℕ → R) (s : Text) (f : ℕ → R) (text : A → Text) (fine : A → Bool) : Type 0 where
  -- what is accepted stands there and is fine
  pub back : (at : ℕ) (a : A) (next : ℕ) → f at ≡ yes a next → Accepts s at (text a) next (fine a)
  -- what stands there and is fine is accepted
  pub forth : (at : ℕ) (a : A) → Stands s at (text a) → fine a ≡ true → f at ≡ yes a (at + length (text a))

module _ {A : Type 0} where
  -- within a line
  abbrev pub Finds : Text → (ℕ → Read A) → (A → Text) → (A → Bool) → Type 0
  Finds = Reads found

  -- of lines
  abbrev pub Exactly : Text → (ℕ → Outcome A) → (A → Text) → (A → Bool) → Type 0
  Exactly = Reads got

  -- what is refused is not accepted
  pub bad≢got : {e : Fault} {a : A} {next : ℕ} → bad e ≡ got a next → ⊥
  bad≢got e = let z : ◌≡◌ {A = ℕ} 0 1 = cc in omega arith

  -- what is accepted is one value up to one position
  pub got-is : {a b : A} {u t : ℕ} → got a u ≡ got b t → (a ≡ b) × (u ≡ t)
  got-is e = ((cc), (cc))

  -- a test that is passed
  pub need-got : (t : Bool) (cause : Cause) (at : ℕ) (o : Outcome A) (a : A) (next : ℕ) → need t cause at o ≡ got a next → (t ≡ true) × (o ≡ got a next)
  unfolding need
  need-got true cause at o a next e = (refl, e)
  need-got false cause at o a next e = absurd (bad≢got e)

  -- what is judged well was found
  judged-got : (range : A → Bool) (out : A → ℕ) (at : ℕ) (r : Read A) (a : A) (next : ℕ) → judged range out at r ≡ got a next
      → (r ≡ found a next) × (range a ≡ true)
  unfolding judged
  judged-got range out at (missing b) a next e = absurd (bad≢got e)
  judged-got range out at (found b u) a next e =
      by_test (range b)
      (λ h. let k = got-is (rw (h, judged) at e) in (rw (k.0, k.1), rw k.0 at h))
      (λ h. absurd (bad≢got (rw (h, judged) at e)))

  -- what is found in range is judged well
  judged-found : (range : A → Bool) (out : A → ℕ) (at : ℕ) (a : A) (next : ℕ) → range a ≡ true → judged range out at (found a next) ≡ got a next
  unfolding judged
  judged-found range out at a next h = rw (h, judged)

module _ {A B : Type 0} where
  -- two readings that are both accepted
  pub record Then (o : Outcome A) (f : A → ℕ → Outcome B) (b : B) (end : ℕ) : Type 0 where
    pub value : A
    pub next : ℕ
    pub first : o ≡ got value next
    pub rest : f value next ≡ got b end

  -- what is accepted of two readings in a row was accepted by each
  pub then-then : {C : Type 0} (o : Outcome A) (f : A → ℕ → Outcome B) (g : B → ℕ → Outcome C) → then (then o f) g ≡ then o (λ a x. then (f a x) g)
  unfolding then
  then-then (got a u) f g = refl
  then-then (bad d) f g = refl

  pub then-got : (o : Outcome A) (f : A → ℕ → Outcome B) (b : B) (end : ℕ) → then o f ≡ got b end → Then o f b end
  unfolding then
  then-got (got a u) f b end e = record { value = a; next = u; first = refl; rest = e }
  then-got (bad d) f b end e = absurd (bad≢got e)

module _ {A : Type 0} (s : Text) (f : ℕ → Read A) (text : A → Text) (fine : A → Bool) (one : Finds s f text fine) where
  -- what is found, judged by a range
  pub judged_exactly : (range : A → Bool) (out : ℕ → A → ℕ) → Exactly s (λ at. judged range (out at) at (f at)) text (λ a. fine a && range a)
  judged_exactly range out = record {
    back = λ at a next e.
        let p = judged-got range (out at) at (f at) a next e in
        let b = one.back at a next p.0 in
        record { reaches = b.reaches; fine-is = rw b.fine-is p.1 };
    forth = λ at a st h.
        let p = and_true (fine a) (range a) h in
        rw (one.forth at a st p.0) (judged-found range (out at) at a (at + length (text a)) p.1);
  }

module _ {A : Type 0} (s : Text) (f : ℕ → Outcome A) (text : A → Text) (fine : A → Bool) (one : Exactly s f text fine) where
  -- what is read, put to a test
  pub needed_exactly : (test : A → Bool) (cause : Cause) → Exactly s (λ at. then (f at) λ a next. need (test a) cause at (got a next)) text (λ a. fine a && test a)
  unfolding then need
  needed_exactly test cause = record {
    back = λ at a next e.
        let p = then-got (f at) (λ a next. need (test a) cause at (got a next)) a next e in
        let q = need-got (test p.value) cause at (got p.value p.next) a next p.rest in
        let k = got-is q.1 in
        let b = one.back at a next (p.first ∙ q.1) in
        record { reaches = b.reaches; fine-is = rw b.fine-is (rw k.0 at q.0) };
    forth = λ at a st h.
        let p = and_true (fine a) (test a) h in
        rw (one.forth at a st p.0, p.1);
  }

  many-back : (n at : ℕ) (l : List A) (next : ℕ) → many f n at ≡ got l next → Accepts s at (texts text l) next (eqb (length l) n && every fine l)
  unfolding many texts
  many-back zero at l next e =
      let k = got-is e in
      accepts_as s at (texts text) (λ l. eqb (length l) 0 && every fine l) [] l at next k (record { reaches = nothing_reaches s at; fine-is = refl })
  many-back (suc n) at l next e =
      let p = then-got (f at) _ l next e in
      let q = then-got (many f n p.next) _ l next p.rest in
      let a = one.back at p.value p.next p.first in
      let b = many-back n p.next q.value q.next q.first in
      let t = and_true (eqb (length q.value) n) (every fine q.value) b.fine-is in
      accepts_as s at (texts text) (λ l. eqb (length l) (suc n) && every fine l) (p.value ∷ q.value) l q.next next (got-is q.rest) (record {
        reaches = reach_join s at (text p.value) (texts text q.value) p.next q.next a.reaches b.reaches;
        fine-is = rw (eq-eqb (suc (length q.value)) (suc n) (ap suc (eqb-true (length q.value) n t.0)), a.fine-is, t.1);
      })

  many_forth : (n at : ℕ) (l : List A) → Stands s at (texts text l) → (eqb (length l) n && every fine l) ≡ true
      → many f n at ≡ got l (at + length (texts text l))
  unfolding many texts then
  many_forth zero at [] st h = rw (add-zero at)
  many_forth zero at (a ∷ l) st h = absurd (omega (arith, eqb-true (suc (length l)) 0 (and_true (eqb (suc (length l)) 0) (fine a && every fine l) h).0))
  many_forth (suc n) at [] st h = absurd (omega (arith, eqb-true 0 (suc n) (and_true (eqb 0 (suc n)) true h).0))
  many_forth (suc n) at (a ∷ l) st h =
      let t = and_true (eqb (suc (length l)) (suc n)) (fine a && every fine l) h in
      let u = and_true (fine a) (every fine l) t.1 in
      let ln : length l ≡ n = omega (arith, eqb-true (suc (length l)) (suc n) t.0) in
      let g : (eqb (length l) n && every fine l) ≡ true = rw (eq-eqb (length l) n ln, u.1) in
      rw (
        one.forth at a (stands_left s at (text a) (texts text l) st) u.0,
        many_forth n (at + length (text a)) l (stands_right s at (text a) (texts text l) st) g,
        ends_join,
      )

  -- n things in a row
  pub many_exactly : (n : ℕ) → Exactly s (many f n) (texts text) (λ l. eqb (length l) n && every fine l)
  many_exactly n = record { back = many-back n; forth = many_forth n }
