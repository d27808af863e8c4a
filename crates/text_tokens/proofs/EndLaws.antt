-- Laws of the end of a token's line: of a number from 2 on, and of what stands behind the counts.
use Prim.Native.Nat.{ℕ, zero, suc, ◌+◌, ◌≤◌, ◌<◌, max}
use mathlib.Core.Path.{◌≡◌, refl, ap, sym, ◌∙◌}
use mathlib.Core.List.{List, [], ◌∷◌}
use native.Mathlib.Omega.{arith}
use lib.Dec.{eqb, lit<}
use borrow.Author.Tests.{eqb-true, eqb-false}
use lib.ListN.{length, get_or}
use Rattle.std.specs.Prelude.{Result}
use Rattle.std.specs.declared.result.Result.TheVariants.{Ok, Err}
use Rattle.text.specs.Bytes.{Text, lf, star}
use Rattle.text.specs.Number.{Read, missing, found, made, both, either, literal, number, ended, item}
use Rattle.text.specs.Capped.{cap, capped, passed}
use Rattle.text.specs.Lines.{behind}
use Rattle.text.specs.TokenLine.{beyond_one, more_than_one, timed}
use Rattle.text.proofs.Basics.{by_test}
use Rattle.text.proofs.ReadLaws.{missing≢found, within_text}
use Rattle.text.proofs.NumberLaws.{Exact, Capped, missing_of, answered_as, answer_is, ended_here, ended_other}
use Rattle.text.proofs.LineLaws.{made_itself}
use Rattle.text.proofs.Parts.{furthest_least, made_missing}
use Rattle.text.proofs.LineParts.{literal_ended}
use Rattle.text.proofs.TimesParts.{more_part}
use Rattle.text_tokens.specs.Ends.{times_at, closed}

-- ---- a number from 2 on, by the number that is read

module _ (s : Text) (at : ℕ) where
  pub more_missing : (b : ℕ) → Err b ≡ capped (number s at) → Err b ≡ capped (more_than_one s at)
  unfolding more_than_one beyond_one
  more_missing b e = rw (missing_of cap (number s at) b e)

  module _ (v u : ℕ) (h : Exact (number s at) (Capped v) u) where
    pub more_zero : v ≡ 0 → Err at ≡ capped (more_than_one s at)
    unfolding more_than_one beyond_one
    more_zero e = let z : h.value ≡ 0 = omega (arith, h.told) in rw (h.is, z)

    pub more_one : v ≡ 1 → Err u ≡ capped (more_than_one s at)
    unfolding more_than_one beyond_one
    more_one e = let z : h.value ≡ 1 = omega (arith, h.told) in rw (h.is, z)

    beyond : (w : ℕ) → 1 < w → beyond_one at (found w u) ≡ found w u
    unfolding beyond_one
    beyond zero p = absurd (omega arith)
    beyond (suc zero) p = absurd (omega arith)
    beyond (suc (suc w)) p = refl

    pub more_is : (v ≡ 0 → ⊥) → (v ≡ 1 → ⊥) → answered_as u v ≡ capped (more_than_one s at)
    unfolding more_than_one
    more_is m n =
        answer_is cap (more_than_one s at) v u
        (record { value = h.value; is = rw h.is (beyond h.value (omega (arith, h.told, m, n))); told = h.told })

-- ---- readings, one or the other

-- a reading that fails no earlier decides
pub either_later : {A : Type 0} (b : ℕ) (x : Read A) → ((c : ℕ) → x ≡ missing c → b ≤ c) → either (missing b) x ≡ x
unfolding either
either_later b (missing c) h = let m : max b c ≡ c = omega (arith, h c refl) in rw m
either_later b (found a u) h = refl

pub passed_made : {A B : Type 0} (f : A → B) (x : Read A) → passed (made f x) ≡ passed x
unfolding made
passed_made f (missing b) = refl
passed_made f (found a u) = refl

-- ---- what stands behind the counts

abbrev after : Text → ℕ → Read ℕ
after = item more_than_one lf

after_least : (s : Text) (x c : ℕ) → after s x ≡ missing c → x ≤ c
after_least s x c e = furthest_least (more_part.fails s x c e)

module _ (s : Text) (x : ℕ) where
  byte_here : (c : ℕ) → 0 < c → get_or s x 0 ≡ c → literal (c ∷ []) s x ≡ found tt (x + 1)
  byte_here c p e = literal_ended c s x p ∙ ended_here c s tt x e

  byte_other : (c : ℕ) → 0 < c → (get_or s x 0 ≡ c → ⊥) → literal (c ∷ []) s x ≡ missing x
  byte_other c p n = literal_ended c s x p ∙ ended_other c s tt x n

  pub times_one : get_or s x 0 ≡ lf → times_at s x ≡ found 1 (x + 1)
  unfolding times_at made either
  times_one e = rw (byte_here lf (lit< tt) e)

  module _ (no_end : get_or s x 0 ≡ lf → ⊥) where
    pub times_star : get_or s x 0 ≡ star → times_at s x ≡ item more_than_one lf s (x + 1)
    unfolding times_at made behind both
    times_star e =
        rw (byte_other lf (lit< tt) no_end, byte_here star (lit< tt) e)
        (ap (either (missing x)) (made_itself (after s (x + 1))) ∙ either_later x (after s (x + 1)) (λ c w. omega (arith, after_least s (x + 1) c w)))

    pub times_other : (get_or s x 0 ≡ star → ⊥) → times_at s x ≡ missing x
    unfolding times_at made behind both either
    times_other n = let same : max x x ≡ x = omega arith in rw (byte_other lf (lit< tt) no_end, byte_other star (lit< tt) n, same)

-- something stands there
pub times_inside : (s : Text) (x n z : ℕ) → times_at s x ≡ found n z → x < length s
times_inside s x n z e =
    by_test (eqb (get_or s x 0) lf)
    (λ h. within_text s x 9 (eqb-true _ _ h))
    (λ h. by_test (eqb (get_or s x 0) star)
    (λ k. within_text s x 41 (eqb-true _ _ k))
    (λ k. absurd (missing≢found (sym (times_other s x (eqb-false _ _ h) (eqb-false _ _ k)) ∙ e))))

-- ---- counts, and what stands behind them

abbrev pub Counts : Type 0
Counts = ℕ → Text → ℕ → Read (List ℕ)

abbrev pair : List ℕ → ℕ → List ℕ × ℕ
pair l n = (l, n)

module _ (counts : Counts) (s : Text) (x : ℕ) where
  timed_found : (l : List ℕ) (y : ℕ) → counts lf s x ≡ ended lf s (found l y) → counts star s x ≡ ended star s (found l y) → timed counts s x ≡ made (pair l) (times_at s y)
  unfolding timed made both either
  timed_found l y p q =
      by_test (eqb (get_or s y 0) lf)
      (λ h. let e = eqb-true _ _ h in rw (p ∙ ended_here lf s l y e, times_one s y e))
      (λ h.
      let n = eqb-false _ _ h in
      by_test (eqb (get_or s y 0) star)
      (λ k.
      let e = eqb-true _ _ k in
      let r = made (pair l) (after s (y + 1)) in
      rw (p ∙ ended_other lf s l y n, q ∙ ended_here star s l y e, times_star s y n e)
      (either_later y r (λ c w. omega (arith, after_least s (y + 1) c (made_missing (pair l) (after s (y + 1)) c w)))))
      (λ k.
      let o = eqb-false _ _ k in
      let same : max y y ≡ y = omega arith in
      rw (p ∙ ended_other lf s l y n, q ∙ ended_other star s l y o, times_other s y n o, same)))

  -- where they are a reading that is ended by either byte
  pub timed_is : (r : Read (List ℕ)) → counts lf s x ≡ ended lf s r → counts star s x ≡ ended star s r
      → timed counts s x ≡ both (λ l n. (l, n)) r (λ l y. times_at s y)
  unfolding timed both made either ended
  timed_is (missing b) p q = let same : max b b ≡ b = omega arith in rw (p, q, same)
  timed_is (found l y) p q = timed_found l y p q

-- ---- the same by where they end alone

abbrev either_of : Result ℕ ℕ → Result ℕ ℕ → Result ℕ ℕ
either_of (Ok x) r = Ok x
either_of (Err b) (Ok x) = Ok x
either_of (Err b) (Err c) = Err (max b c)

abbrev both_of : Result ℕ ℕ → (ℕ → Result ℕ ℕ) → Result ℕ ℕ
both_of (Ok x) f = f x
both_of (Err b) f = Err b

passed_either : {A : Type 0} (p q : Read A) → passed (either p q) ≡ either_of (passed p) (passed q)
unfolding either
passed_either (found a x) q = refl
passed_either (missing b) (found a x) = refl
passed_either (missing b) (missing c) = refl

passed_both : {A B C : Type 0} (make : A → B → C) (p : Read A) (g : ℕ → Read B) → passed (both make p (λ a y. g y)) ≡ both_of (passed p) (λ y. passed (g y))
unfolding both
passed_both make (missing b) g = refl
passed_both make (found a y) g = passed_made (make a) (g y)

module _ (s : Text) where
  abbrev end_of : Result ℕ ℕ → Result ℕ ℕ → Result ℕ ℕ
  end_of p q = either_of p (both_of q (λ y. passed (after s y)))

  passed_timed : (counts : Counts) (x : ℕ) → passed (timed counts s x) ≡ end_of (passed (counts lf s x)) (passed (counts star s x))
  unfolding timed
  passed_timed counts x =
      passed_either (made (λ l. (l, 1)) (counts lf s x)) (both pair (counts star s x) (λ l y. after s y))
      ∙ rw (passed_made {B = List ℕ × ℕ} (λ l. (l, 1)) (counts lf s x), passed_both pair (counts star s x) (after s))

  -- no counts at all
  abbrev bare : Counts
  bare last s x = ended last s (found [] x)

  bare_passed : (last x : ℕ) → passed (bare last s x) ≡ closed last s (Ok x)
  unfolding closed
  bare_passed last x =
      by_test (eqb (get_or s x 0) last)
      (λ h. let e = eqb-true _ _ h in rw (ended_here {A = List ℕ} last s [] x e, ended_here {A = Unit {0}} last s tt x e))
      (λ h. let n = eqb-false _ _ h in rw (ended_other {A = List ℕ} last s [] x n, ended_other {A = Unit {0}} last s tt x n))

  module _ (counts : Counts) (x : ℕ) where
    abbrev Closed : Result ℕ ℕ → Type 0
    Closed r = (passed (counts lf s x) ≡ closed lf s r) × (passed (counts star s x) ≡ closed star s r)

    pub end_missing : (b : ℕ) → Closed (Err b) → Err b ≡ passed (timed counts s x)
    unfolding closed
    end_missing b h = let same : max b b ≡ b = omega arith in sym (passed_timed counts x ∙ rw (h.0, h.1, same))

    pub end_at : (y : ℕ) → Closed (Ok y) → passed (timed counts s x) ≡ passed (times_at s y)
    unfolding both
    end_at y h =
        passed_timed counts x
        ∙ rw (h.0, h.1, ← bare_passed lf y, ← bare_passed star y) (sym (passed_timed bare y))
        ∙ ap passed (timed_is bare s y (found [] y) refl refl)
        ∙ passed_made (pair []) (times_at s y)
