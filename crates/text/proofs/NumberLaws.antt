-- Laws of the numbers in a text, with and without a sign, and of the byte that ends a value.
use Prim.Native.Nat.{ℕ, zero, suc, ◌+◌, ◌-◌, ◌*◌, ◌≤◌, ◌<◌, min}
use mathlib.Core.Path.{◌≡◌, refl, sym, ap, ◌∙◌}
use mathlib.Core.List.{[], ◌∷◌}
use mathlib.Core.Bool.{Bool, true, false, ◌&&◌, false≢true}
use lib.Dec.{eqb, ltb}
use lib.IntN.{ℤ, pos, negsuc}
use borrow.Author.Tests.{ltb-true, ltb-false, eq-eqb, ne_eqb, eqb-true, eqb-false}
use native.Mathlib.Omega.{arith}
use native.Mathlib.Numerals.{add-one}
use native.Mathlib.Nat.{min-eq_left}
use lib.ListN.{length, drop, get_or, get_or-eq_default, length-drop, drop_of_length-le}
use lib.Seq.{drop-cons}
use Rattle.std.specs.declared.result.Result.TheVariants.{Ok, Err}
use Rattle.std.specs.Prelude.{Result}
use Rattle.text.specs.declared.Parsed.{Parsed}
use Rattle.text.specs.Bytes.{Text, minus}
use Rattle.text.proofs.Basics.{by_test}
use Rattle.text.specs.Number.{Read, missing, found, is_digit, digits, number_of, number, made, negated, signed_if, ended, item}
use Rattle.text.specs.Capped.{answered, cap, cap_signed, capped}
use Rattle.text.proofs.ReadLaws.{missing≢found, found-is}
use Rattle.text.proofs.NumberSteps.{digits_more, digits_stop, of_zero, of_digit, of_other}
use Rattle.text.proofs.Spelled.{signed-minus, signed_plain}

-- ---- digits

-- only the capped value matters to the capped answer
pub digits_cap : (v w u : ℕ) (s : Text) → min v 65536 ≡ min w 65536 → capped (digits v u s) ≡ capped (digits w u s)
unfolding digits
digits_cap v w u [] e = rw e
digits_cap v w u (b ∷ s) e =
    by_test (is_digit b)
    (λ h. rw (digits_more v u b s h, digits_more w u b s h) (digits_cap (v * 10 + (b - 48)) (w * 10 + (b - 48)) (u + 1) s (omega arith)))
    (λ h. rw (digits_stop v u b s h, digits_stop w u b s h, e))

-- the same at a position of a text
module _ (s : Text) (v k : ℕ) where
  digits_at_more : k < length s → is_digit (get_or s k 0) ≡ true → digits v k (drop k s) ≡ digits (v * 10 + (get_or s k 0 - 48)) (k + 1) (drop (k + 1) s)
  digits_at_more h e = rw (add-one k, drop-cons s k 0 h, digits_more v k (get_or s k 0) (drop (suc k) s) e, add-one k)

  digits_at_stop : k < length s → is_digit (get_or s k 0) ≡ false → digits v k (drop k s) ≡ found v k
  digits_at_stop h e = rw (drop-cons s k 0 h, digits_stop v k (get_or s k 0) (drop (suc k) s) e)

  digits_at_end : length s ≤ k → digits v k (drop k s) ≡ found v k
  unfolding digits
  digits_at_end h = rw (drop_of_length-le s h)

module _ (s : Text) (v k : ℕ) (small : v ≤ 65536) where
  pub capped_stop : k < length s → is_digit (get_or s k 0) ≡ false → capped (digits v k (drop k s)) ≡ Ok (record { value = v; end = k })
  capped_stop h e = rw (digits_at_stop s v k h e, min-eq_left small)

  pub capped_end : length s ≤ k → capped (digits v k (drop k s)) ≡ Ok (record { value = v; end = k })
  capped_end h = rw (digits_at_end s v k h, min-eq_left small)

-- one digit more, the value capped again
pub capped_more : (s : Text) (v k w : ℕ) → k < length s → is_digit (get_or s k 0) ≡ true → w ≡ min (v * 10 + (get_or s k 0 - 48)) 65536
    → capped (digits v k (drop k s)) ≡ capped (digits w (k + 1) (drop (k + 1) s))
capped_more s v k w h e p = rw (digits_at_more s v k h e) (digits_cap _ _ _ _ (omega arith))

-- ---- a number, by the byte at its position

module _ (s : Text) (at : ℕ) where
  pub number_end : length s ≤ at → number s at ≡ missing at
  unfolding number number_of
  number_end h = rw (drop_of_length-le s h)

  module _ (h : at < length s) where
    pub number_zero : get_or s at 0 ≡ 48 → number s at ≡ found 0 (at + 1)
    unfolding number number_of
    number_zero e = rw (drop-cons s at 0 h) (of_zero at (get_or s at 0) (drop (suc at) s) e)

    number_none : is_digit (get_or s at 0) ≡ false → number s at ≡ missing at
    unfolding number number_of
    number_none e = rw (drop-cons s at 0 h) (of_other at (get_or s at 0) (drop (suc at) s) e)

    pub number_digits : (get_or s at 0 ≡ 48 → ⊥) → is_digit (get_or s at 0) ≡ true → number s at ≡ digits (get_or s at 0 - 48) (at + 1) (drop (at + 1) s)
    unfolding number number_of
    number_digits n e = rw (drop-cons s at 0 h) (of_digit at (get_or s at 0) (drop (suc at) s) n e ∙ rw (add-one at))

  -- no number begins with another byte, nor past the end
  pub number_other : is_digit (get_or s at 0) ≡ false → number s at ≡ missing at
  number_other e = by_test (ltb at (length s)) (λ p. number_none (ltb-true at (length s) p) e) (λ p. number_end (ltb-false at (length s) p))

  pub digit_within : is_digit (get_or s at 0) ≡ true → at < length s
  digit_within e =
      by_test (ltb at (length s)) (λ p. ltb-true at (length s) p) (λ p. absurd (false≢true (rw (get_or-eq_default s 0 (ltb-false at (length s) p)) at e)))

-- a number has at least one byte, and ends in the text
digits_span : (s : Text) (v u w t : ℕ) → digits v u s ≡ found w t → (u ≤ t) × (t ≤ u + length s)
unfolding digits
digits_span [] v u w t e = let h = (found-is e).1 in (omega (arith, h), omega (arith, h))
digits_span (b ∷ s) v u w t e =
    by_test (is_digit b)
    (λ h. let k = digits_span s (v * 10 + (b - 48)) (u + 1) w t (sym (digits_more v u b s h) ∙ e) in (omega arith, omega arith))
    (λ h. let k = (found-is (sym (digits_stop v u b s h) ∙ e)).1 in (omega (arith, k), omega (arith, k)))

number_span : (s : Text) (at w t : ℕ) → number s at ≡ found w t → (at < t) × (t ≤ length s)
number_span s at w t e =
    by_test (ltb at (length s))
    (λ p. let h = ltb-true at (length s) p in by_test (is_digit (get_or s at 0))
    (λ d. by_test (eqb (get_or s at 0) 48)
    (λ z. let k = (found-is (sym (number_zero s at h (eqb-true (get_or s at 0) 48 z)) ∙ e)).1 in (omega (arith, k), omega (arith, k)))
    (λ z. let k = digits_span (drop (at + 1) s) (get_or s at 0 - 48) (at + 1) w t (sym (number_digits s at h (eqb-false (get_or s at 0) 48 z) d) ∙ e) in
    (omega arith, omega (arith, length-drop (at + 1) s))))
    (λ d. absurd (missing≢found (sym (number_none s at h d) ∙ e))))
    (λ p. absurd (missing≢found (sym (number_end s at (ltb-false at (length s) p)) ∙ e)))

pub number_forward : (s : Text) (at w t : ℕ) → number s at ≡ found w t → at < t
number_forward s at w t e = (number_span s at w t e).0

pub number-within : (s : Text) (at w t : ℕ) → number s at ≡ found w t → t ≤ length s
number-within s at w t e = (number_span s at w t e).1

-- ---- from an answer of the code to the exact reading, and back

-- a reading that found a value, of which the answer says what `Told` states
pub record Exact {A : Type 0} (x : Read A) (Told : A → Type 0) (u : ℕ) : Type 0 where
  pub value : A
  pub is : x ≡ found value u
  pub told : Told value

abbrev pub answered_as : {B : Type 0} → ℕ → B → Result (Parsed B) ℕ
answered_as u b = Ok (record { value = b; end = u })

-- what is answered where a value was found says so, by f of the value; where a byte is, none was found
module _ {A B : Type 0} (f : A → B) where
  pub exact_of : (x : Read A) (p : Parsed B) → Ok p ≡ answered f x → Exact x (λ a. p.value ≡ f a) p.end
  exact_of (missing b) p e = let z : ◌≡◌ {A = ℕ} 0 1 = cc in absurd (omega arith)
  exact_of (found a t) p e = let z : p ≡ record { value = f a; end = t } = cc in record { value = a; is = rw z; told = rw z }

  pub missing_of : (x : Read A) (b : ℕ) → Err b ≡ answered f x → x ≡ missing b
  missing_of (missing c) b e = cc
  missing_of (found a t) b e = let z : ◌≡◌ {A = ℕ} 0 1 = cc in absurd (omega arith)

  pub answer_is : (x : Read A) (b : B) (u : ℕ) → Exact x (λ a. b ≡ f a) u → answered_as u b ≡ answered f x
  answer_is x b u h = rw (h.is, ← h.told)

  pub answer_missing : (x : Read A) (b : ℕ) → x ≡ missing b → Err b ≡ answered f x
  answer_missing x b e = rw e

abbrev pub Capped : ℕ → ℕ → Type 0
Capped v w = v ≡ cap w

abbrev pub CappedSigned : ℤ → ℤ → Type 0
CappedSigned v w = v ≡ cap_signed w

-- ---- the sign put on a number

pub plain_missing : (x : Read ℕ) (b : ℕ) → x ≡ missing b → made pos x ≡ missing b
unfolding made
plain_missing x b e = rw e

pub negated-missing : (at : ℕ) (x : Read ℕ) (b : ℕ) → x ≡ missing b → negated at x ≡ missing b
unfolding negated
negated-missing at x b e = rw e

negative : (at : ℕ) (x : Read ℕ) (v u w : ℕ) → x ≡ found (suc w) u → v ≡ cap (suc w) → Exact (negated at x) (CappedSigned (negsuc (v - 1))) u
unfolding negated
negative at x v u w e t = let z : v - 1 ≡ min w 65535 = omega (arith, t) in record { value = negsuc w; is = rw e; told = ap negsuc z }

module _ (x : Read ℕ) (v u : ℕ) (h : Exact x (Capped v) u) where
  pub plain_exact : Exact (made pos x) (CappedSigned (pos v)) u
  unfolding made
  plain_exact = record { value = pos h.value; is = rw h.is; told = ap pos h.told }

  pub negated_zero : (at : ℕ) → v ≡ 0 → negated at x ≡ missing at
  unfolding negated
  negated_zero at e = let z : h.value ≡ 0 = omega (arith, h.told) in rw (h.is, z)

  pub negated_exact : (at : ℕ) → (v ≡ 0 → ⊥) → Exact (negated at x) (CappedSigned (negsuc (v - 1))) u
  negated_exact at n = go h.value h.is h.told
    where
      go : (w : ℕ) → x ≡ found w u → v ≡ cap w → Exact (negated at x) (CappedSigned (negsuc (v - 1))) u
      go zero e t = absurd (n (omega (arith, t)))
      go (suc w) e t = negative at x v u w e t

-- by the byte at the position
module _ (s : Text) (at : ℕ) where
  pub sign_plain : (sign : Bool) → (sign && eqb (get_or s at 0) minus) ≡ false → signed_if sign s at ≡ made pos (number s at)
  unfolding signed_if
  sign_plain true e = signed_plain s at (eqb-false _ _ e)
  sign_plain false e = refl

  pub sign_minus : (sign : Bool) → (sign && eqb (get_or s at 0) minus) ≡ true → signed_if sign s at ≡ negated (at + 1) (number s (at + 1))
  unfolding signed_if
  sign_minus true e = signed-minus s at (eqb-true _ _ e)
  sign_minus false e = absurd (false≢true e)

-- it ends where its digits end
pub made_end : (x : Read ℕ) (w : ℤ) (u : ℕ) → made pos x ≡ found w u → (n : ℕ) × (x ≡ found n u) × (w ≡ pos n)
unfolding made
made_end (missing b) w u e = absurd (missing≢found e)
made_end (found n t) w u e = let k = found-is e in (n, ap (found n) k.1, sym k.0)

negated_end : (at : ℕ) (x : Read ℕ) (w : ℤ) (u : ℕ) → negated at x ≡ found w u → (n : ℕ) × (x ≡ found n u)
unfolding negated
negated_end at (missing b) w u e = absurd (missing≢found e)
negated_end at (found zero t) w u e = absurd (missing≢found e)
negated_end at (found (suc n) t) w u e = (suc n, ap (found (suc n)) (found-is e).1)

pub signed_within : (sign : Bool) (s : Text) (at : ℕ) (w : ℤ) (u : ℕ) → signed_if sign s at ≡ found w u → u ≤ length s
signed_within sign s at w u e =
    by_test (sign && eqb (get_or s at 0) minus)
    (λ m. let n = negated_end (at + 1) (number s (at + 1)) w u (sym (sign_minus s at sign m) ∙ e) in number-within s (at + 1) n.0 u n.1)
    (λ m. let n = made_end (number s at) w u (sym (sign_plain s at sign m) ∙ e) in number-within s at n.0 u n.1)

-- ---- a value and the byte right after it

module _ {A : Type 0} (stop : ℕ) (s : Text) (a : A) (u : ℕ) where
  pub ended_here : get_or s u 0 ≡ stop → ended stop s (found a u) ≡ found a (u + 1)
  unfolding ended
  ended_here e = rw (eq-eqb _ _ e, ended)

  pub ended_other : (get_or s u 0 ≡ stop → ⊥) → ended stop s (found a u) ≡ missing u
  unfolding ended
  ended_other n = rw (ne_eqb _ _ n, ended)

-- what is found with it was found before it
pub ended_end : {A : Type 0} (stop : ℕ) (s : Text) (x : Read A) (a : A) (u : ℕ) → ended stop s x ≡ found a u → (e : ℕ) × (x ≡ found a e) × (u ≡ e + 1)
unfolding ended
ended_end stop s (missing b) a u h = absurd (missing≢found h)
ended_end stop s (found c e) a u h =
    by_test (eqb (get_or s e 0) stop)
    (λ t. let k = found-is (sym (ended_here stop s c e (eqb-true _ _ t)) ∙ h) in (e, ap (λ x. found x e) k.0, sym k.1))
    (λ t. absurd (missing≢found (sym (ended_other stop s c e (eqb-false _ _ t)) ∙ h)))

pub item_inside : (stop : ℕ) (s : Text) (at v u : ℕ) → item number stop s at ≡ found v u → at < length s
unfolding item
item_inside stop s at v u e =
    let f = (ended_end stop s (number s at) v u e).1 in
    omega (arith, number_forward s at v _ f, number-within s at v _ f)

-- what is answered for an item, by what is answered for the value
module _ {A B : Type 0} (f : A → B) (value : Text → ℕ → Read A) (stop : ℕ) (s : Text) (at : ℕ) where
  pub item_missing : (b : ℕ) → Err b ≡ answered f (value s at) → Err b ≡ answered f (item value stop s at)
  unfolding item ended
  item_missing b e = rw (missing_of f (value s at) b e)

  pub item_ended : (p : Parsed B) → Ok p ≡ answered f (value s at) → answered (λ v. v) (ended stop s (found p.value p.end)) ≡ answered f (item value stop s at)
  unfolding item
  item_ended p e =
      let h = exact_of f (value s at) p e in
      by_test (eqb (get_or s p.end 0) stop)
      (λ t. let here = eqb-true _ _ t in rw (ended_here stop s p.value p.end here, h.is, ended_here stop s h.value p.end here) (ap (answered_as (p.end + 1)) h.told))
      (λ t. let n = eqb-false _ _ t in rw (ended_other stop s p.value p.end n, h.is, ended_other stop s h.value p.end n))

-- what is made of a value, and the byte right after it
module _ {A B : Type 0} (f : A → B) (stop : ℕ) (s : Text) where
  pub made_ended : (x : Read A) → ended stop s (made f x) ≡ made f (ended stop s x)
  unfolding made ended
  made_ended (missing b) = refl
  made_ended (found a u) = by_test (eqb (get_or s u 0) stop) (λ h. rw (h, ended)) (λ h. rw (h, ended))
