-- A number is read exactly where its digits stand: for numbers, and for signed numbers.
use Prim.Native.Nat.{ℕ, zero, suc, ◌+◌, ◌-◌, ◌*◌, ◌/◌, ◌%◌, ◌≤◌, ◌<◌}
use mathlib.Core.Path.{◌≡◌, refl, sym, ◌∙◌}
use mathlib.Core.List.{[], ◌∷◌, ◌++◌, append_assoc}
use mathlib.Core.Bool.{true, false}
use native.Mathlib.Omega.{arith}
use native.Mathlib.Nat.{zero-add, add_assoc}
use lib.Dec.{eqb, lit<}
use lib.IntN.{ℤ, pos, negsuc}
use borrow.Author.Tests.{le-leb, eqb-true, eqb-false, eq-eqb, ne_eqb}
use lib.ListN.{length, drop, get_or, length-append}
use lib.Seq.{append_snoc}
use Rattle.text.specs.Bytes.{Text, minus}
use Rattle.text.proofs.Basics.{by_test}
use Rattle.text.specs.Number.{Read, missing, found, is_digit, digits, number_of, number, made, negated, signed}
use Rattle.text.specs.Printed.{decimal, signed_text}
use Rattle.text.proofs.ReadLaws.{missing≢found, found-is}
use Rattle.text.proofs.DecimalLaws.{decimal-small, decimal_large, decimal_more, decimal_leads, by_digits, is_digit_lem}
use Rattle.text.proofs.NumberSteps.{digits_more, digits_stop, of_zero, of_digit, of_other, digit_bounds}
use Rattle.text.proofs.Standing.{Reaches, front_stands, drop-behind, byte_stands, first_byte, ends_join, reach_join}

-- value reads exactly the text of a value, up to a byte that is no digit
pub record Spelled {A : Type 0} (value : Text → ℕ → Read A) (text : A → Text) : Type 0 where
  -- what is read stands there
  pub back : (s : Text) (at : ℕ) (a : A) (end : ℕ) → value s at ≡ found a end → Reaches s at (text a) end
  -- what stands there is read
  pub forth : (s : Text) (at : ℕ) (a : A) (rest : Text) → drop at s ≡ text a ++ rest → is_digit (get_or rest 0 0) ≡ false
      → value s at ≡ found a (at + length (text a))

-- ---- what is read stands there

-- the rest begins with the text, which begins at `at` and ends at `end`
record Front (s : Text) (at : ℕ) (text : Text) (end : ℕ) : Type 0 where
  rest : Text
  is : s ≡ text ++ rest
  end_is : end ≡ at + length text

front_here : (s : Text) (v u w end at : ℕ) → u ≡ at + length (decimal v) → found v u ≡ found w end → Front (decimal v ++ s) at (decimal w) end
front_here s v u w end at h e = let k = found-is e in record { rest = s; is = rw k.0; end_is = sym k.1 ∙ rw (← k.0) h }

-- the digits read on from v are those that are printed behind v
digits_front : (s : Text) (v u w end at : ℕ) → 0 < v → u ≡ at + length (decimal v) → digits v u s ≡ found w end → Front (decimal v ++ s) at (decimal w) end
unfolding digits
digits_front [] v u w end at p h e = front_here [] v u w end at h e
digits_front (b ∷ s) v u w end at p h e =
    by_test (is_digit b)
    (λ d.
    let bs = digit_bounds b d in
    let c : 48 + (b - 48) ≡ b = omega arith in
    let m : decimal (v * 10 + (b - 48)) ≡ decimal v ++ (b ∷ []) = rw (decimal_more v (b - 48) p (omega arith), c) in
    let l : u + 1 ≡ at + length (decimal (v * 10 + (b - 48))) = rw (m, length-append) (omega arith) in
    rw (m, append_snoc) at (digits_front s (v * 10 + (b - 48)) (u + 1) w end at (omega arith) l (sym (digits_more v u b s d) ∙ e)))
    (λ d. front_here (b ∷ s) v u w end at h (sym (digits_stop v u b s d) ∙ e))

number_front : (s : Text) (at w end : ℕ) → number_of at s ≡ found w end → Front s at (decimal w) end
unfolding number_of
number_front [] at w end e = absurd (missing≢found e)
number_front (b ∷ s) at w end e =
    by_test (is_digit b)
    (λ d.
    let bs = digit_bounds b d in
    let c : 48 + (b - 48) ≡ b = omega arith in
    let m : decimal (b - 48) ≡ b ∷ [] = rw (decimal-small (b - 48) (omega arith), c) in
    let l : at + 1 ≡ at + length (decimal (b - 48)) = rw m in
    by_test (eqb b 48)
    (λ z.
    let o : b - 48 ≡ 0 = omega (arith, eqb-true b 48 z) in
    rw m at (front_here s (b - 48) (at + 1) w end at l (rw o (sym (of_zero at b s (eqb-true b 48 z)) ∙ e))))
    (λ z.
    let n = eqb-false b 48 z in
    rw m at (digits_front s (b - 48) (at + 1) w end at (omega arith) l (sym (of_digit at b s n d) ∙ e))))
    (λ d. absurd (missing≢found (sym (of_other at b s d) ∙ e)))

number-back : (s : Text) (at w end : ℕ) → number s at ≡ found w end → Reaches s at (decimal w) end
unfolding number
number-back s at w end e =
    let f = number_front (drop at s) at w end e in
    record { stands = front_stands s at (decimal w) f.rest f.is; next_is = f.end_is }

-- ---- what stands there is read
digits_digit : (v u d : ℕ) (t : Text) → d < 10 → digits v u ((48 + d) ∷ t) ≡ digits (v * 10 + d) (u + 1) t
digits_digit v u d t h = let e : 48 + d - 48 ≡ d = omega arith in rw e at (digits_more v u (48 + d) t (is_digit_lem d h))

digits_decimal : (n at : ℕ) (t : Text) → digits 0 at (decimal n ++ t) ≡ digits n (at + length (decimal n)) t
digits_decimal n at =
    by_digits (λ n. (t : Text) → digits 0 at (decimal n ++ t) ≡ digits n (at + length (decimal n)) t)
    (λ n h t. rw (decimal-small n h) (digits_digit 0 at n t h ∙ rw (zero-add n)))
    (λ n h r t.
    let e : n / 10 * 10 + n % 10 ≡ n = omega arith in
    rw (decimal_large n h, append_assoc, length-append)
    (r ((48 + n % 10) ∷ t) ∙ digits_digit (n / 10) (at + length (decimal (n / 10))) (n % 10) t (omega arith) ∙ rw (e, add_assoc)))
    n

digits-rest : (v at : ℕ) (t : Text) → is_digit (get_or t 0 0) ≡ false → digits v at t ≡ found v at
unfolding digits
digits-rest v at [] e = refl
digits-rest v at (b ∷ t) e = digits_stop v at b t e

number_from : (at : ℕ) (s : Text) → (48 < get_or s 0 0) × (get_or s 0 0 ≤ 57) → number_of at s ≡ digits 0 at s
number_from at [] h = absurd (omega arith)
number_from at (b ∷ s) h =
    let d : is_digit b ≡ true = rw (le-leb 48 b (omega arith), le-leb b 57 (omega arith)) in
    of_digit at b s (λ e. omega arith) d ∙ sym (digits_more 0 at b s d ∙ rw (zero-add (b - 48)))

number_printed : (n at : ℕ) (t : Text) → is_digit (get_or t 0 0) ≡ false → number_of at (decimal n ++ t) ≡ found n (at + length (decimal n))
number_printed zero at t e = rw (decimal-small 0 (lit< tt)) (of_zero at 48 t refl)
number_printed (suc n) at t e =
    let l = decimal_leads (suc n) t in
    number_from at (decimal (suc n) ++ t) (l.2 (omega arith), l.1)
    ∙ digits_decimal (suc n) at t
    ∙ digits-rest (suc n) (at + length (decimal (suc n))) t e

number_forth : (s : Text) (at n : ℕ) (rest : Text) → drop at s ≡ decimal n ++ rest → is_digit (get_or rest 0 0) ≡ false
    → number s at ≡ found n (at + length (decimal n))
unfolding number
number_forth s at n rest w e = rw w (number_printed n at rest e)

-- a number is read exactly where its digits stand
pub number_spelled : Spelled number decimal
number_spelled = record { back = number-back; forth = number_forth }

-- ---- signed numbers
module _ (s : Text) (at : ℕ) where
  pub signed-minus : get_or s at 0 ≡ minus → signed s at ≡ negated (at + 1) (number s (at + 1))
  unfolding signed
  signed-minus e = rw (eq-eqb (get_or s at 0) minus e, signed)

  pub signed_plain : (get_or s at 0 ≡ minus → ⊥) → signed s at ≡ made pos (number s at)
  unfolding signed
  signed_plain e = rw (ne_eqb (get_or s at 0) minus e, signed)

  plain_back : (r : Read ℕ) (w : ℤ) (end : ℕ) → number s at ≡ r → made pos r ≡ found w end → Reaches s at (signed_text w) end
  unfolding made signed_text
  plain_back (missing b) w end q e = absurd (missing≢found e)
  plain_back (found n t) w end q e = let k = found-is e in rw (← k.0, ← k.1) (number-back s at n t q)

  minus-back : get_or s at 0 ≡ minus → (r : Read ℕ) (w : ℤ) (end : ℕ) → number s (at + 1) ≡ r → negated (at + 1) r ≡ found w end → Reaches s at (signed_text w) end
  unfolding negated signed_text
  minus-back m (missing b) w end q e = absurd (missing≢found e)
  minus-back m (found zero t) w end q e = absurd (missing≢found e)
  minus-back m (found (suc n) t) w end q e =
      let k = found-is e in
      let b : Reaches s at (minus ∷ []) (at + 1) = record { stands = byte_stands s at minus (lit< tt) m; next_is = refl } in
      rw (← k.0, ← k.1) (reach_join s at (minus ∷ []) (decimal (suc n)) (at + 1) t b (number-back s (at + 1) (suc n) t q))

  signed_back : (w : ℤ) (end : ℕ) → signed s at ≡ found w end → Reaches s at (signed_text w) end
  signed_back w end e =
      by_test (eqb (get_or s at 0) minus)
      (λ h. let m = eqb-true (get_or s at 0) minus h in minus-back m (number s (at + 1)) w end refl (sym (signed-minus m) ∙ e))
      (λ h. plain_back (number s at) w end refl (sym (signed_plain (eqb-false (get_or s at 0) minus h)) ∙ e))

signed_forth : (s : Text) (at : ℕ) (w : ℤ) (rest : Text) → drop at s ≡ signed_text w ++ rest → is_digit (get_or rest 0 0) ≡ false
    → signed s at ≡ found w (at + length (signed_text w))
unfolding signed_text made negated
signed_forth s at (pos n) rest e d =
    let b = first_byte s at (decimal n ++ rest) e in
    let l = decimal_leads n rest in
    signed_plain s at (λ m. omega arith) ∙ rw (number_forth s at n rest e d)
signed_forth s at (negsuc n) rest e d =
    let b = first_byte s at (minus ∷ (decimal (suc n) ++ rest)) e in
    let r = drop-behind s at (minus ∷ []) (decimal (suc n) ++ rest) e in
    signed-minus s at b ∙ rw (number_forth s (at + 1) (suc n) rest r d, ends_join at (minus ∷ []) (decimal (suc n)))

-- a signed number is read exactly where its sign and its digits stand
pub signed_spelled : Spelled signed signed_text
signed_spelled = record { back = signed_back; forth = signed_forth }
