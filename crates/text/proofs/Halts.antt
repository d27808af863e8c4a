-- How far the numbers go, with and without a sign, where none is found or where it is not ended as it should be.
use Prim.Native.Nat.{ℕ, zero, suc, ◌+◌, ◌-◌, ◌*◌, ◌≤◌, ◌<◌}
use mathlib.Core.Path.{◌≡◌, refl, ap, sym, ◌∙◌}
use mathlib.Core.List.{[], ◌∷◌, ◌++◌, append-nil}
use mathlib.Core.Bool.{true, false, true≢false}
use native.Mathlib.Omega.{arith}
use lib.Dec.{eqb, lit<}
use lib.IntN.{ℤ, pos, negsuc}
use borrow.Author.Tests.{eqb-true, eqb-false, le-leb}
use lib.ListN.{length, drop, get_or}
use Rattle.text.specs.Bytes.{Text, minus, meet, far}
use Rattle.text.proofs.Basics.{by_test, and_true}
use Rattle.text.proofs.ByteLaws.{meet_same, meet_other, meet_none, far_least}
use Rattle.text.specs.Number.{Read, missing, found, is_digit, digits, number_of, number, made, negated, signed}
use Rattle.text.specs.Lines.{every}
use Rattle.text.specs.Printed.{decimal, signed_text}
use Rattle.text.proofs.ReadLaws.{missing≢found, missing-is, found-is}
use Rattle.text.proofs.NumberSteps.{digits_more, digits_stop, of_zero, of_digit, of_other}
use Rattle.text.proofs.DecimalLaws.{decimal-small, decimal-digits, decimal_leads, length-positive}
use Rattle.text.proofs.Standing.{drop-behind, byte_stands, first_byte}
use Rattle.text.proofs.Far.{far_other, far_past, meet_apart}
use Rattle.text.proofs.Spelled.{number_spelled, signed-minus, signed_plain}

-- how far the texts of values go, before a byte `stop` that is no digit
pub record Halts {A : Type 0} (value : Text → ℕ → Read A) (text : A → Text) : Type 0 where
  pub some : A
  -- a value begins with a digit or with a minus sign
  pub begins : (a : A) (t : Text) (c : ℕ) → is_digit c ≡ false → (c ≡ minus → ⊥) → get_or (text a ++ t) 0 0 ≡ c → ⊥
  -- where no value is found, one goes as far as the byte at fault
  pub goes : (s : Text) (at b : ℕ) → value s at ≡ missing b → (a : A) × (b ≤ far s at (text a))
  -- and none beyond it
  pub stays : (s : Text) (at b : ℕ) → value s at ≡ missing b → (a : A) (stop : ℕ) → is_digit stop ≡ false → far s at (text a ++ (stop ∷ [])) ≤ b
  -- where one is found and `stop` does not follow, none beyond its end
  pub ends : (s : Text) (at : ℕ) (v : A) (end : ℕ) → value s at ≡ found v end → (a : A) (stop : ℕ) → is_digit stop ≡ false → (get_or s end 0 ≡ stop → ⊥)
      → far s at (text a ++ (stop ∷ [])) ≤ end

-- ---- digits
digit_other : (b c : ℕ) → is_digit b ≡ true → is_digit c ≡ false → b ≡ c → ⊥
digit_other b c p q e = true≢false (sym p ∙ ap is_digit e ∙ q)

module _ (s : Text) (stop : ℕ) (no_digit : is_digit stop ≡ false) where
  -- digits and `stop` go no further than the digits that are read
  digits_stay : (t ds : Text) (v at w end : ℕ) → drop at s ≡ t → digits v at t ≡ found w end → every is_digit ds ≡ true → (get_or s end 0 ≡ stop → ⊥)
      → at + meet (ds ++ (stop ∷ [])) t ≤ end
  unfolding digits
  digits_stay [] ds v at w end q e h n = omega (arith, meet_none (ds ++ (stop ∷ [])), (found-is e).1)
  digits_stay (b ∷ t) [] v at w end q e h n =
      by_test (is_digit b)
      (λ d.
      let r = digits_stay t [] (v * 10 + (b - 48)) (at + 1) w end (drop-behind s at (b ∷ []) t q) (sym (digits_more v at b t d) ∙ e) refl n in
      omega (arith, r, meet_other stop b [] t (digit_other b stop d no_digit)))
      (λ d.
      let k = (found-is (sym (digits_stop v at b t d) ∙ e)).1 in
      let m = meet_other stop b [] t (λ p. n (rw (← k) (first_byte s at (b ∷ t) q ∙ p))) in
      omega (arith, k, m))
  digits_stay (b ∷ t) (c ∷ ds) v at w end q e h n =
      let g = and_true (is_digit c) (every is_digit ds) h in
      by_test (is_digit b)
      (λ d.
      let r = digits_stay t ds (v * 10 + (b - 48)) (at + 1) w end (drop-behind s at (b ∷ []) t q) (sym (digits_more v at b t d) ∙ e) g.1 n in
      by_test (eqb b c)
      (λ k. omega (arith, r, meet_same c b (ds ++ (stop ∷ [])) t (eqb-true b c k)))
      (λ k. omega (arith, r, meet_other c b (ds ++ (stop ∷ [])) t (eqb-false b c k))))
      (λ d.
      let k = (found-is (sym (digits_stop v at b t d) ∙ e)).1 in
      let m = meet_other c b (ds ++ (stop ∷ [])) t (λ p. digit_other c b g.0 d (sym p)) in
      omega (arith, k, m))

  -- digits without a leading zero and `stop` go no further than the number that is read
  number_stays : (t l : Text) (at w end : ℕ) → drop at s ≡ t → number_of at t ≡ found w end → every is_digit l ≡ true → 0 < length l
      → (get_or l 0 0 ≡ 48 → l ≡ 48 ∷ []) → (get_or s end 0 ≡ stop → ⊥) → at + meet (l ++ (stop ∷ [])) t ≤ end
  unfolding number_of
  number_stays [] l at w end q e h full lead n = absurd (missing≢found e)
  number_stays (b ∷ t) [] at w end q e h full lead n = absurd (omega arith)
  number_stays (b ∷ t) (c ∷ ds) at w end q e h full lead n =
      let g = and_true (is_digit c) (every is_digit ds) h in
      let q′ = drop-behind s at (b ∷ []) t q in
      by_test (is_digit b)
      (λ d. by_test (eqb b 48)
      (λ z.
      let k = (found-is (sym (of_zero at b t (eqb-true b 48 z)) ∙ e)).1 in
      let m : meet (stop ∷ []) t ≡ 0 = meet_apart s (at + 1) (stop ∷ []) t q′ (rw k n) in
      by_test (eqb b c)
      (λ o.
      let p = eqb-true b c o in
      let none : ds ≡ [] = cc (lead (sym p ∙ eqb-true b 48 z)) in
      omega (arith, k, m, meet_same c b (ds ++ (stop ∷ [])) t p, ap (λ (l : Text). meet (l ++ (stop ∷ [])) t) none))
      (λ o. omega (arith, k, meet_other c b (ds ++ (stop ∷ [])) t (eqb-false b c o))))
      (λ z.
      let r = digits_stay t ds (b - 48) (at + 1) w end q′ (sym (of_digit at b t (eqb-false b 48 z) d) ∙ e) g.1 n in
      by_test (eqb b c)
      (λ k. omega (arith, r, meet_same c b (ds ++ (stop ∷ [])) t (eqb-true b c k)))
      (λ k. omega (arith, r, meet_other c b (ds ++ (stop ∷ [])) t (eqb-false b c k)))))
      (λ d. absurd (missing≢found (sym (of_other at b t d) ∙ e)))

-- ---- a number
digits_found : (t : Text) (v at b : ℕ) → digits v at t ≡ missing b → ⊥
unfolding digits
digits_found [] v at b e = missing≢found (sym e)
digits_found (c ∷ t) v at b e =
    by_test (is_digit c)
    (λ d. digits_found t (v * 10 + (c - 48)) (at + 1) b (sym (digits_more v at c t d) ∙ e))
    (λ d. missing≢found (sym e ∙ digits_stop v at c t d))

of_missing : (t : Text) (at b : ℕ) → number_of at t ≡ missing b → (b ≡ at) × (is_digit (get_or t 0 0) ≡ false)
unfolding number_of
of_missing [] at b e = (sym (missing-is e), refl)
of_missing (c ∷ t) at b e =
    by_test (is_digit c)
    (λ d. by_test (eqb c 48)
    (λ z. absurd (missing≢found (sym e ∙ of_zero at c t (eqb-true c 48 z))))
    (λ z. absurd (digits_found t (c - 48) (at + 1) b (sym (of_digit at c t (eqb-false c 48 z) d) ∙ e))))
    (λ d. (missing-is (sym e ∙ of_other at c t d), d))

leads_digit : (n : ℕ) (t : Text) → is_digit (get_or (decimal n ++ t) 0 0) ≡ true
leads_digit n t = let k = decimal_leads n t in rw (le-leb 48 _ k.0, le-leb _ 57 k.1)

leads_other : (n : ℕ) (t : Text) (c : ℕ) → is_digit c ≡ false → get_or (decimal n ++ t) 0 0 ≡ c → ⊥
leads_other n t c d e = digit_other _ c (leads_digit n t) d e

-- '0' leads 0 alone
leads_zero : (n : ℕ) → get_or (decimal n) 0 0 ≡ 48 → decimal n ≡ 48 ∷ []
leads_zero zero e = decimal-small 0 (lit< tt)
leads_zero (suc n) e = let k = decimal_leads (suc n) [] in absurd (omega (arith, e, ap (λ (l : Text). get_or l 0 0) (append-nil (decimal (suc n))), k.2 (omega arith)))

module _ (s : Text) (at b : ℕ) (e : number s at ≡ missing b) where
  -- what is no number is so from its first byte on
  pub number_missing : (b ≡ at) × (is_digit (get_or s at 0) ≡ false)
  unfolding number
  number_missing = let k = of_missing (drop at s) at b e in (k.0, rw (first_byte s at (drop at s) refl) k.1)

  number_nowhere : (n : ℕ) (t : Text) → far s at (decimal n ++ t) ≡ at
  number_nowhere n t = far_other s at (decimal n ++ t) (λ q. digit_other _ _ (leads_digit n t) (number_missing.1) (sym q))

number_ends : (s : Text) (at v end : ℕ) → number s at ≡ found v end → (n stop : ℕ) → is_digit stop ≡ false → (get_or s end 0 ≡ stop → ⊥)
    → far s at (decimal n ++ (stop ∷ [])) ≤ end
unfolding number far
number_ends s at v end e n stop d o =
    number_stays s stop d (drop at s) (decimal n) at v end refl e (decimal-digits n) (length-positive n) (leads_zero n) o

pub number_halts : Halts number decimal
number_halts = record {
  some = 0;
  begins = λ n t c d m. leads_other n t c d;
  goes = λ s at b e. (0, omega (arith, (number_missing s at b e).0, far_least s at (decimal 0)));
  stays = λ s at b e n stop d. omega (arith, (number_missing s at b e).0, number_nowhere s at b e n (stop ∷ []));
  ends = number_ends;
}

-- ---- a number with a sign
module _ (s : Text) (at : ℕ) where
  -- no number begins with a minus sign
  plain_nowhere : get_or s at 0 ≡ minus → (n : ℕ) (t : Text) → far s at (decimal n ++ t) ≡ at
  plain_nowhere m n t = far_other s at (decimal n ++ t) (λ q. digit_other _ _ (leads_digit n t) refl (sym q ∙ m))

  minus_nowhere : (get_or s at 0 ≡ minus → ⊥) → (t : Text) → far s at (minus ∷ t) ≡ at
  minus_nowhere m t = far_other s at (minus ∷ t) m

  minus_past : get_or s at 0 ≡ minus → (t : Text) → far s at (minus ∷ t) ≡ far s (at + 1) t
  minus_past m t = far_past s at (minus ∷ []) t (at + 1) (record { stands = byte_stands s at minus (lit< tt) m; next_is = refl })

-- no number but 0 goes on with a '0'
pub zero_nowhere : (s : Text) (at end : ℕ) → number s at ≡ found 0 end → (n : ℕ) (t : Text) → far s at (decimal (suc n) ++ t) ≡ at
zero_nowhere s at end e n t =
    let r = number_spelled.back s at 0 end e in
    let z : get_or s at 0 ≡ 48 = first_byte s at _ r.stands ∙ rw (decimal-small 0 (lit< tt)) in
    far_other s at (decimal (suc n) ++ t) (λ q. omega (arith, z, (decimal_leads (suc n) t).2 (omega arith)))

number_forward : (s : Text) (at v end : ℕ) → number s at ≡ found v end → at ≤ end
number_forward s at v end e = omega (arith, (number_spelled.back s at v end e).next_is)

module _ (s : Text) (at : ℕ) (m : get_or s at 0 ≡ minus) where
  minus_stays : (r : Read ℕ) → number s (at + 1) ≡ r → (b : ℕ) → negated (at + 1) r ≡ missing b → (w : ℤ) (stop : ℕ) → is_digit stop ≡ false
      → (b ≡ at + 1) × (far s at (signed_text w ++ (stop ∷ [])) ≤ b)
  unfolding negated signed_text
  minus_stays (missing c) q b e (pos n) stop d =
      let k : b ≡ at + 1 = sym (missing-is e) ∙ (number_missing s (at + 1) c q).0 in
      (k, omega (arith, k, plain_nowhere s at m n (stop ∷ [])))
  minus_stays (missing c) q b e (negsuc n) stop d =
      let k : b ≡ at + 1 = sym (missing-is e) ∙ (number_missing s (at + 1) c q).0 in
      (k, omega (arith, k, minus_past s at m (decimal (suc n) ++ (stop ∷ [])), number_nowhere s (at + 1) c q (suc n) (stop ∷ [])))
  minus_stays (found zero t) q b e (pos n) stop d =
      let k = sym (missing-is e) in
      (k, omega (arith, k, plain_nowhere s at m n (stop ∷ [])))
  minus_stays (found zero t) q b e (negsuc n) stop d =
      let k = sym (missing-is e) in
      (k, omega (arith, k, minus_past s at m (decimal (suc n) ++ (stop ∷ [])), zero_nowhere s (at + 1) t q n (stop ∷ [])))
  minus_stays (found (suc v) t) q b e w stop d = absurd (missing≢found (sym e))

  minus_ends : (r : Read ℕ) → number s (at + 1) ≡ r → (v : ℤ) (end : ℕ) → negated (at + 1) r ≡ found v end → (w : ℤ) (stop : ℕ) → is_digit stop ≡ false
      → (get_or s end 0 ≡ stop → ⊥) → far s at (signed_text w ++ (stop ∷ [])) ≤ end
  unfolding negated signed_text
  minus_ends (missing c) q v end e w stop d o = absurd (missing≢found e)
  minus_ends (found zero t) q v end e w stop d o = absurd (missing≢found e)
  minus_ends (found (suc u) t) q v end e (pos n) stop d o =
      omega (arith, (found-is e).1, number_forward s (at + 1) (suc u) t q, plain_nowhere s at m n (stop ∷ []))
  minus_ends (found (suc u) t) q v end e (negsuc n) stop d o =
      let k = (found-is e).1 in
      omega (arith, k, minus_past s at m (decimal (suc n) ++ (stop ∷ [])), number_ends s (at + 1) (suc u) t q (suc n) stop d (rw k o))

module _ (s : Text) (at : ℕ) (m : get_or s at 0 ≡ minus → ⊥) where
  plain_stays : (r : Read ℕ) → number s at ≡ r → (b : ℕ) → made pos r ≡ missing b → (w : ℤ) (stop : ℕ) → is_digit stop ≡ false
      → (b ≡ at) × (far s at (signed_text w ++ (stop ∷ [])) ≤ b)
  unfolding made signed_text
  plain_stays (missing c) q b e (pos n) stop d =
      let k : b ≡ at = sym (missing-is e) ∙ (number_missing s at c q).0 in
      (k, omega (arith, k, number_nowhere s at c q n (stop ∷ [])))
  plain_stays (missing c) q b e (negsuc n) stop d =
      let k : b ≡ at = sym (missing-is e) ∙ (number_missing s at c q).0 in
      (k, omega (arith, k, minus_nowhere s at m (decimal (suc n) ++ (stop ∷ []))))
  plain_stays (found v t) q b e w stop d = absurd (missing≢found (sym e))

  plain_ends : (r : Read ℕ) → number s at ≡ r → (v : ℤ) (end : ℕ) → made pos r ≡ found v end → (w : ℤ) (stop : ℕ) → is_digit stop ≡ false
      → (get_or s end 0 ≡ stop → ⊥) → far s at (signed_text w ++ (stop ∷ [])) ≤ end
  unfolding made signed_text
  plain_ends (missing c) q v end e w stop d o = absurd (missing≢found e)
  plain_ends (found u t) q v end e (pos n) stop d o = let k = (found-is e).1 in omega (arith, k, number_ends s at u t q n stop d (rw k o))
  plain_ends (found u t) q v end e (negsuc n) stop d o =
      omega (arith, (found-is e).1, number_forward s at u t q, minus_nowhere s at m (decimal (suc n) ++ (stop ∷ [])))

pub signed_halts : Halts signed signed_text
unfolding signed_text
signed_halts = record {
  some = pos 0;
  begins = elim [ pos n ↦ λ t c d m. leads_other n t c d | negsuc n ↦ λ t c d m e. m (sym e) ];
  goes = λ s at b e.
      by_test (eqb (get_or s at 0) minus)
      (λ h.
      let m = eqb-true _ _ h in
      let k = (minus_stays s at m (number s (at + 1)) refl b (sym (signed-minus s at m) ∙ e) (pos 0) 10 refl).0 in
      (negsuc 0, omega (arith, k, minus_past s at m (decimal 1), far_least s (at + 1) (decimal 1))))
      (λ h.
      let m = eqb-false _ _ h in
      let k = (plain_stays s at m (number s at) refl b (sym (signed_plain s at m) ∙ e) (pos 0) 10 refl).0 in
      (pos 0, omega (arith, k, far_least s at (decimal 0))));
  stays = λ s at b e w stop d.
      by_test (eqb (get_or s at 0) minus)
      (λ h. let m = eqb-true _ _ h in (minus_stays s at m (number s (at + 1)) refl b (sym (signed-minus s at m) ∙ e) w stop d).1)
      (λ h. let m = eqb-false _ _ h in (plain_stays s at m (number s at) refl b (sym (signed_plain s at m) ∙ e) w stop d).1);
  ends = λ s at v end e w stop d o.
      by_test (eqb (get_or s at 0) minus)
      (λ h. let m = eqb-true _ _ h in minus_ends s at m (number s (at + 1)) refl v end (sym (signed-minus s at m) ∙ e) w stop d o)
      (λ h. let m = eqb-false _ _ h in plain_ends s at m (number s at) refl v end (sym (signed_plain s at m) ∙ e) w stop d o);
}
