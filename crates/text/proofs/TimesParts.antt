-- The counts of a token's line and how many net-tokens it stands for, as a part of the line.
use Prim.Native.Nat.{ℕ, zero, suc, ◌+◌, ◌≤◌, ◌<◌}
use mathlib.Core.Path.{◌≡◌, refl, ap, sym, ◌∙◌}
use mathlib.Core.List.{List, [], ◌∷◌, ◌++◌, append_assoc}
use mathlib.Core.Bool.{Bool, true, false, ◌&&◌, ◌||◌, or-true}
use native.Mathlib.Omega.{arith}
use lib.Dec.{eqb, leb, ltb, lit<}
use borrow.Author.Tests.{eqb-true, eqb-false, le-leb, lt-ltb, ltb-true}
use lib.ListN.{length, get_or}
use Rattle.text.specs.Bytes.{Text, lf, comma, star, far}
use Rattle.text.specs.Number.{Read, missing, found, made, both, number, ended, item}
use Rattle.text.specs.Lists.{stop_of}
use Rattle.text.specs.Printed.{decimal_of, decimal, items_text, end_text, counts_text}
use Rattle.text.specs.TokenLine.{beyond_one, more_than_one, timed}
use Rattle.text.proofs.Basics.{by_test, by_le, and_true}
use Rattle.text.proofs.TestLaws.{and_both}
use Rattle.text.proofs.ByteLaws.{far_least}
use Rattle.text.proofs.ReadLaws.{missing≢found, missing-is, found-is}
use Rattle.text.proofs.NumberLaws.{ended_here, ended_other, ended_end}
use Rattle.text.proofs.Standing.{Stands, Reaches, stands_left, stands_right, stands_all, byte_stands, first_byte, reach_join}
use Rattle.text.proofs.Far.{far_past, far_front}
use Rattle.text.proofs.Spelled.{Spelled, number_spelled}
use Rattle.text.proofs.Halts.{Halts, number_halts, number_missing, zero_nowhere}
use Rattle.text.proofs.Parts.{Furthest, Part, row_part, made_part, either_part, same_part}
use Rattle.text.proofs.PrintedLaws.{counts_one, counts_many}
use Rattle.text.proofs.LineParts.{Closes, lf_closes, star_closes, item_part}
use Rattle.text.proofs.AnyParts.{first_of, more_split}

-- ---- lists that end in unlike bytes
module _ {A : Type 0} (value : Text → ℕ → Read A) (text : A → Text) (one : Spelled value text) (halts : Halts value text) (c d : ℕ) (former : Closes c)
    (latter : Closes d) (unlike : c ≡ d → ⊥)
  where
    -- where both stand, they begin with the same value, and with what stands behind it
    heads : (a : A) (l : List A) (b : A) (m : List A) (s : Text) (at : ℕ) → Stands s at (items_text text c (a ∷ l)) → Stands s at (items_text text d (b ∷ m))
        → (a ≡ b) × (stop_of c (length l) ≡ stop_of d (length m))
    heads a l b m s at st su =
        let f = first_of value text one halts c former s at a l st in
        let g = first_of value text one halts d latter s at b m su in
        let same = found-is (sym f.0 ∙ g.0) in
        (same.0, sym f.1 ∙ rw same.1 g.1)

    items_apart : (a : A) (l : List A) (b : A) (m : List A) (s : Text) (at : ℕ) → Stands s at (items_text text c (a ∷ l)) → Stands s at (items_text text d (b ∷ m))
        → ⊥
    unfolding stop_of
    items_apart a [] b [] s at st su = unlike (heads a [] b [] s at st su).1
    items_apart a [] b (y ∷ m) s at st su = former.no-comma (heads a [] b (y ∷ m) s at st su).1
    items_apart a (x ∷ l) b [] s at st su = latter.no-comma (sym (heads a (x ∷ l) b [] s at st su).1)
    items_apart a (x ∷ l) b (y ∷ m) s at st su =
        let t : A → Text = λ a. text a ++ (comma ∷ []) in
        let e = (heads a (x ∷ l) b (y ∷ m) s at st su).0 in
        let p = rw (more_split value text one halts c former a (x ∷ l) (omega arith)) at st in
        let q = rw (more_split value text one halts d latter b (y ∷ m) (omega arith)) at su in
        items_apart x l y m s (at + length (t a)) (stands_right s at (t a) (items_text text c (x ∷ l)) p)
        (rw e (stands_right s at (t b) (items_text text d (y ∷ m)) q))

    -- no value begins with a byte that ends a list
    items_begin : (last : ℕ) → Closes last → (end : ℕ) (a : A) (l : List A) (s : Text) (at : ℕ) → Stands s at (items_text text end (a ∷ l)) → get_or s at 0 ≡ last → ⊥
    unfolding items_text
    items_begin last closes end a l s at st e =
        let r = st ∙ append_assoc (text a) (stop_of end (length l) ∷ items_text text end l) _ in
        halts.begins a _ last closes.other closes.no-minus (sym (first_byte s at _ r) ∙ e)

    -- they never stand at one place
    pub lists_apart : (l m : List A) (s : Text) (at : ℕ) → Stands s at (end_text text c l) → Stands s at (end_text text d m) → ⊥
    unfolding end_text
    lists_apart [] [] s at st su = unlike (sym (first_byte s at _ st) ∙ first_byte s at _ su)
    lists_apart [] (b ∷ m) s at st su = items_begin c former d b m s at su (first_byte s at _ st)
    lists_apart (a ∷ l) [] s at st su = items_begin d latter c a l s at st (first_byte s at _ su)
    lists_apart (a ∷ l) (b ∷ m) s at st su = items_apart a l b m s at st su

-- ---- a number from 2 on, to the end of its line

abbrev pub to_end : ℕ → Text
to_end n = decimal n ++ (lf ∷ [])

number_to_end : Part (item number lf) to_end (λ n. true)
number_to_end = item_part number decimal number_spelled number_halts lf refl (lit< tt)

module _ (s : Text) (at : ℕ) where
  more_found : (r : Read ℕ) (n u : ℕ) → ended lf s (beyond_one at r) ≡ found n u → (ended lf s r ≡ found n u) × (ltb 1 n ≡ true)
  unfolding beyond_one ended
  more_found (missing b) n u e = absurd (missing≢found e)
  more_found (found zero t) n u e = absurd (missing≢found e)
  more_found (found (suc zero) t) n u e = absurd (missing≢found e)
  more_found (found (suc (suc m)) t) n u e =
      let k = ended_end lf s (found (suc (suc m)) t) n u e in
      (e, lt-ltb 1 n (omega (arith, (found-is k.1).0)))

  more_is : (r : Read ℕ) (n u : ℕ) → ended lf s r ≡ found n u → 1 < n → ended lf s (beyond_one at r) ≡ found n u
  unfolding beyond_one ended
  more_is (missing b) n u e h = e
  more_is (found zero t) n u e h = let k = ended_end lf s (found 0 t) n u e in absurd (omega (arith, (found-is k.1).0))
  more_is (found (suc zero) t) n u e h = let k = ended_end lf s (found 1 t) n u e in absurd (omega (arith, (found-is k.1).0))
  more_is (found (suc (suc m)) t) n u e h = e

  -- behind a 1 that no digit follows, LF or not, no number from 2 on goes on
  one_stays : (t : ℕ) → number s at ≡ found 1 t → Reaches s at (decimal 1) t → (n : ℕ) → 1 < n → far s at (to_end n) ≤ t
  one_stays t q r n h =
      by_test (eqb (get_or s t 0) lf)
      (λ w. by_le (far s at (to_end n)) t (λ k. k) (λ k.
      let one = reach_join s at (decimal 1) (lf ∷ []) t (t + 1) r (record { stands = byte_stands s t lf (lit< tt) (eqb-true _ _ w); next_is = refl }) in
      let st = far_front s at (to_end 1) (to_end n) (t + 1) one (omega (arith, k)) in
      let find = (number_to_end.finds (to_end n)).forth 0 in
      let p = find 1 st refl in
      let q = find n (stands_all (to_end n) (to_end n) refl) refl in
      absurd (omega (arith, h, (found-is (sym p ∙ q)).0))))
      (λ w. number_halts.ends s at 1 t q n lf refl (eqb-false _ _ w))

  -- the byte at fault is as far as any number from 2 on goes: 10 goes on behind a 1, and no number behind a 0
  more_fails : (r : Read ℕ) (b : ℕ) → number s at ≡ r → ended lf s (beyond_one at r) ≡ missing b → Furthest to_end (ltb 1) s at b
  unfolding beyond_one ended decimal decimal_of
  more_fails (missing c) b q e =
      let k = missing-is e in
      let m = (number_missing s at c q).0 in
      record {
        goes = (2, refl, omega (arith, k, m, far_least s at (to_end 2)));
        stays = λ n h. omega (arith, k, number_halts.stays s at c q n lf refl);
      }
  more_fails (found zero t) b q e =
      let k = missing-is e in
      record {
        goes = (2, refl, omega (arith, k, far_least s at (to_end 2)));
        stays = elim [ zero ↦ λ h. absurd (omega (arith, ltb-true 1 0 h)) | suc n ↦ λ h. omega (arith, k, zero_nowhere s at t q n (lf ∷ [])) ];
      }
  more_fails (found (suc zero) t) b q e =
      let k = missing-is e in
      let r = number_spelled.back s at 1 t q in
      record {
        goes = (10, refl, omega (arith, k, far_past s at (decimal 1) (48 ∷ lf ∷ []) t r, far_least s t (48 ∷ lf ∷ [])));
        stays = λ n h. rw (← k) (one_stays t q r n (ltb-true 1 n h));
      }
  more_fails (found (suc (suc m)) t) b q e =
      let n = suc (suc m) in
      by_test (eqb (get_or s t 0) lf)
      (λ h. absurd (missing≢found (sym e ∙ ended_here lf s n t (eqb-true _ _ h))))
      (λ h.
      let o = eqb-false _ _ h in
      let k = missing-is (sym (ended_other lf s n t o) ∙ e) in
      let r = number_spelled.back s at n t q in
      record {
        goes = (n, lt-ltb 1 n (omega arith), omega (arith, k, far_past s at (decimal n) (lf ∷ []) t r, far_least s t (lf ∷ [])));
        stays = λ n h. omega (arith, k, number_halts.ends s at (suc (suc m)) t q n lf refl o);
      })

-- a number from 2 on, to the end of its line
pub more_part : Part (item more_than_one lf) to_end (ltb 1)
unfolding item more_than_one
more_part = record {
  some = (2, refl);
  finds = λ s. record {
    back = λ at n u e.
        let k = more_found s at (number s at) n u e in
        let b = (number_to_end.finds s).back at n u k.0 in
        record { reaches = b.reaches; fine-is = k.1 };
    forth = λ at n st h. more_is s at (number s at) n _ ((number_to_end.finds s).forth at n st refl) (ltb-true 1 n h);
  };
  fails = λ s at b e. more_fails s at (number s at) b refl e;
}

-- ---- the counts, and behind them how many net-tokens the line stands for

abbrev told : List ℕ × ℕ → Text
told c = counts_text c.0 c.1

told_many : (l : List ℕ) (n : ℕ) → ltb 1 n ≡ true → counts_text l n ≡ end_text decimal star l ++ to_end n
told_many l n h = counts_many l n (λ e. omega (arith, e, ltb-true 1 n h))

one_or_more : (b : Bool) (n : ℕ) → ((b && eqb n 1) || (b && ltb 1 n)) ≡ (b && leb 1 n)
one_or_more true zero = refl
one_or_more true (suc zero) = refl
one_or_more true (suc (suc n)) = rw (lt-ltb 1 (suc (suc n)) (omega arith), le-leb 1 (suc (suc n)) (omega arith), or-true)
one_or_more false n = refl

module _ {counts : ℕ → Text → ℕ → Read (List ℕ)} {fine : List ℕ → Bool} (part : (last : ℕ) → Closes last → Part (counts last) (end_text decimal last) fine) where
  abbrev is_one : List ℕ × ℕ → Bool
  is_one c = fine c.0 && eqb c.1 1

  abbrev is_more : List ℕ × ℕ → Bool
  is_more c = fine c.0 && ltb 1 c.1

  one_part : Part (λ s x. made (λ l. (l, 1)) (counts lf s x)) told is_one
  unfolding counts_text
  one_part =
      made_part (λ l. (l, 1)) (part lf lf_closes) told is_one
      (λ l h. (refl, rw h))
      (λ c h. let p = and_true (fine c.0) (eqb c.1 1) h in (c.0, ap (λ n. (c.0, n)) (sym (eqb-true c.1 1 p.1)), p.0))

  times_part : Part (λ s x. both (λ l n. (l, n)) (counts star s x) λ l y. item more_than_one lf s y) told is_more
  times_part =
      row_part (λ l n. (l, n)) (part star star_closes)
      (record {
        join = λ l n g h. (told_many l n h, and_both (fine l) (ltb 1 n) g h);
        split = λ c h. let p = and_true (fine c.0) (ltb 1 c.1) h in (c.0, c.1, refl, p.0, p.1);
      })
      (λ l. more_part)

  ends_apart : (a c : List ℕ × ℕ) → is_one a ≡ true → is_more c ≡ true → (s : Text) (at : ℕ) → Stands s at (told a) → Stands s at (told c) → ⊥
  ends_apart a c g h s at st su =
      let one = counts_one a.0 a.1 (eqb-true a.1 1 (and_true (fine a.0) (eqb a.1 1) g).1) in
      let m = told_many c.0 c.1 (and_true (fine c.0) (ltb 1 c.1) h).1 in
      lists_apart number decimal number_spelled number_halts lf star lf_closes star_closes (λ e. omega (arith, e)) a.0 c.0 s at (rw one at st)
      (stands_left s at (end_text decimal star c.0) (to_end c.1) (rw m at su))

  pub timed_part : Part (timed counts) told (λ c. fine c.0 && leb 1 c.1)
  unfolding timed
  timed_part =
      same_part (either_part one_part times_part ends_apart) told (λ c. fine c.0 && leb 1 c.1)
      (λ c h. (refl, sym (one_or_more (fine c.0) c.1) ∙ h))
      (λ c h. one_or_more (fine c.0) c.1 ∙ h)
