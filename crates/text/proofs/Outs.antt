-- Cause 3 in plain words: where the first number out of range stands in a line that is right.
use Prim.Native.Nat.{ℕ, suc, ◌+◌, ◌-◌, ◌≤◌, ◌<◌}
use mathlib.Core.Path.{◌≡◌, refl, ap, sym, ◌∙◌}
use mathlib.Core.List.{List, [], ◌∷◌, ◌++◌}
use mathlib.Core.Bool.{Bool, true, false, true≢false}
use mathlib.Core.Logic.{◌⊎◌, inl, inr}
use native.Mathlib.Omega.{arith}
use native.Mathlib.Nat.{add-zero}
use lib.Dec.{eqb}
use borrow.Author.Tests.{eqb-true, eqb-false}
use lib.ListN.{length, drop, length-append, length-drop}
use Rattle.text.specs.Bytes.{Text, lf, comma, colon, star, column_at}
use Rattle.text.proofs.Basics.{by_test}
use Rattle.text.specs.Lists.{stop_of}
use Rattle.text.specs.Lines.{every, in_range, out_at}
use Rattle.text.specs.Token.{Token}
use Rattle.text.specs.TokenLine.{token_range, counts_out, token_out}
use Rattle.text.specs.Printed.{decimal, items_text, end_text, texts, number_text, place_text, counts_text, token_text}
use Rattle.text.proofs.Far.{between_is}
use Rattle.text.proofs.Standing.{Stands, stands_left, stands_right}
use Rattle.text.proofs.LineParts.{items_split}
use Rattle.text.proofs.PrintedLaws.{counts_one, counts_many}
use Rattle.text.proofs.LineKinds.{token_split}

-- a number that stands at b lies in the text, so its column is counted from 1
pub beyond_column : (s t : Text) (at b : ℕ) → at ≤ b → Stands s b t → 0 < length t → column_at s at b ≡ suc (b - at)
beyond_column s t at b h st l =
    let n : length (drop b s) ≡ length t + _ = ap length st ∙ length-append t _ in
    ap suc (between_is s at b h (omega (arith, n, length-drop b s)))

module _ {A : Type 0} (text : A → Text) (range : A → Bool) (s : Text) where
  -- of values printed from `at` on, one that stands at b is out of range, and those before it are not
  pub record First (at : ℕ) (l : List A) (b : ℕ) : Type 0 where
    pub before : List A
    pub one : A
    pub after : List A
    pub is : l ≡ before ++ (one ∷ after)
    pub in-range : every range before ≡ true
    pub beyond : range one ≡ false
    pub here : b ≡ at + length (texts (λ a. text a ++ (comma ∷ [])) before)
    pub stands : Stands s b (text one)

  module _ (at : ℕ) (a : A) (l : List A) where
    out_here : range a ≡ false → out_at text range at (a ∷ l) ≡ at
    unfolding out_at
    out_here h = rw (h, out_at)

    out_behind : range a ≡ true → out_at text range at (a ∷ l) ≡ out_at text range (at + length (text a) + 1) l
    unfolding out_at
    out_behind h = rw (h, out_at)

    items_left : (last : ℕ) → Stands s at (items_text text last (a ∷ l)) → Stands s at (text a)
    unfolding items_text
    items_left last st = stands_left s at (text a) (stop_of last (length l) ∷ items_text text last l) st

    items_right : (last : ℕ) → Stands s at (items_text text last (a ∷ l)) → Stands s (at + length (text a) + 1) (items_text text last l)
    items_right last st =
        let t = text a ++ (stop_of last (length l) ∷ []) in
        let e : at + length t ≡ at + length (text a) + 1 = rw length-append (omega arith) in
        rw e at (stands_right s at t (items_text text last l) (rw (items_split text last (length l) a l refl) at st))

    first_more : range a ≡ true → (b : ℕ) → First (at + length (text a) + 1) l b → First at (a ∷ l) b
    unfolding texts
    first_more h b k = record {
      before = a ∷ k.before;
      one = k.one;
      after = k.after;
      is = rw (k.is);
      in-range = rw (h, k.in-range);
      beyond = k.beyond;
      here =
          let t = texts (λ a. text a ++ (comma ∷ [])) k.before in
          omega (arith, k.here, length-append (text a ++ (comma ∷ [])) t, length-append (text a) (comma ∷ []));
      stands = k.stands;
    }

  out_first : (last at : ℕ) (l : List A) → every range l ≡ false → Stands s at (items_text text last l) → First at l (out_at text range at l)
  unfolding texts
  out_first last at [] e st = absurd (true≢false e)
  out_first last at (a ∷ l) e st =
      by_test (range a)
      (λ h. rw (out_behind at a l h) (first_more at a l h _ (out_first last (at + length (text a) + 1) l (rw h at e) (items_right at a l last st))))
      (λ h. rw (out_here at a l h) (record {
        before = [];
        one = a;
        after = l;
        is = refl;
        in-range = refl;
        beyond = h;
        here = sym (add-zero at);
        stands = items_left at a l last st;
      }))

  end_first : (last at : ℕ) (l : List A) → every range l ≡ false → Stands s at (end_text text last l) → First at l (out_at text range at l)
  unfolding end_text
  end_first last at [] e st = absurd (true≢false e)
  end_first last at (a ∷ l) e st = out_first last at (a ∷ l) e st

  -- of a line of values, behind its key
  pub row_first : (at : ℕ) (key : Text) (l : List A) → every range l ≡ false → Stands s at (key ++ end_text text lf l)
      → First (at + length key) l (out_at text range (at + length key) l)
  row_first at key l e st = end_first lf (at + length key) l e (stands_right s at key (end_text text lf l) st)

-- of a line of one number, behind its key
pub number_first : (key : Text) (s : Text) (at n : ℕ) → Stands s at (number_text key n) → Stands s (at + length key) (decimal n)
unfolding number_text
number_first key s at n st = stands_left s (at + length key) (decimal n) (lf ∷ []) (stands_right s at key (decimal n ++ (lf ∷ [])) st)

-- the counts of a token's line, ended by one byte or the other
counts_stand : (s : Text) (at : ℕ) (l : List ℕ) (n : ℕ) → Stands s at (counts_text l n) → (last : ℕ) × Stands s at (end_text decimal last l)
counts_stand s at l n st =
    by_test (eqb n 1)
    (λ h. (lf, rw (counts_one l n (eqb-true n 1 h)) at st))
    (λ h. (star, stands_left s at (end_text decimal star l) (decimal n ++ (lf ∷ [])) (rw (counts_many l n (eqb-false n 1 h)) at st)))

-- and how many net-tokens it stands for, where that is not one
times_stand : (s : Text) (at : ℕ) (l : List ℕ) (n : ℕ) → (n ≡ 1 → ⊥) → Stands s at (counts_text l n) → Stands s (at + length (end_text decimal star l)) (decimal n)
times_stand s at l n h st =
    stands_left s _ (decimal n) (lf ∷ []) (stands_right s at (end_text decimal star l) (decimal n ++ (lf ∷ [])) (rw (counts_many l n h) at st))

-- of a token's line: its place, the first of its counts, or else how many net-tokens it stands for; one is in range
module _ (key : Text) (places : ℕ) (range times : ℕ → Bool) (s : Text) (at : ℕ) (t : Token) where
  abbrev counts_from : ℕ
  counts_from = at + length (place_text key t.place)

  abbrev times_from : ℕ
  times_from = counts_from + length (end_text decimal star t.counts)

  pub token_first : times 1 ≡ true → token_range places range times t ≡ false → Stands s at (token_text key t)
      → ((in_range 1 places t.place ≡ false) × (token_out key places range at t ≡ at + length key) × Stands s (at + length key) (decimal t.place))
      ⊎ ((in_range 1 places t.place ≡ true) × First decimal range s counts_from t.counts (token_out key places range at t))
      ⊎ ((in_range 1 places t.place ≡ true)
      × (every range t.counts ≡ true)
      × (times t.times ≡ false)
      × (token_out key places range at t ≡ times_from)
      × Stands s times_from (decimal t.times))
  unfolding token_out counts_out
  token_first one e st =
      let p = place_text key t.place in
      let c = counts_text t.counts t.times in
      let whole : Stands s at (p ++ c) = rw (token_split key t) at st in
      let counts = stands_right s at p c whole in
      by_test (in_range 1 places t.place)
      (λ w. inr (by_test (every range t.counts)
      (λ v.
      let out : times t.times ≡ false = rw (w, v) at e in
      let n : t.times ≡ 1 → ⊥ = λ k. true≢false (sym one ∙ ap times (sym k) ∙ out) in
      inr (w, v, out, rw (w, v, token_out, counts_out), times_stand s counts_from t.counts t.times n counts))
      (λ v. let l = counts_stand s counts_from t.counts t.times counts in inl (w, rw (w, v, token_out, counts_out) (end_first decimal range s l.0 counts_from t.counts v l.1)))))
      (λ w.
      let q = decimal t.place in
      inl (w, rw (w, token_out), stands_left s (at + length key) q (colon ∷ []) (stands_right s at key (q ++ (colon ∷ [])) (stands_left s at p c whole))))
