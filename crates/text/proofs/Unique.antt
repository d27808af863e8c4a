-- What is printed reads back, what is read was printed so, and no two values are printed alike.
use Prim.Native.Nat.{ℕ, ◌≤◌, ◌<◌}
use mathlib.Core.Path.{◌≡◌, refl, ap, sym, ◌∙◌}
use mathlib.Core.List.{List, [], ◌∷◌, ◌++◌}
use mathlib.Core.Bool.{Bool, true, false}
use native.Mathlib.Omega.{arith}
use native.Mathlib.Nat.{zero-add}
use lib.Dec.{eqb}
use lib.IntN.{ℤ, pos, negsuc}
use borrow.Author.Tests.{eqb-true, eqb-false}
use Rattle.text.proofs.Basics.{by_test}
use lib.ListN.{length, get_or, length-append}
use lib.Seq.{drop-append_seam, append_snoc}
use Rattle.text.specs.Bytes.{Text, lf, colon, star}
use Rattle.text.specs.Number.{Read, is_digit, number, signed}
use Rattle.text.specs.Lists.{stop_of}
use Rattle.text.specs.Lines.{Outcome, got}
use Rattle.text.specs.Token.{Token}
use Rattle.text.specs.Printed.{decimal, signed_text, items_text, end_text, number_text, list_text, weights_text, counts_text, token_text}
use Rattle.text.proofs.ReadLaws.{found-is}
use Rattle.text.proofs.DecimalLaws.{length-positive}
use Rattle.text.proofs.Standing.{all_of, front_stands, stands_all}
use Rattle.text.proofs.Spelled.{Spelled, number_spelled, signed_spelled}
use Rattle.text.proofs.Exactly.{Exactly, got-is}
use Rattle.text.proofs.PrintedLaws.{counts_one, counts_many}
use Rattle.text.proofs.Halts.{number_halts}
use Rattle.text.proofs.LineParts.{lf_closes, star_closes, stop_other}
use Rattle.text.proofs.AnyParts.{any_part}
use Rattle.text.proofs.TimesParts.{lists_apart}

-- ---- of any exact reader
module _ {A : Type 0} (read : Text → ℕ → Outcome A) (text : A → Text) (fine : A → Bool) (exact : (s : Text) → Exactly s (read s) text fine) where
  -- what is printed reads back
  pub reads_back : (a : A) → fine a ≡ true → read (text a) 0 ≡ got a (length (text a))
  reads_back a h = (exact (text a)).forth 0 a (stands_all (text a) (text a) refl) h ∙ rw zero-add

  -- a text that is read to its end is the printed text of what is read, which is fine
  pub was_printed : (s : Text) (a : A) (next : ℕ) → read s 0 ≡ got a next → length s ≤ next → (s ≡ text a) × (fine a ≡ true)
  was_printed s a next e h = let b = (exact s).back 0 a next e in (all_of s (text a) next b.reaches h, b.fine-is)

  -- no two fine values are printed alike
  pub printed_unique : (a b : A) → fine a ≡ true → fine b ≡ true → text a ≡ text b → a ≡ b
  printed_unique a b p q e = (got-is (sym (reads_back a p) ∙ rw (← e) at (reads_back b q))).0

-- ---- of any value
same_rest : (a b c d : Text) → a ≡ c → a ++ b ≡ c ++ d → b ≡ d
same_rest a b c d p e = sym (drop-append_seam a b) ∙ rw (e, p) (drop-append_seam c d)

module _ {A : Type 0} (value : Text → ℕ → Read A) (text : A → Text) (one : Spelled value text) where
  -- a value is found again in a text that begins with it, up to a byte that is no digit
  pub value_unique : (a b : A) (t u : Text) → is_digit (get_or t 0 0) ≡ false → is_digit (get_or u 0 0) ≡ false → text a ++ t ≡ text b ++ u → (a ≡ b) × (t ≡ u)
  value_unique a b t u p q e =
      let k : a ≡ b = (found-is (sym (one.forth (text a ++ t) 0 a t refl p) ∙ one.forth (text a ++ t) 0 b u e q)).0 in
      (k, same_rest (text a) t (text b) u (ap text k) e)

  -- no two values have the same text
  pub text_unique : (a b : A) → text a ≡ text b → a ≡ b
  text_unique a b e = (value_unique a b [] [] refl refl (rw e)).0

  -- no two lists have the same text
  pub items_unique : (l k : List A) → items_text text lf l ≡ items_text text lf k → l ≡ k
  unfolding items_text
  items_unique [] [] e = refl
  items_unique [] (b ∷ k) e = absurd (omega (arith, simp length-append at (ap length e)))
  items_unique (a ∷ l) [] e = absurd (omega (arith, simp length-append at (ap length e)))
  items_unique (a ∷ l) (b ∷ k) e =
      let p = stop_of lf (length l) ∷ items_text text lf l in
      let q = stop_of lf (length k) ∷ items_text text lf k in
      let v = value_unique a b p q (stop_other lf (length l) refl) (stop_other lf (length k) refl) e in
      let r : items_text text lf l ≡ items_text text lf k = cc in
      rw (v.0, items_unique l k r)

  -- nor to the end of a line, where no value is printed as nothing
  pub list_unique : ((a : A) → 0 < length (text a)) → (l k : List A) → end_text text lf l ≡ end_text text lf k → l ≡ k
  unfolding end_text items_text
  list_unique p [] [] e = refl
  list_unique p [] (b ∷ k) e = absurd (omega (arith, simp length-append at (ap length e), p b))
  list_unique p (a ∷ l) [] e = absurd (omega (arith, simp length-append at (ap length e), p a))
  list_unique p (a ∷ l) (b ∷ k) e = items_unique (a ∷ l) (b ∷ k) e

-- ---- plainly

-- no two numbers are printed alike
pub decimal_unique : (m n : ℕ) → decimal m ≡ decimal n → m ≡ n
decimal_unique = text_unique number decimal number_spelled

-- no two signed numbers are printed alike
pub signed_text_unique : (v w : ℤ) → signed_text v ≡ signed_text w → v ≡ w
signed_text_unique = text_unique signed signed_text signed_spelled

signed-positive : (w : ℤ) → 0 < length (signed_text w)
unfolding signed_text
signed-positive (pos n) = length-positive n
signed-positive (negsuc n) = omega arith

-- no two lines of a number are printed alike
pub number_text_unique : (key : Text) (m n : ℕ) → number_text key m ≡ number_text key n → m ≡ n
unfolding number_text
number_text_unique key m n e =
    let r = same_rest key (decimal m ++ (lf ∷ [])) key (decimal n ++ (lf ∷ [])) refl e in
    (value_unique number decimal number_spelled m n (lf ∷ []) (lf ∷ []) refl refl r).0

-- no two lines of numbers are printed alike
pub list_text_unique : (key : Text) (vs ws : List ℕ) → list_text key vs ≡ list_text key ws → vs ≡ ws
unfolding list_text
list_text_unique key vs ws e =
    list_unique number decimal number_spelled length-positive vs ws (same_rest key (end_text decimal lf vs) key (end_text decimal lf ws) refl e)

-- no two lines of weights are printed alike
pub weights_text_unique : (key : Text) (vs ws : List ℤ) → weights_text key vs ≡ weights_text key ws → vs ≡ ws
unfolding weights_text
weights_text_unique key vs ws e =
    list_unique signed signed_text signed_spelled signed-positive vs ws (same_rest key (end_text signed_text lf vs) key (end_text signed_text lf ws) refl e)

-- no two lists that a star ends are printed alike, whatever stands behind them
starred_unique : (l k : List ℕ) (t u : Text) → end_text decimal star l ++ t ≡ end_text decimal star k ++ u → l ≡ k
starred_unique l k t u e =
    let s = end_text decimal star l ++ t in
    let find = ((any_part number decimal number_spelled number_halts star star_closes).finds s).forth 0 in
    let p = find l (front_stands s 0 (end_text decimal star l) t refl) refl in
    let q = find k (front_stands s 0 (end_text decimal star k) u e) refl in
    (found-is (sym p ∙ q)).0

one_apart : (l k : List ℕ) (n : ℕ) → end_text decimal lf l ≡ end_text decimal star k ++ (decimal n ++ (lf ∷ [])) → ⊥
one_apart l k n e =
    let s = end_text decimal lf l in
    lists_apart number decimal number_spelled number_halts lf star lf_closes star_closes (λ e. omega (arith, e)) l k s 0 (stands_all s s refl)
    (front_stands s 0 (end_text decimal star k) (decimal n ++ (lf ∷ [])) e)

more_unique : (l k : List ℕ) (m n : ℕ) → end_text decimal star l ++ (decimal m ++ (lf ∷ [])) ≡ end_text decimal star k ++ (decimal n ++ (lf ∷ []))
    → (l ≡ k) × (m ≡ n)
more_unique l k m n e =
    let p = starred_unique l k _ _ e in
    let r = same_rest (end_text decimal star l) _ (end_text decimal star k) _ (ap (end_text decimal star) p) e in
    (p, (value_unique number decimal number_spelled m n (lf ∷ []) (lf ∷ []) refl refl r).0)

-- nor two lists of counts with how many net-tokens they stand for
counts_unique : (l k : List ℕ) (m n : ℕ) → counts_text l m ≡ counts_text k n → (l ≡ k) × (m ≡ n)
counts_unique l k m n e =
    by_test (eqb m 1)
    (λ g.
    let one = eqb-true m 1 g in
    let p = sym (counts_one l m one) ∙ e in
    by_test (eqb n 1)
    (λ h.
    let also = eqb-true n 1 h in
    (list_unique number decimal number_spelled length-positive l k (p ∙ counts_one k n also), one ∙ sym also))
    (λ h. absurd (one_apart l k n (p ∙ counts_many k n (eqb-false n 1 h)))))
    (λ g.
    let p = sym (counts_many l m (eqb-false m 1 g)) ∙ e in
    by_test (eqb n 1)
    (λ h. absurd (one_apart k l m (sym (p ∙ counts_one k n (eqb-true n 1 h)))))
    (λ h. more_unique l k m n (p ∙ counts_many k n (eqb-false n 1 h))))

-- no two net-tokens are printed alike
pub token_text_unique : (key : Text) (t u : Token) → token_text key t ≡ token_text key u → t ≡ u
unfolding token_text
token_text_unique key t u e =
    let c : Token → Text = λ t. counts_text t.counts t.times in
    let whole = same_rest key ((decimal t.place ++ (colon ∷ [])) ++ c t) key ((decimal u.place ++ (colon ∷ [])) ++ c u) refl e in
    let v = value_unique number decimal number_spelled t.place u.place (colon ∷ c t) (colon ∷ c u) refl refl (simp append_snoc at whole) in
    let r : c t ≡ c u = cc in
    let l = counts_unique t.counts u.counts t.times u.times r in
    rw (v.0, l.0, l.1)
