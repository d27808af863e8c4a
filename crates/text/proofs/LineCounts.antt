-- How many lines a printed text has: a line of numbers, of weights or of a token is one line.
use Prim.Native.Nat.{ℕ, zero, suc, ◌+◌, ◌-◌, ◌≤◌}
use mathlib.Core.Path.{◌≡◌, refl}
use mathlib.Core.List.{List, [], ◌∷◌, ◌++◌}
use mathlib.Core.Bool.{true}
use native.Mathlib.Omega.{arith}
use lib.Dec.{eqb}
use borrow.Author.Tests.{leb-true, eqb-true, eqb-false, ne_eqb}
use lib.IntN.{ℤ, pos, negsuc}
use lib.ListN.{length, take, drop, length-take, length-drop}
use Rattle.text.specs.Bytes.{Text, lf, comma, colon, star, minus, newlines, line_at, column_at}
use Rattle.text.specs.Number.{is_digit}
use Rattle.text.specs.Lists.{stop_of}
use Rattle.text.specs.Lines.{every, column_for, spot_of}
use Rattle.text.specs.declared.Cause.{Cause}
use Rattle.text.specs.declared.Cause.TheVariants.{Syntax, Range, Idling, Crowded}
use Rattle.text.specs.declared.Fault.{Fault}
use Rattle.text.specs.Printed.{decimal, signed_text, items_text, end_text, texts, number_text, weights_text, counts_text, token_text}
use Rattle.text.specs.Token.{Token}
use Rattle.text.proofs.Basics.{by_test, and_true}
use Rattle.text.proofs.DecimalLaws.{decimal-digits}
use Rattle.text.proofs.PrintedLaws.{counts_one, counts_many}

-- a byte that is no LF ends no line
other_byte : (b : ℕ) (s : Text) → (b ≡ lf → ⊥) → newlines (b ∷ s) ≡ newlines s
unfolding newlines
other_byte b s h = rw (ne_eqb b lf h, newlines)

pub lines_append : (s t : Text) → newlines (s ++ t) ≡ newlines s + newlines t
unfolding newlines
lines_append [] t = omega arith
lines_append (b ∷ s) t = by_test (eqb b lf) (λ h. rw (h, newlines) (omega (arith, lines_append s t))) (λ h. rw (h, newlines) (lines_append s t))

-- a part of a text has no more lines than the text
lines-take : (n : ℕ) (s : Text) → newlines (take n s) ≤ newlines s
unfolding newlines
lines-take zero s = omega arith
lines-take (suc n) [] = omega arith
lines-take (suc n) (b ∷ s) =
    by_test (eqb b lf) (λ h. rw (h, newlines) (omega (arith, lines-take n s))) (λ h. rw (h, newlines) (lines-take n s))

-- every position is in a line of the text, or in the line after its last
pub line-within : (s : Text) (at : ℕ) → (1 ≤ line_at s at) × (line_at s at ≤ newlines s + 1)
line-within s at = (omega arith, omega (arith, lines-take at s))

-- a column is a byte of the text, counted from 1, or the one behind its last
pub column-within : (s : Text) (at b : ℕ) → (1 ≤ column_at s at b) × (column_at s at b ≤ length s + 1)
column-within s at b = (omega arith, omega (arith, length-take (b - at) (drop at s), length-drop at s))

-- so is the column that a fault is named by, or 0
pub spot-within : (s : Text) (e : Fault) → (spot_of s e).column ≤ length s + 1
spot-within s e = go e.cause
  where
    go : (c : Cause) → column_for c (column_at s e.at e.byte) ≤ length s + 1
    go Syntax = (column-within s e.at e.byte).1
    go Range = (column-within s e.at e.byte).1
    go Idling = omega arith
    go Crowded = omega arith

-- ---- within a line

digits-lines : (s : Text) → every is_digit s ≡ true → newlines s ≡ 0
unfolding newlines
digits-lines [] h = refl
digits-lines (b ∷ s) h =
    let p = and_true (is_digit b) (every is_digit s) h in
    let low = leb-true 48 b (and_true _ _ p.0).0 in
    rw (other_byte b s (λ e. omega (arith, e))) (digits-lines s p.1)

decimal-lines : (n : ℕ) → newlines (decimal n) ≡ 0
decimal-lines n = digits-lines (decimal n) (decimal-digits n)

signed_lines : (z : ℤ) → newlines (signed_text z) ≡ 0
unfolding signed_text
signed_lines (pos n) = decimal-lines n
signed_lines (negsuc n) = rw (other_byte minus (decimal (suc n)) (λ e. omega (arith, e))) (decimal-lines (suc n))

-- ---- a list to its end, which ends a line where its last byte does

module _ {A : Type 0} (text : A → Text) (plain : (a : A) → newlines (text a) ≡ 0) (last : ℕ) where
  items-lines : (a : A) (l : List A) → newlines (items_text text last (a ∷ l)) ≡ newlines (last ∷ [])
  unfolding items_text stop_of
  items-lines a [] = rw (lines_append (text a) (last ∷ []), plain a) (omega arith)
  items-lines a (b ∷ l) =
      let more = items_text text last (b ∷ l) in
      rw (lines_append (text a) (comma ∷ more), plain a, other_byte comma more (λ e. omega (arith, e))) (omega (arith, items-lines b l))

  end_lines : (l : List A) → newlines (end_text text last l) ≡ newlines (last ∷ [])
  unfolding end_text
  end_lines [] = refl
  end_lines (a ∷ l) = items-lines a l

counts_lines : (l : List ℕ) (n : ℕ) → newlines (counts_text l n) ≡ 1
unfolding newlines
counts_lines l n =
    by_test (eqb n 1)
    (λ h. rw (counts_one l n (eqb-true n 1 h)) (end_lines decimal decimal-lines lf l))
    (λ h.
    rw (
      counts_many l n (eqb-false n 1 h),
      lines_append (end_text decimal star l) (decimal n ++ (lf ∷ [])),
      end_lines decimal decimal-lines star l,
      lines_append (decimal n) (lf ∷ []),
      decimal-lines n,
    ))

-- several texts of one line each
pub texts-lines : {A : Type 0} (text : A → Text) → ((a : A) → newlines (text a) ≡ 1) → (l : List A) → newlines (texts text l) ≡ length l
unfolding texts newlines
texts-lines text one [] = refl
texts-lines text one (a ∷ l) = rw (lines_append (text a) (texts text l), one a, texts-lines text one l) (omega arith)

-- ---- the lines of a key, which has no LF
module _ (key : Text) (plain : newlines key ≡ 0) where
  pub number-line : (n : ℕ) → newlines (number_text key n) ≡ 1
  unfolding number_text newlines
  number-line n = rw (lines_append key (decimal n ++ (lf ∷ [])), plain, lines_append (decimal n) (lf ∷ []), decimal-lines n)

  pub weights-line : (ws : List ℤ) → newlines (weights_text key ws) ≡ 1
  unfolding weights_text newlines
  weights-line ws = rw (lines_append key (end_text signed_text lf ws), plain, end_lines signed_text signed_lines lf ws)

  pub token_line_lem : (t : Token) → newlines (token_text key t) ≡ 1
  unfolding token_text newlines
  token_line_lem t =
      rw (
        lines_append key ((decimal t.place ++ (colon ∷ [])) ++ counts_text t.counts t.times),
        plain,
        lines_append (decimal t.place ++ (colon ∷ [])) (counts_text t.counts t.times),
        lines_append (decimal t.place) (colon ∷ []),
        decimal-lines t.place,
        counts_lines t.counts t.times,
      )
