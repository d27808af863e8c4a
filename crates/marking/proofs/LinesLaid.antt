-- Laws of entries as the code counts and lays their lines: a line in parts, and line after line.
use Prim.Native.Nat.{ℕ, zero, suc, ◌+◌, ◌≤◌, ◌<◌}
use mathlib.Core.Path.{◌≡◌, refl, ap, ◌∙◌}
use mathlib.Core.List.{List, [], ◌∷◌, ◌++◌}
use native.Mathlib.Omega.{arith}
use native.Mathlib.Numerals.{add-one}
use lib.ListN.{length, take, drop, get_or, length-append, drop_of_length-le}
use lib.Seq.{sets, drop-cons}
use Rattle.text.specs.Bytes.{Text, bytes, lf, colon, star}
use Rattle.text.specs.Lists.{stop_of}
use Rattle.text.specs.Printed.{decimal, items_text, end_text, counts_text, texts, token_text}
use Rattle.text.proofs.DecimalLaws.{length-below}
use Rattle.text.proofs.SetsLaws.{sets_append}
use Rattle.text.proofs.LaidLaws.{Laid}
use Rattle.marking.specs.declared.Entry.{Entry}
use Rattle.marking.specs.Held.{Sizes}
use Rattle.marking.proofs.TokenOrder.{outside}
use Rattle.marking.specs.Printed.{held_text}

-- a number of 16 bits has at most five digits
pub few-digits : (v : ℕ) → v < 65536 → length (decimal v) ≤ 5
few-digits v h = length-below 4 v (omega arith)

-- ---- the lines

-- a list has as many bytes whatever ends it
items_alike : (a b : ℕ) (vs : List ℕ) → length (items_text decimal a vs) ≡ length (items_text decimal b vs)
unfolding items_text
items_alike a b [] = refl
items_alike a b (v ∷ vs) =
    omega (
      arith,
      length-append (decimal v) (stop_of a (length vs) ∷ items_text decimal a vs),
      length-append (decimal v) (stop_of b (length vs) ∷ items_text decimal b vs),
      items_alike a b vs,
    )

pub end_alike : (a b : ℕ) (vs : List ℕ) → length (end_text decimal a vs) ≡ length (end_text decimal b vs)
unfolding end_text
end_alike a b [] = refl
end_alike a b (v ∷ vs) = items_alike a b (v ∷ vs)

-- the counts of a line that stands for one net-token, and of one that does not
pub counts_one : (counts : List ℕ) (n : ℕ) → n ≡ 1 → counts_text counts n ≡ end_text decimal lf counts
unfolding counts_text
counts_one counts n e = rw e

pub counts_many : (counts : List ℕ) (n : ℕ) → (n ≡ 1 → ⊥) → counts_text counts n ≡ end_text decimal star counts ++ (decimal n ++ (lf ∷ []))
unfolding counts_text
counts_many counts zero h = refl
counts_many counts (suc zero) h = absurd (h refl)
counts_many counts (suc (suc n)) h = refl

-- how many bytes they have
pub length_many : (counts : List ℕ) (n : ℕ) → (n ≡ 1 → ⊥) → length (counts_text counts n) ≡ length (end_text decimal lf counts) + length (decimal n) + 1
length_many counts n h =
    ap length (counts_many counts n h)
    ∙ omega (arith, length-append (end_text decimal star counts) (decimal n ++ (lf ∷ [])), length-append (decimal n) (lf ∷ []), end_alike star lf counts)

-- a place, counts, and how many net-tokens, as a line
abbrev pub line_of : ℕ → List ℕ → ℕ → Text
line_of p counts n = bytes "token=" ++ ((decimal p ++ (colon ∷ [])) ++ counts_text counts n)

pub line_length : (p : ℕ) (counts : List ℕ) (n : ℕ) → length (line_of p counts n) ≡ 7 + length (decimal p) + length (counts_text counts n)
line_length p counts n =
    omega (arith, length-append (decimal p ++ (colon ∷ [])) (counts_text counts n), length-append (decimal p) (colon ∷ []))

module _ (z : Sizes) (e : Entry) where
  -- the counts of its place
  abbrev pub counts_of : List ℕ
  counts_of = take (z.size e.token.place) e.token.counts

  pub held_line : held_text z e ≡ line_of e.token.place counts_of e.times
  unfolding held_text token_text
  held_line = refl

  pub held_length : length (held_text z e) ≡ 7 + length (decimal e.token.place) + length (counts_text counts_of e.times)
  held_length = ap length held_line ∙ line_length e.token.place counts_of e.times

-- what the code reads past the last entry
abbrev pub past : Entry
past = record { token = outside; times = 0 }

-- ---- line after line: the texts of entries from i on

module _ (f : Entry → Text) (es : List Entry) (i : ℕ) where
  abbrev pub texts_from : Text
  texts_from = texts f (drop i es)

  pub texts_end : length es ≤ i → texts_from ≡ []
  unfolding texts
  texts_end h = rw (drop_of_length-le es {i = i} h)

  module _ (d : Entry) (h : i < length es) where
    pub texts_next : texts_from ≡ f (get_or es i d) ++ texts f (drop (i + 1) es)
    unfolding texts
    texts_next = rw (add-one i, drop-cons es i d h)

    pub length_next : length texts_from ≡ length (f (get_or es i d)) + length (texts f (drop (i + 1) es))
    length_next = rw (texts_next, length-append)

    -- a line laid, and the rest to come
    pub lay_next : (out : List ℕ) (at : ℕ) {next : ℕ} {after : List ℕ} → Laid (f (get_or es i d)) out at next after
        → sets after next (texts f (drop (i + 1) es)) ≡ sets out at texts_from
    lay_next out at p = rw (p.0, p.1, texts_next, sets_append)
