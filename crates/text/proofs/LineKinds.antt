-- The kinds of line, each as a part: what it finds exactly, and how far its right lines go where it finds nothing.
use Prim.Native.Nat.{ℕ, zero, suc}
use mathlib.Core.Path.{◌≡◌, refl, sym, ◌∙◌}
use mathlib.Core.List.{[], ◌∷◌, ◌++◌, append_assoc}
use mathlib.Core.Bool.{Bool, true, false, ◌||◌, and-false, false≢true}
use native.Mathlib.Omega.{arith}
use lib.Dec.{eqb, lit<}
use borrow.Author.Tests.{eqb-true, ne_eqb, lt-leb}
use lib.ListN.{length}
use Rattle.text.specs.Bytes.{Text, lf, colon}
use Rattle.text.specs.Number.{Read, made, either, literal, number, item}
use Rattle.text.specs.Lists.{list_end}
use Rattle.text.specs.Lines.{in_range, behind}
use Rattle.text.specs.Printed.{decimal, end_text, number_text, place_text, counts_text, token_text, head_text}
use Rattle.text.specs.Token.{Token}
use Rattle.text.specs.TokenLine.{counts_at, token_form, sized, token_formed}
use Rattle.text.specs.Keyed.{by_key, keyed_text, keyed_form}
use Rattle.text.specs.declared.Keyed.{Keyed}
use Rattle.text.specs.declared.Keyed.TheVariants.{Former, Latter}
use Rattle.text.proofs.Standing.{Stands, differ, differ_stand}
use Rattle.text.proofs.Spelled.{Spelled, number_spelled}
use Rattle.text.proofs.Halts.{Halts, number_halts}
use Rattle.text.proofs.Parts.{Part, literal_part, row_part, made_part, either_part, same_part}
use Rattle.text.proofs.LineParts.{Closes, lf_closes, item_part, list_part, behind_part}
use Rattle.text.proofs.AnyParts.{any_part}
use Rattle.text.proofs.TimesParts.{timed_part}

-- the line of a number
pub number_line : (key : Text) → Part (behind key (item number lf)) (number_text key) (λ n. true)
unfolding number_text
number_line key = behind_part key (item_part number decimal number_spelled number_halts lf refl (lit< tt))

-- the line of n values of a kind
pub row_line : {A : Type 0} (value : Text → ℕ → Read A) (text : A → Text) → Spelled value text → Halts value text → (key : Text) (n : ℕ)
    → Part (behind key (list_end value lf n)) (λ l. key ++ end_text text lf l) (λ l. eqb (length l) n)
row_line value text one halts key n = behind_part key (list_part value text one halts lf lf_closes n)

-- the first line of a file
pub head_line : (line : Text) → Part (literal line) (λ _. line) (λ _. true)
head_line line = literal_part line

-- ---- the first line of a file that has two forms

-- what holds of both holds of it
pub head_holds : (P : Text → Type 0) (one two : Text) → P one → P two → (h : ℕ) → P (head_text one two h)
head_holds P one two p q zero = q
head_holds P one two p q (suc zero) = p
head_holds P one two p q (suc (suc h)) = q

one_or_two : (h : ℕ) → (eqb h 1 || eqb h 2) ≡ in_range 1 2 h
one_or_two zero = refl
one_or_two (suc zero) = refl
one_or_two (suc (suc zero)) = refl
one_or_two (suc (suc (suc h))) =
    let n : ℕ = suc (suc (suc h)) in
    rw (ne_eqb n 1 (λ e. omega (arith, e)), ne_eqb n 2 (λ e. omega (arith, e)), lt-leb n 2 (omega arith), and-false) refl

module _ (one two : Text) (differs : differ one two ≡ true) where
  abbrev line_of : ℕ → Text
  line_of = head_text one two

  unlike_lines : (g h : ℕ) → eqb g 1 ≡ true → eqb h 2 ≡ true → (s : Text) (at : ℕ) → Stands s at (line_of g) → Stands s at (line_of h) → ⊥
  unlike_lines g h p q s at st su = differ_stand s at one two differs (rw (eqb-true g 1 p) at st) (rw (eqb-true h 2 q) at su)

  pub heads_line : Part (λ s at. either (made (λ _. 1) (literal one s at)) (made (λ _. 2) (literal two s at))) line_of (in_range 1 2)
  heads_line =
      let former = made_part (λ _. 1) (literal_part one) line_of (λ h. eqb h 1) (λ v g. (refl, refl)) (λ h g. (tt, sym (eqb-true h 1 g), refl)) in
      let latter = made_part (λ _. 2) (literal_part two) line_of (λ h. eqb h 2) (λ v g. (refl, refl)) (λ h g. (tt, sym (eqb-true h 2 g), refl)) in
      same_part (either_part former latter unlike_lines) line_of (in_range 1 2) (λ h g. (refl, sym (one_or_two h) ∙ g)) (λ h g. one_or_two h ∙ g)

-- ---- the line of a net-token

counts_part : (b : Bool) (n last : ℕ) → Closes last → Part (counts_at b n last) (end_text decimal last) (sized b n)
unfolding counts_at sized
counts_part true n last closes = list_part number decimal number_spelled number_halts last closes n
counts_part false n last closes = any_part number decimal number_spelled number_halts last closes

-- it is its key, its place and the colon, then its counts and what stands behind them
pub token_split : (key : Text) (t : Token) → token_text key t ≡ place_text key t.place ++ counts_text t.counts t.times
unfolding token_text
token_split key t = sym (append_assoc key (decimal t.place ++ (colon ∷ [])) (counts_text t.counts t.times))

pub token_line : (key : Text) (places : ℕ) (size : ℕ → ℕ) → Part (token_form key places size) (token_text key) (token_formed places size)
unfolding token_form
token_line key places size =
    row_part (λ p c. record { place = p; counts = c.0; times = c.1 })
    (behind_part key (item_part number decimal number_spelled number_halts colon refl (lit< tt)))
    (record {
      join = λ p c g h. (token_split key (record { place = p; counts = c.0; times = c.1 }), h);
      split = λ t h. (t.place, (t.counts, t.times), refl, refl, h);
    })
    (λ p. timed_part (counts_part (in_range 1 places p) (size p)))

-- ---- the line of one of two keys that begin with unlike bytes

abbrev is_former : Keyed → Bool
is_former = by_key (λ n. true) (λ n. false)

abbrev is_latter : Keyed → Bool
is_latter = by_key (λ n. false) (λ n. true)

module _ (c d : ℕ) (k l : Text) (unlike : c ≡ d → ⊥) where
  abbrev text : Keyed → Text
  text = keyed_text (c ∷ k) (d ∷ l)

  apart : (a b : Keyed) → is_former a ≡ true → is_latter b ≡ true → (s : Text) (at : ℕ) → Stands s at (text a) → Stands s at (text b) → ⊥
  unfolding number_text
  apart (Former m) (Latter n) p q s at st su = differ_stand s at (text (Former m)) (text (Latter n)) (rw (ne_eqb c d unlike) refl) st su
  apart (Former m) (Former n) p q s at st su = false≢true q
  apart (Latter m) b p q s at st su = false≢true p

  pub keyed_line : Part (keyed_form (c ∷ k) (d ∷ l)) text (λ a. true)
  unfolding keyed_form
  keyed_line =
      let former = made_part Former (number_line (c ∷ k)) text is_former (λ n h. (refl, refl))
      (elim [ Former n ↦ λ h. (n, refl, refl) | Latter n ↦ λ h. absurd (false≢true h) ]) in
      let latter = made_part Latter (number_line (d ∷ l)) text is_latter (λ n h. (refl, refl))
      (elim [ Former n ↦ λ h. absurd (false≢true h) | Latter n ↦ λ h. (n, refl, refl) ]) in
      same_part (either_part former latter apart) text (λ a. true) (λ a h. (refl, refl)) (elim [ Former n ↦ λ h. refl | Latter n ↦ λ h. refl ])
