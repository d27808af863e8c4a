-- With which faults each kind of line is refused: 2 at the first byte where no line of its form could go on, where none stands there, and 3 at
-- the first of its numbers that is out of range, where one does.
use Prim.Native.Nat.{ℕ, ◌+◌}
use mathlib.Core.Path.{◌≡◌}
use mathlib.Core.List.{◌∷◌}
use mathlib.Core.Bool.{Bool, true}
use lib.Dec.{eqb}
use lib.IntN.{ℤ}
use lib.ListN.{length}
use Rattle.text.specs.Bytes.{Text}
use Rattle.text.specs.Number.{number, signed}
use Rattle.text.specs.Lines.{Outcome, then, every, out_at, in_range, read_row, read_number, read_list, read_weights, read_head, read_heads}
use Rattle.text.specs.Printed.{decimal, signed_text, number_text, list_text, weights_text, token_text, head_text}
use Rattle.text.specs.TokenLine.{token_range, token_out, token_formed, read_token}
use Rattle.text.specs.Keyed.{by_key, keyed_text, keyed_out, read_keyed}
use Rattle.text.specs.declared.Fault.{Fault}
use Rattle.text.proofs.Spelled.{number_spelled, signed_spelled}
use Rattle.text.proofs.Halts.{number_halts, signed_halts}
use Rattle.text.proofs.Standing.{differ}
use Rattle.text.proofs.Refusals.{Refuses, LineFaults, ThenFaults, then_refuses}
use Rattle.text.proofs.Columns.{column-exactly}
use Rattle.text.proofs.LineKinds.{number_line, row_line, head_line, heads_line, token_line, keyed_line}
use Rattle.text.proofs.LinesExactly.{number_exactly, head_exactly, heads_exactly}

-- ---- the faults of each kind of line
module _ (s : Text) where
  -- of the first line of a file, which is one line and no other
  abbrev pub HeadFaults : Text → ℕ → Fault → Type 0
  HeadFaults line = LineFaults s (λ (v : Unit {0}). line) (λ v. true) (λ v. true) (λ at v. at)

  -- of the first line of a file that has two forms, which is one of them
  abbrev pub HeadsFaults : Text → Text → ℕ → Fault → Type 0
  HeadsFaults one two = LineFaults s (head_text one two) (in_range 1 2) (λ h. true) (λ at h. at)

  -- of a line of key and a number; its form is that of any number
  abbrev pub NumberFaults : Text → (ℕ → Bool) → ℕ → Fault → Type 0
  NumberFaults key range = LineFaults s (number_text key) (λ n. true) range (λ at n. at + length key)

  -- of a line of key and n numbers; its form is that of any n numbers
  abbrev pub ListFaults : Text → ℕ → (ℕ → Bool) → ℕ → Fault → Type 0
  ListFaults key n range = LineFaults s (list_text key) (λ vs. eqb (length vs) n) (every range) (λ at. out_at decimal range (at + length key))

  -- of a line of key and n weights
  abbrev pub WeightsFaults : Text → ℕ → (ℤ → Bool) → ℕ → Fault → Type 0
  WeightsFaults key n range = LineFaults s (weights_text key) (λ ws. eqb (length ws) n) (every range) (λ at. out_at signed_text range (at + length key))

  -- of a line of one of two keys and a number
  abbrev pub KeyedFaults : Text → Text → (ℕ → Bool) → (ℕ → Bool) → ℕ → Fault → Type 0
  KeyedFaults one two range₁ range₂ = LineFaults s (keyed_text one two) (λ a. true) (by_key range₁ range₂) (keyed_out one two)

  -- of a line of key, a place, its counts and how many net-tokens it stands for; its form is that of as many counts as the place asks for, or
  -- any where there is no such place
  abbrev pub TokenFaults : Text → ℕ → (ℕ → ℕ) → (ℕ → Bool) → (ℕ → Bool) → ℕ → Fault → Type 0
  TokenFaults key places size range times =
      LineFaults s (token_text key) (token_formed places size) (token_range places range times) (token_out key places range)

  -- of the first line of a file or of a line of a number, and behind it those of what comes next
  abbrev pub HeadThen : Text → (ℕ → Fault → Type 0) → ℕ → Fault → Type 0
  HeadThen line Next = ThenFaults s (λ (v : Unit {0}). line) (HeadFaults line) (λ v. true) (λ v. Next)

  abbrev pub HeadsThen : Text → Text → (ℕ → ℕ → Fault → Type 0) → ℕ → Fault → Type 0
  HeadsThen one two Next = ThenFaults s (head_text one two) (HeadsFaults one two) (in_range 1 2) Next

  abbrev pub NumberThen : Text → (ℕ → Bool) → (ℕ → ℕ → Fault → Type 0) → ℕ → Fault → Type 0
  NumberThen key range Next = ThenFaults s (number_text key) (NumberFaults key range) range Next

-- ---- that each kind of line has these faults and no other

-- the first line of a file
pub head_refuses : (line s : Text) → Refuses (read_head line s) (HeadFaults s line)
unfolding read_head
head_refuses line s = column-exactly (head_line line) (λ v. true) (λ at v. at) s

-- the first line of a file that has two forms
pub heads_refuses : (one two : Text) → differ one two ≡ true → (s : Text) → Refuses (read_heads one two s) (HeadsFaults s one two)
unfolding read_heads
heads_refuses one two differs s = column-exactly (heads_line one two differs) (λ h. true) (λ at h. at) s

-- the line of a number
pub number_refuses : (key : Text) (range : ℕ → Bool) (s : Text) → Refuses (read_number key range s) (NumberFaults s key range)
unfolding read_number
number_refuses key range s = column-exactly (number_line key) range (λ at n. at + length key) s

-- the line of n numbers
pub list_refuses : (key : Text) (n : ℕ) (range : ℕ → Bool) (s : Text) → Refuses (read_list key n range s) (ListFaults s key n range)
unfolding read_row list_text
list_refuses key n range s =
    column-exactly (row_line number decimal number_spelled number_halts key n) (every range) (λ at. out_at decimal range (at + length key)) s

-- the line of n weights
pub weights_refuses : (key : Text) (n : ℕ) (range : ℤ → Bool) (s : Text) → Refuses (read_weights key n range s) (WeightsFaults s key n range)
unfolding read_row weights_text
weights_refuses key n range s =
    column-exactly (row_line signed signed_text signed_spelled signed_halts key n) (every range) (λ at. out_at signed_text range (at + length key)) s

-- the line of one of two keys that begin with unlike bytes
pub keyed_refuses : (c d : ℕ) (k l : Text) → (c ≡ d → ⊥) → (range₁ range₂ : ℕ → Bool) (s : Text)
    → Refuses (read_keyed (c ∷ k) (d ∷ l) range₁ range₂ s) (KeyedFaults s (c ∷ k) (d ∷ l) range₁ range₂)
unfolding read_keyed
keyed_refuses c d k l unlike range₁ range₂ s = column-exactly (keyed_line c d k l unlike) (by_key range₁ range₂) (keyed_out (c ∷ k) (d ∷ l)) s

-- the line of a net-token
pub token_refuses : (key : Text) (places : ℕ) (size : ℕ → ℕ) (range times : ℕ → Bool) (s : Text)
    → Refuses (read_token key places size range times s) (TokenFaults s key places size range times)
unfolding read_token
token_refuses key places size range times s = column-exactly (token_line key places size) (token_range places range times) (token_out key places range) s

-- ---- and what comes behind one

pub head_then : {B : Type 0} (line s : Text) {rest : ℕ → Outcome B} {Next : ℕ → Fault → Type 0}
    → Refuses rest Next → Refuses (λ at. then (read_head line s at) λ v. rest) (HeadThen s line Next)
head_then line s two = then_refuses (head_exactly line s) (head_refuses line s) (λ v. two)

pub heads_then : {B : Type 0} (one two : Text) → differ one two ≡ true → (s : Text) {rest : ℕ → ℕ → Outcome B} {Next : ℕ → ℕ → Fault → Type 0}
    → ((h : ℕ) → Refuses (rest h) (Next h)) → Refuses (λ at. then (read_heads one two s at) rest) (HeadsThen s one two Next)
heads_then one two differs s next = then_refuses (heads_exactly one two differs s) (heads_refuses one two differs s) next

pub number-then : {B : Type 0} (key : Text) (range : ℕ → Bool) (s : Text) {rest : ℕ → ℕ → Outcome B} {Next : ℕ → ℕ → Fault → Type 0}
    → ((n : ℕ) → Refuses (rest n) (Next n)) → Refuses (λ at. then (read_number key range s at) rest) (NumberThen s key range Next)
number-then key range s two = then_refuses (number_exactly key range s) (number_refuses key range s) two
