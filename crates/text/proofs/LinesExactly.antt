-- Each kind of line is accepted exactly where it is printed and in range.
use Prim.Native.Nat.{ℕ, ◌+◌}
use mathlib.Core.Path.{◌≡◌, refl, sym, subst, fun_ext}
use mathlib.Core.List.{◌∷◌}
use mathlib.Core.Bool.{Bool, true, false, ◌&&◌, and-true, and-false}
use lib.Dec.{eqb, leb}
use lib.IntN.{ℤ}
use lib.ListN.{length}
use Rattle.text.specs.Bytes.{Text}
use Rattle.text.specs.Number.{number, signed}
use Rattle.text.specs.Lines.{read_row, out_at, every, in_range, read_number, read_list, read_weights, read_head, read_heads}
use Rattle.text.specs.Printed.{decimal, signed_text, number_text, list_text, weights_text, token_text, head_text}
use Rattle.text.specs.Token.{Token}
use Rattle.text.specs.TokenLine.{sized, token_range, token_out, read_token, token_formed, right_token}
use Rattle.text.specs.Keyed.{by_key, keyed_text, keyed_out, read_keyed}
use Rattle.text.proofs.Basics.{by_test}
use Rattle.text.proofs.Spelled.{number_spelled, signed_spelled}
use Rattle.text.proofs.Halts.{number_halts, signed_halts}
use Rattle.text.proofs.Standing.{differ}
use Rattle.text.proofs.Exactly.{Exactly}
use Rattle.text.proofs.Columns.{part_exactly}
use Rattle.text.proofs.LineKinds.{number_line, row_line, head_line, heads_line, token_line, keyed_line}

-- the line of a number
pub number_exactly : (key : Text) (range : ℕ → Bool) (s : Text) → Exactly s (read_number key range s) (number_text key) range
unfolding read_number
number_exactly key range s = part_exactly (number_line key) range (λ at n. at + length key) s

-- the line of n numbers
pub list_exactly : (key : Text) (n : ℕ) (range : ℕ → Bool) (s : Text)
    → Exactly s (read_list key n range s) (list_text key) (λ vs. eqb (length vs) n && every range vs)
unfolding read_row list_text
list_exactly key n range s =
    part_exactly (row_line number decimal number_spelled number_halts key n) (every range) (λ at. out_at decimal range (at + length key)) s

-- the line of n weights
pub weights_exactly : (key : Text) (n : ℕ) (range : ℤ → Bool) (s : Text)
    → Exactly s (read_weights key n range s) (weights_text key) (λ ws. eqb (length ws) n && every range ws)
unfolding read_row weights_text
weights_exactly key n range s =
    part_exactly (row_line signed signed_text signed_spelled signed_halts key n) (every range) (λ at. out_at signed_text range (at + length key)) s

-- the first line of a file
pub head_exactly : (line s : Text) → Exactly s (read_head line s) (λ _. line) (λ _. true)
unfolding read_head
head_exactly line s = part_exactly (head_line line) (λ _. true) (λ at _. at) s

-- the first line of a file that has two forms
pub heads_exactly : (one two : Text) → differ one two ≡ true → (s : Text) → Exactly s (read_heads one two s) (head_text one two) (in_range 1 2)
unfolding read_heads
heads_exactly one two differs s =
    subst (Exactly s (read_heads one two s) (head_text one two)) (fun_ext λ h. and-true _)
    (part_exactly (heads_line one two differs) (λ _. true) (λ at _. at) s)

-- the line of one of two keys
pub keyed_exactly : (c d : ℕ) (k l : Text) → (c ≡ d → ⊥) → (range₁ range₂ : ℕ → Bool) (s : Text)
    → Exactly s (read_keyed (c ∷ k) (d ∷ l) range₁ range₂ s) (keyed_text (c ∷ k) (d ∷ l)) (by_key range₁ range₂)
unfolding read_keyed
keyed_exactly c d k l unlike range₁ range₂ s =
    part_exactly (keyed_line c d k l unlike) (by_key range₁ range₂) (keyed_out (c ∷ k) (d ∷ l)) s

-- ---- the line of a net-token

regrouped : (a b c d : Bool) → (a && (b && (c && d))) ≡ ((a && c) && (b && d))
regrouped false b c d = refl
regrouped true false false d = refl
regrouped true false true d = refl
regrouped true true c d = refl

-- right but for its ranges, and in range: it is right
right_is : (places : ℕ) (size : ℕ → ℕ) (range times : ℕ → Bool) (t : Token)
    → right_token places size range times t ≡ (token_formed places size t && token_range places range times t)
unfolding right_token sized
right_is places size range times t =
    by_test (in_range 1 places t.place)
    (λ w. rw w (regrouped (eqb (length t.counts) (size t.place)) (every range t.counts) (leb 1 t.times) (times t.times)))
    (λ w. rw (w, and-false))

pub token_exactly : (key : Text) (places : ℕ) (size : ℕ → ℕ) (range times : ℕ → Bool) (s : Text)
    → Exactly s (read_token key places size range times s) (token_text key) (right_token places size range times)
unfolding read_token
token_exactly key places size range times s =
    subst (Exactly s (read_token key places size range times s) (token_text key)) (sym (fun_ext (right_is places size range times)))
    (part_exactly (token_line key places size) (token_range places range times) (token_out key places range) s)
