-- Texts laid over lent bytes: one after another, and what a writer of one answers and leaves.
use Prim.Native.Nat.{ℕ, ◌+◌, ◌≤◌, ◌<◌}
use mathlib.Core.Path.{◌≡◌, sym, ◌∙◌}
use mathlib.Core.List.{List, [], ◌∷◌, ◌++◌}
use native.Mathlib.Omega.{arith}
use lib.ListN.{length, take, drop, length-append}
use lib.Seq.{sets, sets-eq, length-take-le, take_at}
use borrow.Author.Tests.{le-leb, lt-leb}
use Rattle.std.specs.Prelude.{Ok, Err}
use Rattle.text.specs.Bytes.{Text, lf}
use Rattle.text.specs.Printed.{decimal, number_text}
use Rattle.text.proofs.Standing.{ends_join}
use Rattle.text.specs.Writing.{lay}
use Rattle.text.proofs.SetsLaws.{sets_append}

-- a text laid from `at` on, and the position after it
abbrev pub Laid : Text → List ℕ → ℕ → ℕ → List ℕ → Type 0
Laid text out at next after = (next ≡ at + length text) × (after ≡ sets out at text)

-- one text after another
pub laid_then : (a b out : List ℕ) (at : ℕ) {mid next : ℕ} {m l : List ℕ} → Laid a out at mid m → Laid b m mid next l → Laid (a ++ b) out at next l
laid_then a b out at p q = (q.0 ∙ rw p.0 (ends_join at a b), q.1 ∙ rw (p.0, p.1) (sym (sets_append a b out at)))

-- the bytes up to the end of a text that was laid
pub laid_front : (text out : List ℕ) (at : ℕ) {next : ℕ} {after : List ℕ} → Laid text out at next after → at + length text ≤ length out
    → take next after ≡ take at out ++ text
laid_front text out at p h =
    let n : length (take at out ++ text) ≡ at + length text =
    length-append (take at out) text ∙ rw (length-take-le at out (omega arith)) in
    rw (p.0, p.1, sets-eq text out at h) (take_at (take at out ++ text) (drop (at + length text) out) (at + length text) n)

-- the line of a key and a number
module _ (key : Text) (n : ℕ) where
  pub number_line_length : length (number_text key n) ≡ length key + length (decimal n) + 1
  unfolding number_text
  number_line_length = omega (arith, length-append key (decimal n ++ (lf ∷ [])), length-append (decimal n) (lf ∷ []))

  pub lay_number_line : (out : List ℕ) (at : ℕ) {a b c : ℕ} {k l m : List ℕ} → Laid key out at a k → Laid (decimal n) k a b l → Laid (lf ∷ []) l b c m
      → Laid (number_text key n) out at c m
  unfolding number_text
  lay_number_line out at {a} {b} {c} {k} f g h = laid_then key (decimal n ++ (lf ∷ [])) out at f (laid_then (decimal n) (lf ∷ []) k a g h)

-- what a writer answers and leaves: a text that fits
pub lay-whole : (text out : List ℕ) (at : ℕ) {n : ℕ} {m : List ℕ} → at + length text ≤ length out → n ≡ at + length text → m ≡ sets out at text
    → record { answer = Ok n; bytes = m } ≡ lay text out at
unfolding lay
lay-whole text out at h p q = rw (p, q, le-leb (at + length text) (length out) h, lay)

-- and one that does not
pub lay-short : (text out : List ℕ) (at : ℕ) {n : ℕ} → length out < at + length text → n ≡ at + length text
    → record { answer = Err (record { needed = n }); bytes = out } ≡ lay text out at
unfolding lay
lay-short text out at h p = rw (p, lt-leb (at + length text) (length out) h, lay)
