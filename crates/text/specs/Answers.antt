-- What the readers of lines answer for what a definition gives. A row has room for 32 values: it keeps the first 32, and unused
-- room is 0.
use Rattle.std.specs.Prelude.{ℕ, Bool, true, false, List, map, ℤ, pos, replicate, Option, Result}
use Rattle.std.proofs.lemmas.List.Edits.{sets}
use Rattle.std.specs.declared.option.Option.TheVariants.{Some, None}
use Rattle.std.specs.declared.result.Result.TheVariants.{Ok, Err}
use Rattle.text.specs.Lines.{Outcome, got, bad, fault_at, fault, every, modest, out_at}
use Rattle.text.specs.Printed.{signed_text}
use Rattle.text.specs.Token.{Token}
use Rattle.text.specs.declared.Cause.TheVariants.{Syntax}
use Rattle.text.specs.declared.Fault.{Fault}
use Rattle.text.specs.declared.Parsed.{Parsed}
use Rattle.text.specs.declared.TokenLine.{TokenLine}

-- the fault of a line that begins at `at`, where a reading within it finds nothing: of its syntax, at the byte that the reading names
unfoldable pub syntax_fault : {A : Type 0} → ℕ → Result A ℕ → Fault
syntax_fault at (Ok a) = fault Syntax at
syntax_fault at (Err b) = fault_at Syntax at b

-- where the first value out of range begins: the one that is known, or the value at `at`, if it is not inside
abbrev pub first_out : Option ℕ → ℕ → Bool → Option ℕ
first_out (Some b) at inside = Some b
first_out None at true = None
first_out None at false = Some at

-- the same outcome, of the value as it is held
unfoldable pub kept : {A B : Type 0} → (A → B) → Outcome A → Outcome B
kept f (got a next) = got (f a) next
kept f (bad e) = bad e

-- the value and the position after it, or the fault
unfoldable pub parsed : {A : Type 0} → Outcome A → Result (Parsed A) Fault
parsed (got a next) = Ok (record { value = a; end = next })
parsed (bad e) = Err e

-- the value, or the fault
unfoldable pub accepted : {A : Type 0} → Outcome A → Result A Fault
accepted (got a next) = Ok a
accepted (bad e) = Err e

unfoldable pub padded : List ℕ → List ℕ
padded l = sets (replicate 32 0) 0 l

-- a list of numbers, each as it is held
unfoldable pub row : {A : Type 0} → (ℤ → A) → List ℤ → List A
row held l = sets (replicate 32 (held (pos 0))) 0 (map held l)

-- the list as it is held, or where the first of its values begins that is more than hi from 0; the first of all begins at `from`
unfoldable pub ranged : {A : Type 0} → (ℤ → A) → ℕ → ℕ → List ℤ → Result (List A) ℕ
ranged held hi from l =
    elim (every (modest hi) l) [ true ↦ Ok (row held l) | false ↦ Err (out_at signed_text (modest hi) from l) ]

-- a net-token, by its place, its counts and how many alike its line stands for
abbrev pub counted : ℕ → List ℕ → ℕ → TokenLine
counted p counts n = record { place = p; counts = padded counts; times = n }

unfoldable pub token_line : Token → TokenLine
token_line t = counted t.place t.counts t.times
