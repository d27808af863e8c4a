-- Lines `key=value`: what is read, or the one fault that ends the reading.
use Rattle.std.specs.Prelude.{ℕ, zero, suc, ◌+◌, List, [], ◌∷◌, ◌++◌, Bool, true, false, ◌&&◌, leb, ℤ, nat_abs, length}
use Rattle.text.specs.Bytes.{Text, lf, line_at, column_at}
use Rattle.text.specs.Number.{Read, missing, found, made, both, either, literal, number, signed, item}
use Rattle.text.specs.Lists.{list_end}
use Rattle.text.specs.Printed.{decimal, signed_text}
use Rattle.text.specs.declared.Cause.{Cause}
use Rattle.text.specs.declared.Cause.TheVariants.{Syntax, Range, Idling, Crowded}
use Rattle.text.specs.declared.Fault.{Fault}
use Rattle.text.specs.declared.Spot.{Spot}

-- what a reading answers: a value and the position after it, or ONE fault, which is handed on and never taken apart
pub data Outcome (A : Type 0) : Type 0 where
  got : A → ℕ → Outcome A
  bad : Fault → Outcome A

-- the number of a cause in 01's table; 4 was that of a rule which 02 takes back (K2)
abbrev pub cause_number : Cause → ℕ
cause_number Syntax = 2
cause_number Range = 3
cause_number Idling = 5
cause_number Crowded = 12

-- the cause, where the line at fault begins, and the byte at fault
abbrev pub fault_at : Cause → ℕ → ℕ → Fault
fault_at cause at b = record { cause = cause; at = at; byte = b }

-- the fault of a line as a whole: that of its first byte
abbrev pub fault : Cause → ℕ → Fault
fault cause at = fault_at cause at at

-- 02, K5: the column of 2 and of 3; "the column 0 for all other outcomes"
abbrev pub column_for : Cause → ℕ → ℕ
column_for Syntax c = c
column_for Range c = c
column_for Idling c = 0
column_for Crowded c = 0

-- a fault as an answer names it: by the number of its line, and by the column in it
abbrev pub spot_of : Text → Fault → Spot
spot_of s e = record { cause = e.cause; line = line_at s e.at; column = column_for e.cause (column_at s e.at e.byte) }

module _ {A B : Type 0} where
  -- one reading after another; the first fault ends both
  unfoldable pub then : Outcome A → (A → ℕ → Outcome B) → Outcome B
  then (got a next) f = f a next
  then (bad e) f = bad e

module _ {A : Type 0} where
  -- a test of a line as a whole, and the cause where it fails
  unfoldable pub need : Bool → Cause → ℕ → Outcome A → Outcome A
  need true cause at o = o
  need false cause at o = bad (fault cause at)

  -- n things, one after the other
  unfoldable pub many : (ℕ → Outcome A) → ℕ → ℕ → Outcome (List A)
  many f zero at = got [] at
  many f (suc n) at = then (f at) λ a next. then (many f n next) λ l end. got (a ∷ l) end

  -- a line that begins at `at`: its syntax (2) is judged before any range (3), whose fault is at `out`
  unfoldable pub judged : (A → Bool) → (A → ℕ) → ℕ → Read A → Outcome A
  judged range out at (missing b) = bad (fault_at Syntax at b)
  judged range out at (found a next) = elim (range a) [ true ↦ got a next | false ↦ bad (fault_at Range at (out a)) ]

  abbrev pub every : (A → Bool) → List A → Bool
  every f [] = true
  every f (a ∷ l) = f a && every f l

  -- where the first value out of range begins, of values printed from `at` on, each with a byte behind it
  unfoldable pub out_at : (A → Text) → (A → Bool) → ℕ → List A → ℕ
  out_at text range at [] = at
  out_at text range at (a ∷ l) = elim (range a) [ true ↦ out_at text range (at + length (text a) + 1) l | false ↦ at ]

  -- what f finds behind the key, which has its '=' at its end
  unfoldable pub behind : Text → (Text → ℕ → Read A) → Text → ℕ → Read A
  behind key f s at = both (λ k a. a) (literal key s at) λ k next. f s next

-- n things, one after the other; each, with those before it, is put to a test, and the cause stands at its place where it fails
unfoldable pub many_within : {A : Type 0} → (List A → Bool) → Cause → (ℕ → Outcome A) → List A → ℕ → ℕ → Outcome (List A)
many_within fits cause f seen zero at = got [] at
many_within fits cause f seen (suc n) at =
    then (f at) λ a next.
    need (fits (seen ++ (a ∷ []))) cause at (then (many_within fits cause f (seen ++ (a ∷ [])) n next) λ l end. got (a ∷ l) end)

abbrev pub in_range : ℕ → ℕ → ℕ → Bool
in_range lo hi v = leb lo v && leb v hi

-- the line of key and one number
unfoldable pub read_number : Text → (ℕ → Bool) → Text → ℕ → Outcome ℕ
read_number key range s at = judged range (λ n. at + length key) at (behind key (item number lf) s at)

-- the line of key and n values, each printed by `text`
unfoldable pub read_row : {A : Type 0} → (Text → ℕ → Read A) → (A → Text) → Text → ℕ → (A → Bool) → Text → ℕ → Outcome (List A)
read_row value text key n range s at = judged (every range) (out_at text range (at + length key)) at (behind key (list_end value lf n) s at)

-- the line of key and n numbers
abbrev pub read_list : Text → ℕ → (ℕ → Bool) → Text → ℕ → Outcome (List ℕ)
read_list = read_row number decimal

-- the line of key and n weights
abbrev pub read_weights : Text → ℕ → (ℤ → Bool) → Text → ℕ → Outcome (List ℤ)
read_weights = read_row signed signed_text

-- a weight of at most `most` either side of 0
abbrev pub modest : ℕ → ℤ → Bool
modest most w = leb (nat_abs w) most

-- the first line of a file, which is the same in every file of its kind. 01: "In eos, inv and run any other number is 2"
unfoldable pub read_head : Text → Text → ℕ → Outcome (Unit {0})
read_head line s at = judged (λ _. true) (λ _. at) at (literal line s at)

-- the first line of a file that has two forms: 1 where it is the one, 2 where it is the other
unfoldable pub read_heads : Text → Text → Text → ℕ → Outcome ℕ
read_heads one two s at = judged (λ _. true) (λ _. at) at (either (made (λ _. 1) (literal one s at)) (made (λ _. 2) (literal two s at)))
