-- What number a text says at a position. The numbers are exact, of any size: no limit of the engine is part of these definitions.
use Rattle.std.specs.Prelude.{ℕ, zero, suc, ◌+◌, ◌-◌, ◌*◌, max, [], ◌∷◌, Bool, true, false, ◌&&◌, leb, eqb, ℤ, pos, negsuc, length, drop, get_or}
use Rattle.text.specs.Bytes.{Text, minus, far}

-- what a reading within a line finds: nothing, and the byte at which nothing right can go on; or a value and the position after it
pub data Read (A : Type 0) : Type 0 where
  missing : ℕ → Read A
  found : A → ℕ → Read A

-- ---- readings put together

-- what is made of the value that is found
unfoldable pub made : {A B : Type 0} → (A → B) → Read A → Read B
made f (missing b) = missing b
made f (found a end) = found (f a) end

-- two readings in a row, and what is made of their values
unfoldable pub both : {A B C : Type 0} → (A → B → C) → Read A → (A → ℕ → Read B) → Read C
both make (missing b) f = missing b
both make (found a next) f = made (make a) (f a next)

module _ {A : Type 0} where
  -- the one or the other; where neither is right, the byte that the better of them reaches
  unfoldable pub either : Read A → Read A → Read A
  either (found a next) r = found a next
  either (missing b) (found a next) = found a next
  either (missing b) (missing c) = missing (max b c)

-- exactly the text t
unfoldable pub literal : Text → Text → ℕ → Read (Unit {0})
literal t s at = elim (eqb (far s at t) (at + length t)) [ true ↦ found tt (at + length t) | false ↦ missing (far s at t) ]

-- ---- numbers

-- '0' to '9'
abbrev pub is_digit : ℕ → Bool
is_digit b = leb 48 b && leb b 57

-- the number v, read up to `at`, goes on with the digits at the front of the rest
unfoldable pub digits : ℕ → ℕ → Text → Read ℕ
digits v at [] = found v at
digits v at (b ∷ rest) = elim (is_digit b) [ true ↦ digits (v * 10 + (b - 48)) (at + 1) rest | false ↦ found v at ]

-- the decimal number at the front of the rest, which starts at `at`: "0", or digits of which the first is not 0
unfoldable pub number_of : ℕ → Text → Read ℕ
number_of at [] = missing at
number_of at (b ∷ rest) =
    elim (eqb b 48) [
      | true ↦ found 0 (at + 1)
      | false ↦ elim (is_digit b) [ true ↦ digits (b - 48) (at + 1) rest | false ↦ missing at ]
    ]

-- 01: "Numbers are decimal without leading zeros". After a "0" nothing more is read, so "01" fails at what has to follow the number.
unfoldable pub number : Text → ℕ → Read ℕ
number s at = number_of at (drop at s)

-- behind a minus sign, from `at` on: never 0
unfoldable pub negated : ℕ → Read ℕ → Read ℤ
negated at (missing b) = missing b
negated at (found zero end) = missing at
negated at (found (suc n) end) = found (negsuc n) end

-- 01: "only weights may have a minus sign, never on 0"
unfoldable pub signed : Text → ℕ → Read ℤ
signed s at = elim (eqb (get_or s at 0) minus) [ true ↦ negated (at + 1) (number s (at + 1)) | false ↦ made pos (number s at) ]

-- a number that may have a minus sign, or may not
unfoldable pub signed_if : Bool → Text → ℕ → Read ℤ
signed_if true s at = signed s at
signed_if false s at = made pos (number s at)

-- ---- a value and the byte behind it

module _ {A : Type 0} where
  -- what was found, if the byte `stop` stands right after it
  unfoldable pub ended : ℕ → Text → Read A → Read A
  ended stop s (missing b) = missing b
  ended stop s (found a end) = elim (eqb (get_or s end 0) stop) [ true ↦ found a (end + 1) | false ↦ missing end ]

-- over a reader of one value: a value and the byte `stop` right after it
unfoldable pub item : {A : Type 0} → (Text → ℕ → Read A) → ℕ → Text → ℕ → Read A
item value stop s at = ended stop s (value s at)
