-- What the code answers for the number that a definition gives.
use Rattle.std.specs.Prelude.{ℕ, min, ℤ, pos, negsuc, Result}
use Rattle.text.specs.Number.{Read, missing, found}
use Rattle.text.specs.declared.Parsed.{Parsed}
use Rattle.std.specs.declared.result.Result.TheVariants.{Ok, Err}

-- what was read, as it is answered: f of the value and the position after it, or the byte at fault
abbrev pub answered : {A B : Type 0} → (A → B) → Read A → Result (Parsed B) ℕ
answered f (missing b) = Err b
answered f (found a end) = Ok (record { value = f a; end = end })

-- the position after it alone
abbrev pub passed : {A : Type 0} → Read A → Result ℕ ℕ
passed (missing b) = Err b
passed (found a end) = Ok end

-- a number from 65,536 on is answered as 65,536: it is out of every range
abbrev pub cap : ℕ → ℕ
cap n = min n 65536

-- a weight from 65,536 on, either side of 0, as 65,536 on that side
abbrev pub cap_signed : ℤ → ℤ
cap_signed (pos n) = pos (min n 65536)
cap_signed (negsuc n) = negsuc (min n 65535)

abbrev pub capped : Read ℕ → Result (Parsed ℕ) ℕ
capped r = answered cap r

abbrev pub capped_signed : Read ℤ → Result (Parsed ℤ) ℕ
capped_signed r = answered cap_signed r
