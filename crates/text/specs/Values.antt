-- How a number of a list is held. Of the numbers for which a type has no room, which are out of every range that is asked of it, 0 stands
-- for each.
use Rattle.std.specs.Prelude.{ℕ, cond, ℤ, pos, negsuc, leb}

-- a number from 0 to `most`
abbrev pub number_in : ℕ → ℤ → ℕ
number_in most (pos n) = cond (leb n most) n 0
number_in most (negsuc n) = 0

-- a weight in 16 bits
abbrev pub weight_in : ℤ → ℤ
weight_in (pos n) = cond (leb n 32767) (pos n) (pos 0)
weight_in (negsuc n) = cond (leb n 32767) (negsuc n) (pos 0)
