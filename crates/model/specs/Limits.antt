-- 01's limits, and the rooms of the arrays that hold what they limit. Limits of the same number are told apart by what they count. In code
-- they are constants of `Model` and `Marking`.
use Rattle.std.specs.Prelude.{ℕ}

-- ---- limits

-- the token lines of a block
abbrev pub line_limit : ℕ
line_limit = 256

-- the entries of a held marking, unlike net-tokens
abbrev pub room_limit : ℕ
room_limit = 256

-- the like net-tokens of an entry, and those of a token line
abbrev pub alike_limit : ℕ
alike_limit = 65535

-- the net-tokens that covering weights leave room for
abbrev pub cover_limit : ℕ
cover_limit = 256

-- a count of a net-token
abbrev pub count_limit : ℕ
count_limit = 65535

-- a weight, either side of 0
abbrev pub weight_limit : ℕ
weight_limit = 1000

-- the bytes of a text
abbrev pub longest : ℕ
longest = 1048576
