-- The table of the spreads (02, K4): "all values for n of 0 to 31 and k of 0 to 16".
use Rattle.std.specs.Prelude.{◌≡◌, List, [], ℕ, ◌≤◌, get_or}
use Rattle.eos.specs.Spread.{spread}

-- the entry of n and k, in the row of n
abbrev pub entry_of : List (List ℕ) → ℕ → ℕ → ℕ
entry_of t n k = get_or (get_or t n []) k 0

-- every entry is the spread; that there are 32 rows of 17 is said by the type of the array
unfoldable pub SpreadTable : List (List ℕ) → Type 0
SpreadTable t = (n k : ℕ) → n ≤ 31 → k ≤ 16 → entry_of t n k ≡ spread n k
