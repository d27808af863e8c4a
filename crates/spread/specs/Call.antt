-- What the spread call answers (01: n over 31 is 3 beside 1, then k over 16 is 3 beside 2; the value is then 0).
use Rattle.std.specs.Prelude.{ℕ, true, false, leb, Result, Ok, Err}
use Rattle.eos.specs.Causes.{Refusal}
use Rattle.eos.specs.Spread.{spread}
use Rattle.spread.specs.declared.Beyond.{Beyond}
use Rattle.spread.specs.declared.Beyond.TheVariants.{Tokens, Racks}

-- 01's number, what stands beside it, and the value
abbrev pub beyond_triple : Beyond → Refusal
beyond_triple Tokens = record { number = 3; beside = 1; column = 0 }
beyond_triple Racks = record { number = 3; beside = 2; column = 0 }

abbrev pub spread_triple : Result ℕ Beyond → Refusal
spread_triple (Ok v) = record { number = 0; beside = 0; column = 0 }
spread_triple (Err b) = beyond_triple b

abbrev pub spread_value : Result ℕ Beyond → ℕ
spread_value (Ok v) = v
spread_value (Err b) = 0

unfoldable pub spread_call : ℕ → ℕ → Result ℕ Beyond
spread_call n k = elim (leb n 31) [ true ↦ elim (leb k 16) [ true ↦ Ok (spread n k) | false ↦ Err Racks ] | false ↦ Err Tokens ]
