-- The three answers of the call.
use mathlib.Core.Path.{◌≡◌}
use Prim.Native.Nat.{ℕ, ◌≤◌, ◌<◌}
use borrow.Author.Tests.{le-leb, lt-leb}
use Rattle.eos.specs.Spread.{spread}
use Rattle.spread.specs.Call.{spread_call}
use Rattle.std.specs.Prelude.{Ok, Err}
use Rattle.spread.specs.declared.Beyond.TheVariants.{Tokens, Racks}

module _ (n k : ℕ) where
  pub call_tokens : 31 < n → Err Tokens ≡ spread_call n k
  unfolding spread_call
  call_tokens h = rw (lt-leb n 31 h, spread_call)

  pub call_racks : n ≤ 31 → 16 < k → Err Racks ≡ spread_call n k
  unfolding spread_call
  call_racks few h = rw (le-leb n 31 few, lt-leb k 16 h, spread_call)

  pub call_ways : n ≤ 31 → k ≤ 16 → Ok (spread n k) ≡ spread_call n k
  unfolding spread_call
  call_ways few some = rw (le-leb n 31 few, le-leb k 16 some, spread_call)
