-- The spread call at five triples, by computation: no token and no rack, tokens and no rack, a small spread, and the two refusals.
use mathlib.Core.Path.{◌≡◌, refl}
use Rattle.eos.specs.Spread.{binomial, spread}
use Rattle.spread.specs.Call.{spread_call}
use Rattle.std.specs.Prelude.{Ok, Err}
use Rattle.spread.specs.declared.Beyond.TheVariants.{Tokens, Racks}

pub spread-calls :
    (spread_call 0 0 ≡ Ok 1)
    × (spread_call 3 0 ≡ Ok 0)
    × (spread_call 2 3 ≡ Ok 6)
    × (spread_call 32 17 ≡ Err Tokens)
    × (spread_call 31 17 ≡ Err Racks)
unfolding spread_call spread binomial
spread-calls = (refl, refl, refl, refl, refl)
