-- What the call of this crate answers, for every input; and the numbers of the table for each answer.
use Rattle.std.specs.Prelude.{ℕ, suc, true, false, replicate, Result, Ok, Err}
use Rattle.std.proofs.Math.Option.{Option, none, some}
use Rattle.eos.specs.Causes.{Refusal}
use Rattle.eos.specs.Converting.{unreplaced}
use Rattle.model.specs.Rules.{Plant}
use Rattle.model.specs.Held.{hold_plant, plant_of, no_model}
use Rattle.model.specs.Test.{held_model}
use Rattle.model.specs.declared.Model.{Model}
use Rattle.model_convert.specs.Converting.{hold_numbers, converted_plant}
use Rattle.reader.specs.Answers.{pair, triple_of}
use Rattle.converter.specs.declared.Conversion.{Conversion}
use Rattle.converter.specs.declared.ConversionRefusal.{ConversionRefusal}
use Rattle.converter.specs.declared.ConversionRefusal.TheVariants.{NotHeld, Irreplaceable}

-- ---- the table: the number, and what stands beside it

abbrev pub unconverted_triple : ConversionRefusal → Refusal
unconverted_triple NotHeld = pair 14 0
unconverted_triple (Irreplaceable n) = pair 21 n

abbrev pub conversion_triple : Result Conversion ConversionRefusal → Refusal
conversion_triple r = triple_of unconverted_triple r

-- ---- converting

-- a model as it is converted, and the new numbers of its events
abbrev pub conversion : Plant → Conversion
conversion p = record { model = hold_plant (converted_plant p); numbers = hold_numbers p.model }

-- unless an event cannot be replaced, which is named by its number
unfoldable pub converted_or : Plant → Option ℕ → Result Conversion ConversionRefusal
converted_or p none = Ok (conversion p)
converted_or p (some k) = Err (Irreplaceable (suc k))

-- 14, then 21
unfoldable pub converting : Model → Result Conversion ConversionRefusal
converting m = elim (held_model m) [ true ↦ converted_or (plant_of m) (unreplaced (plant_of m).model) | false ↦ Err NotHeld ]

-- what a conversion gives: refused, the empty model and no number
abbrev pub conversion_given : Result Conversion ConversionRefusal → Conversion
conversion_given (Ok c) = c
conversion_given (Err e) = record { model = no_model; numbers = replicate 64 0 }
