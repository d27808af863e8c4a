-- What a text says of a step. The rule's own run and the engine read alike; they differ in the ranges that they ask for.
use Rattle.std.specs.Prelude.{ℕ, ◌-◌, Bool, ◌&&◌, ltb}
use Rattle.text.specs.Bytes.{Text, bytes}
use Rattle.text.specs.Lines.{Outcome, got, then, in_range, read_number}
use Rattle.eos.specs.Model.{Lines}
use Rattle.eos.specs.Firing.{Written}
use Rattle.marking.specs.Held.{Sizes}
use Rattle.marking.specs.Reading.{Limits, read_block, right_block}

-- a step up to what it takes
pub record Taking : Type 0 where
  pub event : ℕ
  pub taken : Lines

-- `fire` and an event, `take` and its token lines (01, "Files"); a text numbers events from 1
unfoldable pub read_taking : Limits → Sizes → ℕ → Text → ℕ → Outcome Taking
read_taking lim z events s at =
    then (read_number (bytes "fire=") (in_range 1 events) s at) λ e x₁.
    then (read_block (bytes "take=") lim z s x₁) λ taken x₂.
    got (record { event = e - 1; taken = taken }) x₂

-- then `give` and its token lines
unfoldable pub read_step : Limits → Sizes → ℕ → Text → ℕ → Outcome Written
read_step lim z events s at =
    then (read_taking lim z events s at) λ t x₁.
    then (read_block (bytes "give=") lim z s x₁) λ given x₂.
    got (record { event = t.event; taken = t.taken; given = given }) x₂

-- what such lines may say
unfoldable pub right_step : Limits → Sizes → ℕ → Written → Bool
right_step lim z events t = ltb t.event events && (right_block lim z t.taken && right_block lim z t.given)
