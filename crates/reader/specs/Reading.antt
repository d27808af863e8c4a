-- What a model file says, whole: its header, the model and its start. And the text of a marking, which is read for a held model by the same rules.
use Rattle.std.specs.Prelude.{ℕ, Bool, ◌&&◌, leb, length}
use Rattle.text.specs.Bytes.{Text}
use Rattle.text.specs.Lines.{Outcome, got, then, need}
use Rattle.text.specs.declared.Cause.TheVariants.{Syntax}
use Rattle.eos.specs.Model as eos
use Rattle.model.specs.Limits.{line_limit, room_limit, count_limit}
use Rattle.model.specs.Rules.{Plant, right_plant}
use Rattle.model_text.specs.Reading.{read_plant}
use Rattle.marking.specs.Held.{Sizes, sizes_of}
use Rattle.marking.specs.Reading.{Limits, limits, read_start, right_start}

-- 01's limits on the token lines of a block and on a count
abbrev pub bounds : Limits
bounds = limits line_limit count_limit

pub record Loaded : Type 0 where
  pub plant : Plant
  pub start : eos.Lines

-- nothing stands after the last line
unfoldable pub read_end : {A : Type 0} → Text → A → ℕ → Outcome A
read_end s a at = need (leb (length s) at) Syntax at (got a at)

-- the lines of the model, and those of its start, which stand for a marking that there is room for
unfoldable pub read_lines : Text → ℕ → Outcome Loaded
read_lines s at =
    then (read_plant s at) λ p x. then (read_start room_limit bounds (sizes_of p.model) s x) λ ls y. got (record { plant = p; start = ls }) y

-- a model from a position to the end of the text; the whole text is read from position 0
unfoldable pub read_model_at : Text → ℕ → Outcome Loaded
read_model_at s at = then (read_lines s at) (read_end s)

abbrev pub read_model : Text → Outcome Loaded
read_model s = read_model_at s 0

-- the same of a marking
abbrev pub read_marking_at : Sizes → Text → ℕ → Outcome eos.Lines
read_marking_at z s at = then (read_start room_limit bounds z s at) (read_end s)

abbrev pub read_marking : Sizes → Text → Outcome eos.Lines
read_marking z s = read_marking_at z s 0

-- a model within 01's rules, and lines of its net-tokens that there is room for
unfoldable pub right_loaded : Loaded → Bool
right_loaded l = right_plant l.plant && right_start room_limit bounds (sizes_of l.plant.model) l.start
