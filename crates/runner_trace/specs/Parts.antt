-- What the parts of this crate's code answer.
use Rattle.std.specs.Prelude.{ℕ, ◌≤◌, ◌≡◌, true, false, leb, length, drop, Result, Option, Some, None}
use Rattle.text.specs.Bytes.{Text}
use Rattle.model.specs.Limits.{room_limit, longest}
use Rattle.model.specs.declared.Model.{Model}
use Rattle.marking.specs.declared.Marking.{Marking}
use Rattle.reader.specs.Answers.{held_both}
use Rattle.runner.specs.declared.StepRefusal.{StepRefusal}
use Rattle.runner.specs.Answers.{Stepped, held_step}

-- a turn: what its step answers, and none at the end of the text; and the marking after it
pub record Turned : Type 0 where
  pub turn : Option (Result ℕ StepRefusal)
  pub marking : Marking

abbrev pub step_turned : Stepped → Turned
step_turned r = record { turn = Some r.answer; marking = r.marking }

-- one turn of a run at `at`: at the end of the text it stops, else its next step is tried on what is left of the text
unfoldable pub turn_at : Model → Text → ℕ → Marking → Turned
turn_at m s at k =
    elim (leb (length s) at) [ true ↦ record { turn = None; marking = k } | false ↦ step_turned (held_step room_limit m k (drop at s)) ]

-- what a turn asks: a held marking with its room, of a held model
pub record Ready (room : ℕ) (m : Model) (s : Text) (k : Marking) : Type 0 where
  pub held : held_both m k ≡ true
  pub within : length s ≤ longest
  pub long : length k.entries ≡ room_limit
  pub room_is : room ≡ room_limit
