-- The reading of a model in three parts, as the code goes: its outline, its moves and object nets, its events.
use Rattle.std.specs.Prelude.{ℕ, List, leb}
use Rattle.text.specs.Bytes.{Text, bytes}
use Rattle.text.specs.Lines.{Outcome, got, then, many, in_range, read_number, read_list, read_heads}
use Rattle.eos.specs.Model.{Transition, ObjectNet, Event}
use Rattle.model.specs.Rules.{Frame}
use Rattle.model_text.specs.Reading.{read_sides, read_net, read_event}

pub record Outline : Type 0 where
  pub header : ℕ
  pub nets : ℕ
  pub places : ℕ
  pub types : List ℕ

pub record System : Type 0 where
  pub moves : List Transition
  pub nets : List ObjectNet

-- the lines from `eos` to `type`
unfoldable pub read_outline : Text → ℕ → Outcome Outline
read_outline s at =
    then (read_heads (bytes "eos=1\n") (bytes "eos=2\n") s at) λ h x₁.
    then (read_number (bytes "nets=") (in_range 0 8) s x₁) λ n x₂.
    then (read_number (bytes "places=") (in_range 1 32) s x₂) λ p x₃.
    then (read_list (bytes "type=") p (λ d. leb d n) s x₃) λ types x₄. got (record { header = h; nets = n; places = p; types = types }) x₄

-- the lines from `moves` to the last object net
unfoldable pub read_system : ℕ → ℕ → Text → ℕ → Outcome System
read_system nets places s at =
    then (read_number (bytes "moves=") (in_range 0 32) s at) λ k x₁.
    then (many (read_sides places s) k x₁) λ moves x₂.
    then (many (read_net s) nets x₂) λ objects x₃. got (record { moves = moves; nets = objects }) x₃

-- the lines from `events` to the last event
unfoldable pub read_listed : Frame → Text → ℕ → Outcome (List Event)
read_listed f s at = then (read_number (bytes "events=") (in_range 0 64) s at) λ n x. many (read_event f s) n x
