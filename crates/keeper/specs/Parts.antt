-- What the parts of this crate's code answer.
use Rattle.std.specs.Prelude.{ℕ, ◌+◌, ◌≡◌, List, ℤ, length, set}
use Rattle.text.specs.Bytes.{Text, bytes}
use Rattle.text.specs.Lines.{Outcome, got, then, read_head, read_weights, modest}
use Rattle.text.specs.Repeat.{many_at, fill}
use Rattle.eos.specs.Model as eos
use Rattle.eos.specs.Weights.{Weights, Shaped}
use Rattle.model.specs.Limits.{weight_limit}
use Rattle.model.specs.Held.{model_of}
use Rattle.model.specs.declared.Model.{Model}
use Rattle.keeper.specs.Reading.{read_inner}
use Rattle.keeper.specs.Held.{no_rows, weight_row, hold_weights}
use Rattle.keeper.specs.declared.HeldWeights.{HeldWeights}

-- ---- the lines of a weight file, block by block

-- `inv=1` and `outer`
unfoldable pub read_outer : eos.Model → Text → ℕ → Outcome (List ℤ)
read_outer m s at = then (read_head (bytes "inv=1\n") s at) λ _ x. read_weights (bytes "outer=") (eos.places m) (modest weight_limit) s x

-- the outer weights, and per net `inner`
unfoldable pub read_weight_lines : eos.Model → Text → ℕ → Outcome Weights
read_weight_lines m s at =
    then (read_outer m s at) λ o x.
    then (many_at (read_inner m s) 0 (length m.nets) x) λ i y. got (record { outward = o; inward = i }) y

-- the weights of the nets in rows, behind a row
abbrev pub put_next : ℕ → List ℤ → List (List ℤ) → List (List ℤ)
put_next n row rows = set rows (n + 1) row

unfoldable pub behind_outer : List ℤ → List (List ℤ) → HeldWeights
behind_outer row l = record { rows = fill (λ n ws. put_next n (weight_row ws)) 0 l (set no_rows 0 row) }

-- ---- checking

-- weights as they are held for a model
pub record Holds (m : Model) (w : Weights) (h : HeldWeights) : Type 0 where
  pub shaped : Shaped (model_of m) w
  pub is : h ≡ hold_weights w
