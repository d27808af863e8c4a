-- What a weight file says (01, "Files"): a weight for every place of a model, outside and in each net.
use Rattle.std.specs.Prelude.{ℕ, Bool, ◌&&◌, List, eqb, ℤ, length}
use Rattle.text.specs.Bytes.{Text, bytes}
use Rattle.text.specs.Lines.{Outcome, then, every, read_head, read_weights, modest}
use Rattle.text.specs.Repeat.{many_at, every_at}
use Rattle.eos.specs.Model as eos
use Rattle.eos.specs.Weights.{Weights}
use Rattle.model.specs.Limits.{weight_limit}
use Rattle.reader.specs.Reading.{read_end}

-- the weights of net n: as many as the net has places, each at most 1,000 either side of 0
unfoldable pub read_inner : eos.Model → Text → ℕ → ℕ → Outcome (List ℤ)
read_inner m s n at = read_weights (bytes "inner=") (eos.net m n).size (modest weight_limit) s at

-- `inv=1`, `outer`, then per net `inner`, and nothing after them, from a position on
unfoldable pub read_weights_at : eos.Model → Text → ℕ → Outcome Weights
read_weights_at m s at =
    then (read_head (bytes "inv=1\n") s at) λ _ x₁.
    then (read_weights (bytes "outer=") (eos.places m) (modest weight_limit) s x₁) λ o x₂.
    then (many_at (read_inner m s) 0 (length m.nets) x₂) λ i x₃. read_end s (record { outward = o; inward = i }) x₃

-- a weight file, whole
abbrev pub read_weight_file : eos.Model → Text → Outcome Weights
read_weight_file m s = read_weights_at m s 0

-- what such lines may say: as many weights as the model has places, each at most 1,000 either side of 0
unfoldable pub right_inner : eos.Model → ℕ → List ℤ → Bool
right_inner m n ws = eqb (length ws) (eos.net m n).size && every (modest weight_limit) ws

unfoldable pub right_weights : eos.Model → Weights → Bool
right_weights m w =
    (eqb (length w.outward) (eos.places m) && every (modest weight_limit) w.outward)
    && (eqb (length w.inward) (length m.nets) && every_at (right_inner m) 0 w.inward)
