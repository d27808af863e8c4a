-- How weights are held: nine rows of 32, the outer weights and then those of each net, unused room 0.
use Rattle.std.specs.Prelude.{List, ◌∷◌, ℤ, pos, replicate}
use Rattle.std.proofs.lemmas.List.Edits.{sets}
use Rattle.text.specs.Repeat.{fill}
use Rattle.eos.specs.Weights.{Weights}
use Rattle.model.specs.Held.{put_at}
use Rattle.keeper.specs.declared.HeldWeights.{HeldWeights}

-- the outer weights, and those of each net
abbrev pub weight_lists : Weights → List (List ℤ)
weight_lists w = w.outward ∷ w.inward

-- no weight, in a row and in all of them
abbrev pub no_row : List ℤ
no_row = replicate 32 (pos 0)

abbrev pub no_rows : List (List ℤ)
no_rows = replicate 9 no_row

-- weights in a row
unfoldable pub weight_row : List ℤ → List ℤ
weight_row ws = sets no_row 0 ws

unfoldable pub hold_weights : Weights → HeldWeights
hold_weights w = record { rows = fill (put_at weight_row) 0 (weight_lists w) no_rows }
