-- The text of a weight file (01, "Files").
use Rattle.std.specs.Prelude.{◌++◌}
use Rattle.text.specs.Bytes.{Text, bytes}
use Rattle.text.specs.Printed.{texts, weights_text}
use Rattle.eos.specs.Weights.{Weights}

-- `inv=1`, `outer`, then per net `inner`
unfoldable pub weight_file_text : Weights → Text
weight_file_text w = bytes "inv=1\n" ++ (weights_text (bytes "outer=") w.outward ++ texts (weights_text (bytes "inner=")) w.inward)
