-- The text of a model file (01, "Files"): a model with its start.
use Rattle.std.specs.Prelude.{◌++◌}
use Rattle.text.specs.Bytes.{Text, bytes}
use Rattle.model_text.specs.Printed.{plant_text}
use Rattle.marking.specs.Printed.{block_text}
use Rattle.reader.specs.Reading.{Loaded}

unfoldable pub model_text : Loaded → Text
model_text l = plant_text l.plant ++ block_text (bytes "start=") l.start
