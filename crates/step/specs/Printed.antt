-- The text of a step. A text numbers events from 1.
use Rattle.std.specs.Prelude.{suc, ◌++◌}
use Rattle.text.specs.Bytes.{Text, bytes}
use Rattle.text.specs.Printed.{number_text}
use Rattle.eos.specs.Firing.{Written}
use Rattle.marking.specs.Printed.{block_text}

-- `fire`, then `take` and `give`, each with its token lines
unfoldable pub step_text : Written → Text
step_text s = number_text (bytes "fire=") (suc s.event) ++ (block_text (bytes "take=") s.taken ++ block_text (bytes "give=") s.given)
