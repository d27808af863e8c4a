-- `inner` holds the weights that are read: what is read from the first net on is what is read from here on, behind the rows laid.
use lib.ListN.{length, set}
use mathlib.Core.Path.{◌≡◌}
use Rattle.model.specs.Held.{model_of}
use Rattle.text_reader.proofs.LoopLaws.{Going}
use Rattle.keeper.specs.Reading.{read_inner}
use Rattle.keeper.specs.Held.{no_rows, weight_row}
use Rattle.keeper.specs.Parts.{put_next}
use Rattle.keeper.proofs.weightfile.inner.Given as goal

abbrev pub invariant-loop-n : goal.invariant-loop-n
invariant-loop-n l =
    (length l.rows ≡ 9) × Going weight_row put_next (λ s n at. read_inner (model_of l.m) s n at) l.m.nets l.fn.r (set no_rows 0 l.fn.outer) l.n l.rows l.r
