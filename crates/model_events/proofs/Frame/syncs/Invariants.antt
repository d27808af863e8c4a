-- `syncs` holds the counts that are read: what is read from the first on is what is read from here on, behind the rows laid.
use lib.ListN.{set, replicate}
use Rattle.text.specs.Answers.{padded}
use Rattle.model.specs.Held.{no_row}
use Rattle.model.specs.Test.{frame_in}
use Rattle.model_text.specs.Reading.{read_sync}
use Rattle.text_reader.proofs.LoopLaws.{Going}
use Rattle.model_events.proofs.Frame.syncs.Given as goal

abbrev pub invariant-loop-n : goal.invariant-loop-n
invariant-loop-n l =
    Going padded (λ i row t. set t i row) (λ s n at. read_sync (frame_in l.self.model.now) l.own s n at) l.self.model.now.nets l.fn.r (replicate 8 no_row) l.n l.table l.r
