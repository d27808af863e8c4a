-- `tables` holds the transitions that are read: what is read from the first on is what is read from here on, behind the rows laid.
use Rattle.model_text.specs.Reading.{read_sides}
use Rattle.model_text.specs.Answers.{hold_sides}
use Rattle.model_text.proofs.TransitionLines.{lay_sides, no_tables}
use Rattle.text_reader.proofs.LoopLaws.{Going}
use Rattle.model_nets.proofs.tables.Given as goal

abbrev pub invariant-loop-i : goal.invariant-loop-i
invariant-loop-i l = Going hold_sides lay_sides (λ s _ at. read_sides l.size s at) l.n l.fn.r no_tables l.i l.table l.r
