-- `lines` holds the object nets that are read: what is read from the first on is what is read from here on, behind the nets laid.
use lib.ListN.{replicate, set}
use Rattle.model.specs.Held.{hold_net, no_net}
use Rattle.model_text.specs.Reading.{read_net}
use Rattle.text_reader.proofs.LoopLaws.{Going}
use Rattle.model_nets.proofs.lines.Given as goal

abbrev pub invariant-loop-i : goal.invariant-loop-i
invariant-loop-i l = Going hold_net (λ i n t. set t i n) (λ s _ at. read_net s at) l.n l.fn.r (replicate 8 no_net) l.i l.objects l.r
