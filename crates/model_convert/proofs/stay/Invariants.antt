-- `stay` gives the theory's. The loop's invariant is how it stands before event k.
use Rattle.model_convert.proofs.KeptLaws.{Stands}
use Rattle.model_convert.proofs.stay.Given as goal

abbrev pub invariant-loop-k : goal.invariant-loop-k
invariant-loop-k l = Stands l.m l.k l.n l.kept l.numbers
