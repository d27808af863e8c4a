-- `Gains::of` meets its contract. The loop's invariant: the row of the moves and those of the first n nets are laid.
use Rattle.weigh.specs.Sums.{numbers}
use Rattle.weigh.proofs.GainLaws.{Laid}
use Rattle.weigh_events.proofs.Gains.of.Given as goal

abbrev pub invariant-loop-n : goal.invariant-loop-n
invariant-loop-n g l = Laid l.m (numbers g.W.Factor.number l.weights) l.n l.rows
