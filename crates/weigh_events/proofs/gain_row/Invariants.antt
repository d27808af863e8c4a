-- `gain_row` lists what each transition gains. The loop's invariant: the gains of the first t are in the row.
use mathlib.Core.List.{map}
use Rattle.weigh.proofs.GainLaws.{Gained}
use Rattle.weigh_events.proofs.gain_row.Given as goal

abbrev pub invariant-loop-t : goal.invariant-loop-t
invariant-loop-t g l = Gained (map g.W.Factor.number l.weights) l.pre l.post l.t l.row
