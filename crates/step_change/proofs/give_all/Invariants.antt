-- `give_all` gives the lines in one by one. The loop's invariant: so many are given.
use Rattle.marking.specs.Tokens.{tokens_in}
use Rattle.step_change.proofs.LineLaws.{Giving}
use Rattle.step_change.proofs.give_all.Given as goal

abbrev pub invariant-loop-i : goal.invariant-loop-i
invariant-loop-i l = Giving l.room (tokens_in l.initial.k) l.lines l.i l.k
