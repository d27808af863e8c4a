-- `take_all` takes the lines out one by one. The loop's invariant: so many are taken.
use Rattle.marking.specs.Tokens.{tokens_in}
use Rattle.step_change.proofs.LineLaws.{Taking}
use Rattle.step_change.proofs.take_all.Given as goal

abbrev pub invariant-loop-i : goal.invariant-loop-i
invariant-loop-i l = Taking (tokens_in l.initial.k) l.lines l.i l.k
