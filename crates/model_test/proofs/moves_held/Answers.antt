-- `moves_held` is the test of the moves, by its two parts.
use mathlib.Core.Path.{sym, ◌∙◌}
use Rattle.model.specs.Test.{held_moves}
use Rattle.model.proofs.HeldTestLoops.{and_no, and_yes}
use Rattle.model_test.proofs.moves_held.Goals as goal

pub returns-then-empty_behind : goal.returns-then-empty_behind
unfolding held_moves
returns-then-empty_behind c = and_yes _ _ _ (sym c.empty_behind.ensures ∙ c.if-empty_behind.true) c.empty_behind-then-empty_behind.ensures

pub returns-else-empty_behind : goal.returns-else-empty_behind
unfolding held_moves
returns-else-empty_behind c = c.if-empty_behind.false ∙ and_no _ _ (sym c.empty_behind.ensures ∙ c.if-empty_behind.false)
