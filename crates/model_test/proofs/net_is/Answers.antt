-- `net_is` is the test of one net: its counts first, so that its tables can be looked at.
use mathlib.Core.Path.{sym, ◌∙◌}
use Rattle.model.specs.Test.{held_net}
use Rattle.model.proofs.HeldTestLoops.{and_no, and_yes}
use Rattle.model_test.proofs.net_is.Goals as goal

pub returns-then-empty_behind : goal.returns-then-empty_behind
unfolding held_net
returns-then-empty_behind c =
    and_yes _ _ _ (sym c.sizes_held.ensures ∙ c.if-sizes_held.true)
    (and_yes _ _ _ (sym c.empty_behind.ensures ∙ c.if-empty_behind.true) c.empty_behind-then-empty_behind.ensures)

pub returns-else-empty_behind : goal.returns-else-empty_behind
unfolding held_net
returns-else-empty_behind c =
    and_yes _ _ _ (sym c.sizes_held.ensures ∙ c.if-sizes_held.true)
    (c.if-empty_behind.false ∙ and_no _ _ (sym c.empty_behind.ensures ∙ c.if-empty_behind.false))
