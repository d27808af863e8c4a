-- `test_marking` meets its contract: the model first, then the marking.
use mathlib.Core.Path.{◌≡◌, sym, ◌∙◌}
use mathlib.Core.Bool.{true}
use Rattle.model.specs.Test.{held_model}
use Rattle.reader.proofs.ReadingLaws.{both_unheld, both_held}
use Rattle.reader.proofs.test_marking.Goals as goal
use Rattle.reader.proofs.test_marking.Goals.{Else-not-is_held}

-- the model passed its test
passed : (c : Else-not-is_held) → held_model c.args.m.now ≡ true
passed c = sym c.is_held.ensures ∙ c.if-not-is_held.false

pub returns-then-not-is_held : goal.returns-then-not-is_held
returns-then-not-is_held c = both_unheld _ _ (sym c.is_held.ensures ∙ c.if-not-is_held.true)

pub place_sizes-requires : goal.place_sizes-requires
place_sizes-requires c = passed c

pub returns : goal.returns
returns c = both_held _ _ (passed (goal.at.returns c).Else-not-is_held) _ c.place_sizes.ensures _ c.is_held-2.ensures
