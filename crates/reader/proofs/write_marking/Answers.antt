-- `write_marking` meets its contract: not held, or what the writer of a marking answers.
use mathlib.Core.Path.{◌≡◌, refl, sym, ◌∙◌}
use Rattle.text.proofs.Basics.{handed_on}
use mathlib.Core.Bool.{true}
use native.Mathlib.Omega.{arith}
use Rattle.marking.specs.Printed.{marking_text}
use Rattle.reader.specs.Answers.{held_both}
use Rattle.reader.proofs.ReadingLaws.{both_model}
use Rattle.reader.proofs.WriteAnswers.{write_asks, write_unheld, write_laid}
use Rattle.reader.proofs.write_marking.Goals as goal
use Rattle.reader.proofs.write_marking.Goals.{Else-not-test_marking}

-- the two passed their tests
passed : (c : Else-not-test_marking) → let a = c.args in held_both a.m.now a.k.now ≡ true
passed c = sym c.test_marking.ensures ∙ c.if-not-test_marking.false

pub returns-then-not-test_marking : goal.returns-then-not-test_marking
returns-then-not-test_marking c = write_unheld _ _ _ (sym c.test_marking.ensures ∙ c.if-not-test_marking.true)

pub place_sizes-requires : goal.place_sizes-requires
place_sizes-requires c = both_model _ _ (passed c)

pub write-requires : goal.write-requires
write-requires c =
    let a = write_asks _ _ (passed (goal.at.write-requires c).Else-not-test_marking) _ c.place_sizes.ensures in
    (a.0, a.1, omega arith, omega arith)

pub returns-in_err-write : goal.returns-in_err-write
unfolding marking_text
returns-in_err-write c =
    rw (handed_on _ c.from_residual.ensures.1) (write_laid _ _ _ (passed (goal.at.returns-in_err-write c).Else-not-test_marking) _ c.place_sizes.ensures _ _ _ refl c.in_err-write.ensures)

pub returns : goal.returns
unfolding marking_text
returns c = write_laid _ _ _ (passed (goal.at.returns c).Else-not-test_marking) _ c.place_sizes.ensures _ _ _ refl c.in_ok-write.ensures
