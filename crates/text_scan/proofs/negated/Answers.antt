-- `negated` meets its contract: the number is capped, so it is 0 where its capped value is.
use mathlib.Core.Path.{ap, ◌∙◌}
use native.Mathlib.Omega.{arith}
use Rattle.std.proofs.Math.Facts.{to_z-of_z}
use Rattle.std.proofs.Common.{rules}
use mir.Syntax.{w32}
use mir.Val.{SFits}
use Rattle.text.specs.Capped.{cap, cap_signed}
use Rattle.text.proofs.Basics.{handed_on}
use Rattle.text.proofs.NumberLaws.{answered_as, missing_of, answer_missing, exact_of, answer_is, negated-missing, negated_zero, negated_exact}
use Rattle.text_scan.proofs.negated.Goals as goal

pub returns-in_err-value : goal.returns-in_err-value
returns-in_err-value c = rw (handed_on _ c.from_residual.ensures.1) (answer_missing cap_signed _ _ (negated-missing _ _ _ (missing_of cap _ _ c.in_err-value.ensures)))

pub returns-then-value-eq0 : goal.returns-then-value-eq0
returns-then-value-eq0 c = answer_missing cap_signed _ _ (negated_zero _ _ _ (exact_of cap _ _ c.in_ok-value.ensures) _ c.if-value-eq0.true)

pub below-requires : goal.below-requires
below-requires c = let e = exact_of cap _ _ c.in_ok-value.ensures in (omega (arith, c.if-value-eq0.false), omega (arith, e.told))

pub returns : goal.returns
returns c =
    let f : SFits w32 c.below.result = search rules in
    ap (answered_as c.in_ok-value.field-0.end) (to_z-of_z f ∙ c.below.ensures)
    ∙ answer_is cap_signed _ _ _ (negated_exact _ _ _ (exact_of cap _ _ c.in_ok-value.ensures) _ c.if-value-eq0.false)
