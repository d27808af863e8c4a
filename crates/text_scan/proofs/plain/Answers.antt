-- `plain` meets its contract.
use mathlib.Core.Path.{ap, ◌∙◌}
use native.Mathlib.Omega.{arith}
use Rattle.std.proofs.Math.Facts.{to_z-of_z}
use Rattle.std.proofs.Common.{rules}
use mir.Syntax.{w32}
use mir.Val.{SFits}
use Rattle.text.specs.Capped.{cap, cap_signed}
use Rattle.text.proofs.Basics.{handed_on}
use Rattle.text.proofs.NumberLaws.{answered_as, missing_of, answer_missing, exact_of, answer_is, plain_missing, plain_exact}
use Rattle.text_scan.proofs.plain.Goals as goal

pub returns-in_err-value : goal.returns-in_err-value
returns-in_err-value c = rw (handed_on _ c.from_residual.ensures.1) (answer_missing cap_signed _ _ (plain_missing _ _ (missing_of cap _ _ c.in_err-value.ensures)))

pub above-requires : goal.above-requires
above-requires c = omega (arith, (exact_of cap _ _ c.in_ok-value.ensures).told)

pub returns : goal.returns
returns c =
    let f : SFits w32 c.above.result = search rules in
    ap (answered_as c.in_ok-value.field-0.end) (to_z-of_z f ∙ c.above.ensures) ∙ answer_is cap_signed _ _ _ (plain_exact _ _ _ (exact_of cap _ _ c.in_ok-value.ensures))
