use mathlib.Core.Path.{sym, ◌≡◌, ◌∙◌}
use native.Mathlib.Omega.{arith}
use lib.ListN.{length}
use Rattle.text.proofs.NumberLaws.{capped_stop, capped_end, capped_more}
use Rattle.text.proofs.NumberSteps.{digit_bounds}
use Rattle.text_scan.proofs.digits.Goals as goal

pub returns-then-not-digit : goal.returns-then-not-digit
returns-then-not-digit c = sym (c.loop-end.invariant.1 ∙ capped_stop _ _ _ c.loop-end.invariant.0 c.loop-end-test.true (sym c.digit.ensures ∙ c.if-not-digit.true))

pub push-value-requires : goal.push-value-requires
push-value-requires c = (c.loop-end.invariant.0, digit_bounds _ (sym c.digit.ensures ∙ c.if-not-digit.false))

pub loop-end-preserved : goal.loop-end-preserved
loop-end-preserved c = (omega arith, c.loop-end.invariant.1 ∙ capped_more _ _ _ _ c.loop-end-test.true (sym c.digit.ensures ∙ c.if-not-digit.false) c.push-value.ensures)

pub returns : goal.returns
returns c =
    let last : c.loop-end.end ≡ length c.args.s.now = omega (arith, c.loop-end.auto.end-end c.requires.1, c.loop-end-test.false) in
    rw (← last) (sym (c.loop-end.invariant.1 ∙ capped_end _ _ _ c.loop-end.invariant.0 c.loop-end-test.false))
