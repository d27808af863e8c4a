-- `several` meets its contract, by the number that is read.
use mathlib.Core.Path.{◌∙◌}
use Rattle.text.specs.Number.{number}
use Rattle.text.specs.Capped.{cap}
use Rattle.text.specs.TokenLine.{more_than_one}
use Rattle.text.proofs.Basics.{handed_on}
use Rattle.text.proofs.NumberLaws.{number-within, exact_of, item_missing, item_ended}
use Rattle.text_tokens.proofs.EndLaws.{more_missing, more_zero, more_one, more_is}
use Rattle.text_tokens.proofs.several.Goals as goal

pub returns-in_err-value : goal.returns-in_err-value
returns-in_err-value c =
    rw (handed_on _ c.from_residual.ensures.1) (item_missing cap more_than_one _ _ _ _ (more_missing _ _ _ c.in_err-value.ensures))

pub returns-then-value-eq0 : goal.returns-then-value-eq0
returns-then-value-eq0 c =
    item_missing cap more_than_one _ _ _ _ (more_zero _ _ _ _ (exact_of cap (number c.args.s.now c.args.at) _ c.in_ok-value.ensures) c.if-value-eq0.true)

pub returns-then-value-eq1 : goal.returns-then-value-eq1
returns-then-value-eq1 c =
    item_missing cap more_than_one _ _ _ _ (more_one _ _ _ _ (exact_of cap (number c.args.s.now c.args.at) _ c.in_ok-value.ensures) c.if-value-eq1.true)

pub ended-requires : goal.ended-requires
ended-requires c = let a = c.args in number-within a.s.now a.at _ _ (exact_of cap (number a.s.now a.at) _ c.in_ok-value.ensures).is

pub returns : goal.returns
returns c =
    let a = c.args in
    let p = c.in_ok-value.field-0 in
    c.ended.ensures
    ∙ item_ended cap more_than_one _ _ _ p
    (more_is a.s.now a.at p.value p.end (exact_of cap (number a.s.now a.at) p c.in_ok-value.ensures) c.if-value-eq0.false c.if-value-eq1.false)
