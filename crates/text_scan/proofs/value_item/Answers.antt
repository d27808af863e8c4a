-- `value_item` meets its contract, by the value that was read.
use mathlib.Core.Path.{◌∙◌}
use Rattle.text.specs.Number.{signed_if}
use Rattle.text.specs.Capped.{cap_signed}
use Rattle.text.proofs.Basics.{handed_on}
use Rattle.text.proofs.NumberLaws.{signed_within, exact_of, item_missing, item_ended}
use Rattle.text_scan.proofs.value_item.Goals as goal

pub returns-in_err-signed_if : goal.returns-in_err-signed_if
returns-in_err-signed_if c =
    rw (handed_on _ c.from_residual.ensures.1) (item_missing cap_signed (signed_if c.args.minus) _ _ _ _ c.in_err-signed_if.ensures)

pub ended-requires : goal.ended-requires
ended-requires c = let a = c.args in signed_within a.minus a.s.now a.at _ _ (exact_of cap_signed _ _ c.in_ok-signed_if.ensures).is

pub returns : goal.returns
returns c = c.ended.ensures ∙ item_ended cap_signed (signed_if c.args.minus) _ _ _ _ c.in_ok-signed_if.ensures
