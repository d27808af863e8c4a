-- `item` meets its contract, by the number that was read.
use mathlib.Core.Path.{◌∙◌}
use Rattle.text.specs.Number.{number}
use Rattle.text.specs.Capped.{cap}
use Rattle.text.proofs.Basics.{handed_on}
use Rattle.text.proofs.NumberLaws.{number-within, exact_of, item_missing, item_ended}
use Rattle.text_scan.proofs.item.Goals as goal

pub returns-in_err-number : goal.returns-in_err-number
returns-in_err-number c = rw (handed_on _ c.from_residual.ensures.1) (item_missing cap number _ _ _ _ c.in_err-number.ensures)

pub ended-requires : goal.ended-requires
ended-requires c = let a = c.args in number-within a.s.now a.at _ _ (exact_of cap _ _ c.in_ok-number.ensures).is

pub returns : goal.returns
returns c = c.ended.ensures ∙ item_ended cap number _ _ _ _ c.in_ok-number.ensures
