-- `key_item` meets its contract: the item is read behind the key, or the key does not stand there.
use mathlib.Core.Path.{sym, ap, ◌∙◌}
use Rattle.text.specs.Number.{number, item}
use Rattle.text.specs.Capped.{cap, capped}
use Rattle.text.proofs.Basics.{handed_on}
use Rattle.text.proofs.NumberLaws.{answer_missing}
use Rattle.text.proofs.LineLaws.{behind-key, behind_other}
use Rattle.text_scan.proofs.key_item.Goals as goal

pub returns-in_err-from : goal.returns-in_err-from
returns-in_err-from c =
    let a = c.args in
    rw (handed_on _ c.from_residual.ensures.1) (answer_missing cap _ _ (behind_other a.key.now (item number a.stop) a.s.now a.at _ c.in_err-from.ensures))

pub returns : goal.returns
returns c =
    let a = c.args in
    c.item.ensures ∙ sym (ap capped (behind-key a.key.now (item number a.stop) a.s.now a.at _ c.in_ok-from.ensures))
