-- `joined` meets its contract: the last value has no comma behind it.
use mathlib.Core.Path.{ap, ◌∙◌}
use Rattle.text.specs.Capped.{capped_signed}
use Rattle.text.proofs.ListLaws.{joined_last, joined_comma}
use Rattle.text_scan.proofs.joined.Goals as goal

pub returns-then-left-eq0 : goal.returns-then-left-eq0
returns-then-left-eq0 c = c.signed_if.ensures ∙ ap capped_signed (joined_last _ _ _ _ c.if-left-eq0.true)

pub returns : goal.returns
returns c = c.value_item.ensures ∙ ap capped_signed (joined_comma _ _ _ _ c.if-left-eq0.false)
