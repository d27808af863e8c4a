-- `stop_of` meets its contract.
use Rattle.text.proofs.ListLaws.{stop_last, stop_comma}
use Rattle.text_scan.proofs.stop_of.Goals as goal

pub returns-then-left-eq0 : goal.returns-then-left-eq0
returns-then-left-eq0 c = stop_last _ _ c.if-left-eq0.true

pub returns-else-left-eq0 : goal.returns-else-left-eq0
returns-else-left-eq0 c = stop_comma _ _ c.if-left-eq0.false
