-- `short` meets its contract: the length is past the limit, or it is not.
use Rattle.reader.proofs.ReadingLaws.{short_past, short_within}
use Rattle.reader.proofs.short.Goals as goal

pub returns-then-most-s : goal.returns-then-most-s
returns-then-most-s c = short_past _ _ c.if-most-s.true

pub returns : goal.returns
returns c = short_within _ _ c.if-most-s.false
