-- `line_at` counts the bytes LF before the position.
use Rattle.std.proofs.Common.{rules}
use Rattle.text.proofs.ByteLaws.{line_counted}
use Rattle.text_scan.proofs.line_at.Goals as goal

pub returns : goal.returns
returns c = line_counted c.args.s.now c.args.at _ (rw (← c.min.ensures) (search rules))
