-- `net_token` reads the line of net-tokens, which may be refused.
use Rattle.text.proofs.Basics.{handed_on}
use Rattle.marking.specs.Held.{as_sizes}
use Rattle.marking.specs.Reading.{limits}
use Rattle.marking.proofs.BlockLaws.{token_refused, token_read}
use Rattle.marking_read.proofs.net_token.Goals as goal

pub returns-in_err-line : goal.returns-in_err-line
returns-in_err-line c =
    rw (handed_on _ c.from_residual.ensures.1) (token_refused (limits 256 65535) (as_sizes c.args.z.now) c.args.r.now _ c.in_err-line.ensures)

pub returns : goal.returns
returns c = rw (c.from.ensures) (token_read (limits 256 65535) (as_sizes c.args.z.now) c.args.r.now _ c.in_ok-line.ensures)
