-- `tokens_after` reads the number of net-tokens, and then their lines.
use mathlib.Core.List.{map}
use Rattle.text.proofs.Basics.{handed_on}
use Rattle.marking.specs.Held.{as_sizes, hold_line}
use Rattle.marking.specs.Reading.{read_net_token, read_block}
use Rattle.marking.proofs.BlockLaws.{lines_behind, block_refused, block_counted, counted_few}
use Rattle.step_read.proofs.tokens_after.Goals as goal

pub returns-in_err-number : goal.returns-in_err-number
unfolding read_block read_net_token
returns-in_err-number c =
    let a = c.args in
    rw (handed_on _ c.from_residual.ensures.1) (block_refused (map hold_line) (lines_behind (as_sizes a.z.now)) a.key.now 256 a.r.now _ c.in_err-number.ensures)

pub net_tokens-requires : goal.net_tokens-requires
net_tokens-requires c = let a = c.args in rw c.from-n.ensures (counted_few (map hold_line) (lines_behind (as_sizes a.z.now)) a.key.now 256 a.r.now _ c.in_ok-number.ensures)

pub returns : goal.returns
unfolding read_block read_net_token
returns c =
    let a = c.args in
    block_counted (map hold_line) (lines_behind (as_sizes a.z.now)) a.key.now 256 a.r.now _ c.in_ok-number.ensures _ (rw c.from-n.ensures at c.net_tokens.ensures)
