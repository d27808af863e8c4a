-- `lines` reads the number of lines of net-tokens, and then these.
use Rattle.text.specs.Bytes.{bytes}
use Rattle.text.proofs.Basics.{handed_on}
use Rattle.marking.specs.Held.{as_sizes}
use Rattle.marking.specs.Reading.{read_net_token, read_start}
use Rattle.marking.specs.Answers.{hold_block}
use Rattle.marking.proofs.BlockLaws.{start_behind, block_refused, block_counted}
use Rattle.marking_read.proofs.lines.Goals as goal

pub returns-in_err-number : goal.returns-in_err-number
unfolding read_start read_net_token
returns-in_err-number c =
    let a = c.args in
    rw (handed_on _ c.from_residual.ensures.1)
    (block_refused hold_block (start_behind a.room (as_sizes a.z.now)) (bytes "start=") a.most a.r.now _ c.in_err-number.ensures)

pub returns : goal.returns
unfolding read_start read_net_token
returns c =
    let a = c.args in
    block_counted hold_block (start_behind a.room (as_sizes a.z.now)) (bytes "start=") a.most a.r.now _ c.in_ok-number.ensures _ (rw c.from-n.ensures at c.net_tokens.ensures)
