-- `sides` reads the two lines of a transition: one of them is refused, or it is held.
use lib.Dec.{lit≤}
use Rattle.text.proofs.Basics.{handed_on}
use Rattle.text.specs.Bytes.{bytes}
use Rattle.text_reader.proofs.ReadsLaws.{list_read}
use Rattle.model_text.proofs.TransitionLines.{pre_refused, post_refused, sides_read}
use Rattle.model_nets.proofs.sides.Goals as goal

pub returns-in_err-pre : goal.returns-in_err-pre
returns-in_err-pre c =
    let a = c.args in
    rw (handed_on _ c.from_residual.ensures.1) (pre_refused a.size a.r.now _ (list_read 255 255 (bytes "pre=") a.size _ _ (lit≤ tt) c.in_err-pre.ensures))

pub returns-in_err-post : goal.returns-in_err-post
returns-in_err-post c =
    let a = c.args in
    rw (handed_on _ c.from_residual-in_err-post.ensures.1)
    (post_refused a.size a.r.now _ (list_read 255 255 (bytes "pre=") a.size _ _ (lit≤ tt) c.in_ok-pre.ensures) _
    (list_read 255 255 (bytes "post=") a.size _ _ (lit≤ tt) c.in_err-post.ensures))

pub returns : goal.returns
returns c =
    let a = c.args in
    sides_read a.size a.r.now _ (list_read 255 255 (bytes "pre=") a.size _ _ (lit≤ tt) c.in_ok-pre.ensures) _
    (list_read 255 255 (bytes "post=") a.size _ _ (lit≤ tt) c.in_ok-post.ensures)
