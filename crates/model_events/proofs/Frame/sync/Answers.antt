-- `sync` reads the counts of a net: their line is refused, the net does not take part or should not, or they are held.
use mathlib.Core.Path.{sym, ◌∙◌}
use native.Mathlib.Omega.{arith}
use lib.Dec.{lit≤}
use Rattle.text.proofs.Basics.{handed_on}
use Rattle.text.specs.Bytes.{bytes}
use Rattle.text_reader.proofs.ReadsLaws.{list_read}
use Rattle.model.specs.Test.{frame_in}
use Rattle.model_text.proofs.EventLaws.{sync_refused, no_part, sync_read}
use Rattle.model_events.proofs.Frame.sync.Goals as goal

pub transitions-requires : goal.transitions-requires
transitions-requires c = omega (arith, c.requires, c.args.self.now.fitting.nets)

pub returns-in_err-counts : goal.returns-in_err-counts
returns-in_err-counts c =
    let a = c.args in
    let m = a.self.now.model.now in
    rw (handed_on _ c.from_residual.ensures.1)
    (sync_refused (frame_in m) a.own a.n (a.self.now.fitting.steps a.n) a.r.now _ (rw c.transitions.ensures at (list_read 255 255 (bytes "sync=") _ _ _ (lit≤ tt) c.in_err-counts.ensures)))

pub returns-then-not-takes_part : goal.returns-then-not-takes_part
returns-then-not-takes_part c =
    let a = c.args in
    let m = a.self.now.model.now in
    rw c.refuse.ensures.told
    (no_part (frame_in m) a.own a.n (a.self.now.fitting.steps a.n) a.r.now _ (rw c.transitions.ensures at (list_read 255 255 (bytes "sync=") _ _ _ (lit≤ tt) c.in_ok-counts.ensures))
    c.refuse.ensures.stands (sym c.takes_part.ensures ∙ c.if-not-takes_part.true))

pub returns : goal.returns
returns c =
    let a = c.args in
    let m = a.self.now.model.now in
    sync_read (frame_in m) a.own a.n (a.self.now.fitting.steps a.n) a.r.now _ (rw c.transitions.ensures at (list_read 255 255 (bytes "sync=") _ _ _ (lit≤ tt) c.in_ok-counts.ensures))
    (sym c.takes_part.ensures ∙ c.if-not-takes_part.false)
