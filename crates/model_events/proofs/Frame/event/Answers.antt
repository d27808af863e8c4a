-- `event` reads the lines of an event: one of them is refused, or it is held.
use native.Mathlib.Omega.{arith}
use Rattle.text.proofs.Basics.{handed_on}
use Rattle.model.specs.Test.{frame_in}
use Rattle.model_text.proofs.EventLaws.{act_refused, act_in, counts_refused, event_read}
use Rattle.model_events.proofs.Frame.event.Goals as goal

pub returns-in_err-act : goal.returns-in_err-act
returns-in_err-act c =
    let a = c.args in
    rw (handed_on _ c.from_residual.ensures.1) (act_refused (frame_in a.self.now.model.now) a.r.now _ c.in_err-act.ensures)

pub own_net-requires : goal.own_net-requires
own_net-requires c = let a = c.args in act_in (frame_in a.self.now.model.now) a.r.now _ c.in_ok-act.ensures c.args.self.now.fitting.places c.args.self.now.fitting.moves c.args.self.now.fitting.nets

pub returns-in_err-sync : goal.returns-in_err-sync
returns-in_err-sync c =
    let a = c.args in
    rw (handed_on _ c.from_residual-in_err-sync.ensures.1) (counts_refused (frame_in a.self.now.model.now) a.r.now _ c.in_ok-act.ensures _ c.own_net.ensures _ c.in_err-sync.ensures)

pub new-requires : goal.new-requires
new-requires c =
    let a = c.args in
    omega (arith, act_in (frame_in a.self.now.model.now) a.r.now _ c.in_ok-act.ensures c.args.self.now.fitting.places c.args.self.now.fitting.moves c.args.self.now.fitting.nets)

pub returns : goal.returns
returns c =
    let a = c.args in
    rw c.new.ensures (event_read (frame_in a.self.now.model.now) a.r.now _ c.in_ok-act.ensures _ c.own_net.ensures _ c.in_ok-sync.ensures)
