-- `read_taking` reads the event and the taken, each of which may be refused.
use Rattle.text.proofs.Basics.{handed_on}
use Rattle.marking.specs.Held.{as_sizes}
use Rattle.marking.specs.Reading.{limits}
use Rattle.step.proofs.StepReading.{fire_refused, event_from-one, take_refused, taking_read}
use Rattle.step_read.proofs.read_taking.Goals as goal

pub returns-in_err-number : goal.returns-in_err-number
returns-in_err-number c =
    let a = c.args in
    rw (handed_on _ c.from_residual.ensures.1) (fire_refused (limits 256 65535) (as_sizes c.args.z.now) a.events a.r.now _ c.in_err-number.ensures)

pub overflow_sub-event : goal.overflow_sub-event
overflow_sub-event c = let a = c.args in rw c.from-event.ensures (event_from-one (limits 256 65535) (as_sizes c.args.z.now) a.events a.r.now _ c.in_ok-number.ensures)

pub returns-in_err-taken : goal.returns-in_err-taken
returns-in_err-taken c =
    let a = c.args in
    rw (handed_on _ c.from_residual-in_err-taken.ensures.1) (take_refused (limits 256 65535) (as_sizes c.args.z.now) a.events a.r.now _ c.in_ok-number.ensures _ c.in_err-taken.ensures)

pub returns : goal.returns
returns c =
    let a = c.args in
    rw c.from-event.ensures (taking_read (limits 256 65535) (as_sizes c.args.z.now) a.events a.r.now _ c.in_ok-number.ensures _ c.in_ok-taken.ensures)
