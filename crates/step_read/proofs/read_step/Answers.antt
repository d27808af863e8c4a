-- `read_step` reads the taken, and where they ended the given.
use Rattle.text.proofs.Basics.{handed_on}
use Rattle.marking.specs.Held.{as_sizes}
use Rattle.marking.specs.Reading.{limits}
use Rattle.step_read.proofs.GivingLaws.{step-joined, step_untaken}
use Rattle.step_read.proofs.read_step.Goals as goal

pub returns-in_err-event : goal.returns-in_err-event
returns-in_err-event c =
    let a = c.args in
    rw (handed_on _ c.from_residual.ensures.1) (step_untaken (limits 256 65535) (as_sizes c.args.z.now) a.events a.r.now _ _ c.in_err-event.ensures)

pub returns-in_err-given : goal.returns-in_err-given
returns-in_err-given c =
    let a = c.args in
    rw (handed_on _ c.from_residual-in_err-given.ensures.1) (step-joined (limits 256 65535) (as_sizes c.args.z.now) a.events a.r.now _ _ _ _ c.in_ok-event.ensures c.in_err-given.ensures)

pub returns : goal.returns
returns c = let a = c.args in step-joined (limits 256 65535) (as_sizes c.args.z.now) a.events a.r.now _ _ _ _ c.in_ok-event.ensures c.in_ok-given.ensures
