-- `plant` reads the lines of a model: one of them is refused, or all are held.
use Rattle.text.proofs.Basics.{handed_on}
use Rattle.model_text.proofs.PlantLaws.{outline_refused, outline_fits, system_refused, fits, listed_refused, listed_few, events_read}
use Rattle.model_read.proofs.plant.Goals as goal

pub returns-in_err-outline : goal.returns-in_err-outline
returns-in_err-outline c =
    rw (handed_on _ c.from_residual.ensures.1) (outline_refused c.args.r.now _ c.in_err-outline.ensures)

pub system-requires : goal.system-requires
system-requires c = outline_fits c.args.r.now _ c.in_ok-outline.ensures

pub returns-in_err-system : goal.returns-in_err-system
returns-in_err-system c =
    rw (handed_on _ c.from_residual-in_err-system.ensures.1) (system_refused c.args.r.now _ c.in_ok-outline.ensures c.args.m.now _ c.in_err-system.ensures)

pub returns-in_err-number : goal.returns-in_err-number
returns-in_err-number c =
    rw (handed_on _ c.from_residual-in_err-number.ensures.1) (listed_refused c.args.r.now _ c.in_ok-outline.ensures c.args.m.now _ c.in_ok-system.ensures _ c.in_err-number.ensures)

pub events-requires-clause-fitting : goal.events-requires-clause-fitting
events-requires-clause-fitting c = fits c.args.r.now _ c.in_ok-outline.ensures c.args.m.now _ c.in_ok-system.ensures

pub events-requires-clause-few : goal.events-requires-clause-few
events-requires-clause-few c =
    rw c.from-listed.ensures (listed_few c.args.r.now _ c.in_ok-outline.ensures c.args.m.now _ c.in_ok-system.ensures _ c.in_ok-number.ensures)

pub returns-in_err-events : goal.returns-in_err-events
returns-in_err-events c =
    rw (handed_on _ c.from_residual-in_err-events.ensures.1)
    (events_read c.args.r.now _ c.in_ok-outline.ensures c.args.m.now _ c.in_ok-system.ensures _ c.in_ok-number.ensures _ (rw c.from-listed.ensures at c.in_err-events.ensures.read))

pub returns : goal.returns
returns c =
    events_read c.args.r.now _ c.in_ok-outline.ensures c.args.m.now _ c.in_ok-system.ensures _ c.in_ok-number.ensures _ (rw c.from-listed.ensures at c.in_ok-events.ensures.read)
