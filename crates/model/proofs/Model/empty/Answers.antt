-- The empty model is `no_model`: its object nets and events are the empty ones.
use Rattle.model.proofs.Model.empty.Goals as goal

pub returns : goal.returns
returns c = rw (c.empty-net.ensures, c.empty-event.ensures)
