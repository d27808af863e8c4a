-- The arrays of a model have their room, from what owning the model tells.
use mathlib.Core.Path.{◌≡◌}
use mathlib.Core.List.{List}
use mir.Val.{Val}
use denote.Laws.{Is}
use lib.ListN.{length}
use Rattle.model.specs.declared.Model.{Model}
use Rattle.model.specs.contracts.Model.{the_row}

pub objects-room : (m : Model) (vs : List Val) → Is the_row m vs → length m.objects ≡ 8
objects-room m vs p = p.1.1.1.1.1.1.1.1.1.1.0.1.0.1

pub events-room : (m : Model) (vs : List Val) → Is the_row m vs → length m.events ≡ 64
events-room m vs p = p.1.1.1.1.1.1.1.1.1.1.1.0.1.0.1

pub types-room : (m : Model) (vs : List Val) → Is the_row m vs → length m.types ≡ 32
types-room m vs p = p.1.1.1.1.1.1.1.0.1.0.1
