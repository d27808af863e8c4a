-- How a model that is read with its start is held.
use Rattle.eos.specs.Counted.{spelt}
use Rattle.eos.specs.Model as eos
use Rattle.model.specs.Held.{hold_plant}
use Rattle.model.specs.declared.Model.{Model}
use Rattle.marking.specs.Held.{hold_marking}
use Rattle.marking.specs.declared.Marking.{Marking}
use Rattle.reader.specs.Reading.{Loaded}

-- the start in canonical order
abbrev pub hold_loaded : Loaded → Model × Marking
hold_loaded l = (hold_plant l.plant, hold_marking (eos.canonical (spelt l.start)))
