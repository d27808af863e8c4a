-- `loaded_lines` reads a model and the start behind it.
use mathlib.Core.Path.{◌≡◌, refl, ap, ◌∙◌}
use Rattle.std.specs.Prelude.{Result}
use Rattle.std.specs.declared.result.Result.TheVariants.{Ok, Err}
use Rattle.text.proofs.Basics.{handed_on}
use Rattle.text.specs.declared.Fault.{Fault}
use Rattle.text_reader.specs.Place.{lent}
use Rattle.model.specs.declared.Model.{Model}
use Rattle.marking.specs.declared.Marking.{Marking}
use Rattle.reader.proofs.LineLaws.{plant_held, beside, lines-joined}
use Rattle.reader.proofs.lines.loaded_lines.Goals as goal
use Rattle.reader.proofs.ReadingLaws.{sizes_roomy}

-- a model beside its start or the fault in it
beside_lent : (m : Model) (k : Marking) (r : Result (Unit {0}) Fault) → lent (m, k) r ≡ beside m (lent k r)
beside_lent m k (Ok t) = refl
beside_lent m k (Err e) = refl

pub returns-in_err-read_plant : goal.returns-in_err-read_plant
returns-in_err-read_plant c =
    rw (handed_on _ c.from_residual.ensures.1) (lines-joined _ _ _ c.in_err-read_plant.ensures.read)

pub place_sizes-requires : goal.place_sizes-requires
place_sizes-requires c = plant_held _ _ _ c.in_ok-read_plant.ensures.read

pub start_lines-requires : goal.start_lines-requires
start_lines-requires c = sizes_roomy _ (plant_held _ _ _ c.in_ok-read_plant.ensures.read) _ c.place_sizes.ensures

pub returns : goal.returns
returns c =
    beside_lent _ _ c.start_lines.result
    ∙ ap (beside _) (rw c.place_sizes.ensures at c.start_lines.ensures)
    ∙ lines-joined _ _ _ c.in_ok-read_plant.ensures.read
