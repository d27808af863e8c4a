-- A held model passes its test exactly where it is what a right model is held as.
use mathlib.Core.Path.{◌≡◌}
use mathlib.Core.Bool.{true}
use mathlib.Core.Logic.{◌↔◌}
use Rattle.model.specs.Rules.{Plant, right_plant}
use Rattle.model.specs.Held.{SizedModel, hold_plant, plant_of}
use Rattle.model.specs.Test.{held_model}
use Rattle.model.specs.declared.Model.{Model}
use Rattle.model.proofs.HeldTests.{held-is}
use Rattle.model.proofs.HeldBack.{held_again}
use Rattle.model.proofs.HeldRight.{held_right}
use Rattle.model.proofs.HoldHeld.{hold_held}

-- the test is exact
pub held_exactly : (m : Model) → SizedModel m → (held_model m ≡ true) ↔ ((p : Plant) × (right_plant p ≡ true) × (m ≡ hold_plant p))
held_exactly m sized = (
  λ h. let held = held-is m h in (plant_of m, held_right m sized held, held_again m sized held),
  λ (p, h, e). rw e (hold_held p h),
)
