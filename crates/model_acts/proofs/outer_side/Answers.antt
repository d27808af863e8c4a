-- `outer_side` is the act's side.
use native.Mathlib.Omega.{arith}
use Rattle.model.proofs.HeldActs.{set-unit}
use Rattle.model_acts.proofs.outer_side.Goals as goal

pub returns-in-Idle : goal.returns-in-Idle
returns-in-Idle c =
    let few = rw c.in-Idle.is at c.requires in
    rw c.in-Idle.is (set-unit 32 c.in-Idle.place (omega (arith, few)))
