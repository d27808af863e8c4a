-- What the lines of a step say, as it is held: their step.
use Prim.Native.Nat.{ℕ}
use mathlib.Core.Path.{◌≡◌, ap}
use mathlib.Core.List.{map}
use Rattle.std.specs.declared.result.Result.TheVariants.{Ok}
use Rattle.text.specs.Lines.{Outcome, got}
use Rattle.text.specs.Answers.{kept}
use Rattle.text_reader.specs.Place.{Reads}
use Rattle.text_reader.specs.declared.Reader.{Reader}
use Rattle.text_reader.proofs.ReadsLaws.{read_of}
use Rattle.eos.specs.Firing.{Written}
use Rattle.marking.specs.Held.{hold_line}
use Rattle.step.specs.Answers.{StepRows, hold_step, step_lent}
use Rattle.step.specs.declared.StepLines.{StepLines}

-- a step that was read: its event, and its lines as they are held
pub record ReadLines (lines : StepLines) (o : Outcome Written) (next : ℕ) : Type 0 where
  pub step : Written
  pub is : o ≡ got step next
  pub event-is : lines.event ≡ step.event
  pub taken_are : lines.taken.now ≡ map hold_line step.taken
  pub given_are : lines.given.now ≡ map hold_line step.given

pub lines-got : (lines : StepLines) (o : Outcome Written) (old new : Reader) → Reads (kept hold_step o) old new (step_lent (Ok lines)) → ReadLines lines o new.at
lines-got lines o old new k =
    let q = read_of hold_step o _ k in
    record {
      step = q.value;
      is = q.is;
      event-is = ap (λ (r : StepRows). r.event) q.held;
      taken_are = ap (λ (r : StepRows). r.taken) q.held;
      given_are = ap (λ (r : StepRows). r.given) q.held;
    }
