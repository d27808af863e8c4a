-- The step call answers a fault of a line exactly where the text has it.
use Prim.Native.Nat.{ℕ, ◌≤◌}
use mathlib.Core.Path.{◌≡◌, refl}
use mathlib.Core.Bool.{true}
use mathlib.Core.Logic.{◌↔◌}
use mathlib.Core.Option.{Option, none, some}
use native.Mathlib.Omega.{arith}
use lib.Dec.{leb}
use lib.ListN.{length}
use borrow.Author.Tests.{leb-true, le-leb}
use Rattle.text.specs.Bytes.{Text}
use Rattle.text.specs.Lines.{Outcome, got, bad, spot_of}
use Rattle.text.specs.declared.Fault.{Fault}
use Rattle.text.specs.declared.Spot.{Spot}
use Rattle.text.proofs.Basics.{by_test}
use Rattle.eos.specs.Model as eos
use Rattle.eos.specs.Firing.{Written}
use Rattle.eos.specs.Causes.{Cause, refusal}
use Rattle.model.specs.Limits.{room_limit, longest}
use Rattle.model.specs.Held.{model_of}
use Rattle.model.specs.declared.Model.{Model}
use Rattle.marking.specs.Held.{tokens_of, has_room}
use Rattle.marking.specs.Sizes.{sizes_for}
use Rattle.marking.specs.declared.Marking.{Marking}
use Rattle.reader.specs.Reading.{bounds}
use Rattle.reader.specs.Answers.{held_both, held_in}
use Rattle.step.specs.Reading.{read_step}
use Rattle.step.proofs.StepRefused.{StepFaults, step_refuses}
use Rattle.runner.specs.Answers.{step_judged, read_then, tried, stepped, held_step, where_held, stepping_in, stepping}
use Rattle.reader.specs.declared.ReadRefusal.TheVariants.{TooLong, NotHeld, Faulty}
use Rattle.runner.specs.declared.StepRefusal.{StepRefusal}
use Rattle.runner.specs.declared.StepRefusal.TheVariants.{Unread}
use Rattle.std.specs.Prelude.{Result, Err}

faulty-is : {p q : Spot} → ◌≡◌ {A = Result ℕ StepRefusal} (Err (Unread (Faulty q))) (Err (Unread (Faulty p))) → p ≡ q
faulty-is e = cc

-- an answer that names no fault
long≢faulty : {G : Type 0} {p : Spot} → ◌≡◌ {A = Result ℕ StepRefusal} (Err (Unread TooLong)) (Err (Unread (Faulty p))) → G
long≢faulty e = let z : ◌≡◌ {A = ℕ} 0 1 = cc in absurd (omega arith)

unheld≢faulty : {G : Type 0} {p : Spot} → ◌≡◌ {A = Result ℕ StepRefusal} (Err (Unread NotHeld)) (Err (Unread (Faulty p))) → G
unheld≢faulty e = let z : ◌≡◌ {A = ℕ} 0 1 = cc in absurd (omega arith)

-- a step that is judged has no faulty line
judged_names : (k : Marking) (μ : eos.Marking) (t : Written) (next : ℕ) (c : Option Cause) (p : Spot) → (stepped k (step_judged μ t next c)).answer ≡ Err (Unread (Faulty p)) → ⊥
unfolding stepped step_judged
judged_names k μ t next none p h = let u : ◌≡◌ {A = ℕ} 0 1 = cc in omega arith
judged_names k μ t next (some c) p h = let u : ◌≡◌ {A = ℕ} 0 1 = cc in omega arith

read_names : (k : Marking) (m : eos.Model) (μ : eos.Marking) (s : Text) (o : Outcome Written) (p : Spot) → (stepped k (read_then room_limit m μ s o)).answer ≡ Err (Unread (Faulty p))
    → (e : Fault) × (o ≡ bad e) × (p ≡ spot_of s e)
unfolding read_then stepped
read_names k m μ s (got t next) p h = absurd (judged_names k μ t next (refusal (has_room room_limit) m t μ) p h)
read_names k m μ s (bad e) p h = (e, refl, faulty-is h)

-- by its cause and its line, exactly where model and marking are held and the text is not too long and has that fault
pub step_answers : (m : Model) (k : Marking) (s : Text) (p : Spot)
    → ((stepping m k s).answer ≡ Err (Unread (Faulty p)))
    ↔ ((length s ≤ longest) × (held_both m k ≡ true) × ((e : Fault) × StepFaults bounds (sizes_for m) (length (model_of m).events) s 0 e × (p ≡ spot_of s e)))
unfolding stepping_in where_held held_step tried read_then stepped
step_answers m k s p =
    let faults = step_refuses bounds (sizes_for m) (length (model_of m).events) s in (
      λ h.
          by_test (leb (length s) longest)
          (λ l.
          by_test (held_in room_limit m k)
          (λ t.
          let n = read_names k (model_of m) (tokens_of (sizes_for m) k) s (read_step bounds (sizes_for m) (length (model_of m).events) s 0) p (rw (l, stepping_in, t, where_held) at h) in
          (leb-true (length s) longest l, t, (n.0, faults.back 0 n.0 n.1, n.2)))
          (λ t. unheld≢faulty (rw (l, stepping_in, t, where_held) at h)))
          (λ l. long≢faulty (rw (l, stepping_in) at h)),
      λ h.
          let e = h.2 in
          rw (le-leb (length s) longest h.0, stepping_in, h.1, where_held, faults.forth 0 e.0 e.1, e.2),
    )
