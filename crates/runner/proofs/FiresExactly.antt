-- The step call says fired exactly where the text brings a step that fires on the marking and leaves room, and then holds the marking
-- after it.
use Prim.Native.Nat.{ℕ, ◌≤◌}
use mathlib.Core.Path.{◌≡◌, refl, ap, sym, ◌∙◌}
use mathlib.Core.Bool.{true}
use mathlib.Core.Option.{Option, none, some}
use native.Mathlib.Omega.{arith}
use lib.Dec.{T}
use lib.ListN.{length}
use Rattle.text.specs.Bytes.{Text}
use Rattle.text.specs.Lines.{Outcome, got, bad}
use Rattle.eos.specs.Multiset as M
use Rattle.eos.specs.Model as eos
use Rattle.eos.specs.Firing.{Enabled, Written, step_of, after}
use Rattle.eos.specs.Causes.{Cause, refusal}
use Rattle.eos.proofs.FiringLaws.{fires_yes, fires_all}
use Rattle.eos.proofs.CauseLaws.{no_cause, no_cause_fires}
use Rattle.model.specs.Limits.{longest, room_limit}
use Rattle.model.specs.Held.{model_of}
use Rattle.model.specs.declared.Model.{Model}
use Rattle.marking.specs.Held.{hold_marking, tokens_of, has_room}
use Rattle.marking.specs.declared.Marking.{Marking}
use Rattle.reader.specs.Reading.{bounds}
use Rattle.marking.specs.Sizes.{sizes_for}
use Rattle.reader.specs.Answers.{held_both}
use Rattle.step.specs.Reading.{read_step}
use Rattle.runner.specs.declared.StepRefusal.{StepRefusal}
use Rattle.std.specs.Prelude.{Result, Ok, Err}
use Rattle.runner.specs.Answers.{Stepped, fires, step_judged, read_then, tried, stepped, held_step, stepping}
use Rattle.runner.proofs.StepAnswers.{reading, tried_reads, held_reads, step-held}

-- a step that the text brings and that fires (000, Definition 3), with room for the net-tokens after it. By `step_exactly` of crate
-- `step`, `read` says that the text begins with the printed lines of the step, right in key, syntax, list length and range, and that
-- they end at `next`
pub record Brings (m : Model) (k : Marking) (s : Text) (next : ℕ) : Type 0 where
  pub step : Written
  pub read : read_step bounds (sizes_for m) m.listed s 0 ≡ got step next
  pub enabled : Enabled (model_of m) (eos.event (model_of m) step.event) (step_of step).taken (step_of step).given
  pub within : M.Within eos.like (step_of step).taken (tokens_of (sizes_for m) k)
  pub room : T (has_room room_limit (after (step_of step) (tokens_of (sizes_for m) k)))

-- fired only where such a step is brought, always where it is, and the marking is the one after it, in canonical order
pub record Exactly (m : Model) (k : Marking) (s : Text) (next : ℕ) : Type 0 where
  pub only : (stepping m k s).answer ≡ Ok next → Brings m k s next
  pub always : Brings m k s next → (stepping m k s).answer ≡ Ok next
  pub after_it : (b : Brings m k s next) → (stepping m k s).marking ≡ hold_marking (eos.canonical (after (step_of b.step) (tokens_of (sizes_for m) k)))

pub unfired≢fired : {G : Type 0} {e : StepRefusal} {n : ℕ} → ◌≡◌ {A = Result ℕ StepRefusal} (Err e) (Ok n) → G
unfired≢fired h = let z : ◌≡◌ {A = ℕ} 0 1 = cc in absurd (omega arith)

module _ (m : Model) (k : Marking) (s : Text) (next : ℕ) where
  abbrev μ : eos.Marking
  μ = tokens_of (sizes_for m) k

  judged-brings : (t : Written) (n : ℕ) → reading m k s ≡ got t n → (o : Option Cause) → refusal (has_room room_limit) (model_of m) t μ ≡ o
      → (stepped k (step_judged μ t n o)).answer ≡ Ok next → Brings m k s next
  unfolding step_judged stepped
  judged-brings t n e none f h =
      let z : n ≡ next = cc in
      let c = no_cause_fires (has_room room_limit) (model_of m) t μ f in
      let y = fires_yes (model_of m) (step_of t) μ c.0 in
      record { step = t; read = e ∙ ap (got t) z; enabled = y.0; within = y.1; room = c.1 }
  judged-brings t n e (some c) f h = unfired≢fired h

  read_brings : (o : Outcome Written) → reading m k s ≡ o → (stepped k (read_then room_limit (model_of m) μ s o)).answer ≡ Ok next → Brings m k s next
  unfolding read_then stepped
  read_brings (got t n) e h = judged-brings t n e (refusal (has_room room_limit) (model_of m) t μ) refl h
  read_brings (bad d) e h = unfired≢fired h

  pub held-brings : (held_step room_limit m k s).answer ≡ Ok next → Brings m k s next
  held-brings h = read_brings (reading m k s) refl (ap (λ (r : Stepped). r.answer) (sym (held_reads m k s room_limit)) ∙ h)

  -- a step that is brought fires
  pub brings-tried : (b : Brings m k s next) → tried room_limit (model_of m) (sizes_for m) μ s ≡ fires next (eos.canonical (after (step_of b.step) μ))
  unfolding read_then step_judged
  brings-tried b =
      let c = no_cause (has_room room_limit) (model_of m) b.step μ (fires_all (model_of m) (step_of b.step) μ b.enabled b.within) b.room in
      tried_reads m k s room_limit ∙ ap (read_then room_limit (model_of m) μ s) b.read ∙ rw c

  pub brings-fires : (b : Brings m k s next) → held_step room_limit m k s ≡ record { answer = Ok next; marking = hold_marking (eos.canonical (after (step_of b.step) μ)) }
  unfolding held_step stepped
  brings-fires b = rw (brings-tried b)

  pub fires_exactly : held_both m k ≡ true → length s ≤ longest → Exactly m k s next
  fires_exactly held few =
      let e = step-held m k s few held in
      record {
        only = λ h. held-brings (ap (λ (r : Stepped). r.answer) e ∙ h);
        always = λ b. ap (λ (r : Stepped). r.answer) (sym e ∙ brings-fires b);
        after_it = λ b. ap (λ (r : Stepped). r.marking) (sym e ∙ brings-fires b);
      }
