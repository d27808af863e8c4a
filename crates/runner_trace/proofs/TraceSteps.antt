-- A run's steps are the step calls on what is left of the text, each on the marking that the one before left.
use Prim.Native.Nat.{ℕ, zero, suc, ◌+◌, ◌≤◌, ◌<◌}
use mathlib.Core.Path.{◌≡◌, refl, ap, sym, subst, ◌∙◌}
use mathlib.Core.List.{[], ◌∷◌}
use mathlib.Core.Bool.{Bool, true, false}
use native.Mathlib.Omega.{arith}
use lib.Dec.{leb}
use lib.ListN.{length, drop, length-append, length-drop}
use Rattle.text.specs.Bytes.{Text, bytes}
use Rattle.text.proofs.Basics.{by_test}
use Rattle.text.specs.Lines.{Outcome, got, bad, read_head}
use Rattle.text.specs.Printed.{number_text}
use Rattle.eos.specs.Model as eos
use Rattle.model.specs.Limits.{longest, room_limit}
use Rattle.model.specs.Held.{model_of}
use Rattle.model.specs.declared.Model.{Model}
use Rattle.model.proofs.SlotLaws.{by_index}
use Rattle.marking.specs.Held.{hold_marking, tokens_of}
use Rattle.marking.specs.declared.Marking.{Marking}
use Rattle.reader.specs.Reading.{bounds}
use Rattle.reader.specs.Answers.{held_both}
use Rattle.reader.proofs.GivenLaws.{Given}
use Rattle.marking.specs.Sizes.{sizes_for}
use Rattle.step.specs.Printed.{step_text}
use Rattle.step.proofs.StepExactly.{step_exactly}
use Rattle.std.specs.Prelude.{Result}
use Rattle.std.specs.declared.result.Result.TheVariants.{Ok, Err}
use Rattle.runner.specs.Answers.{Tried, fires, stops, tried, stepped, held_step, Stepped}
use Rattle.runner_trace.specs.Running.{ran, onward, run_from, headed, run_where_held, running, Ran}
use Rattle.runner.proofs.KeepLaws.{Keeps, step_keeps}
use Rattle.runner.proofs.GivenSteps.{held-given}
use Rattle.runner.proofs.FiresExactly.{held-brings, brings-tried, brings-fires}
use Rattle.runner.specs.declared.StepRefusal.{StepRefusal}

-- ---- a step's answer, as a run takes it

-- a step fired, or it is turned down
pub by_answer : {G : Type 0} (a : Result ℕ StepRefusal) → ((n : ℕ) → a ≡ Ok n → G) → ((e : StepRefusal) → a ≡ Err e → G) → G
by_answer (Ok n) f g = f n refl
by_answer (Err e) f g = g e refl

-- one that is turned down fired nothing
pub fired≢turned : {G : Type 0} {a : Result ℕ StepRefusal} {n : ℕ} {e : StepRefusal} → a ≡ Ok n → a ≡ Err e → G
fired≢turned h k = let z : ◌≡◌ {A = ℕ} 0 1 = cc in absurd (omega arith)

-- ---- one step of a run

-- a step that fires uses at least one byte, and no more than there are
pub record Uses (s : Text) (used : ℕ) : Type 0 where
  pub some_byte : 1 ≤ used
  pub within : used ≤ length s

pub fired_uses : (m : Model) (k : Marking) (s : Text) (used : ℕ) → (held_step room_limit m k s).answer ≡ Ok used → Uses s used
unfolding step_text number_text
fired_uses m k s used h =
    let b = held-brings m k s used h in
    let r = ((step_exactly bounds (sizes_for m) m.listed s).back 0 b.step used b.read).reaches in
    let text = step_text b.step in
    let n = ap length r.stands ∙ length-append text (drop (0 + length text) s) in
    record { some_byte = omega (arith, r.next_is); within = omega (arith, r.next_is, n) }

-- a step that does not fire is turned down
tried-stops : (k : Marking) (t : Tried) (e : StepRefusal) → (stepped k t).answer ≡ Err e → (t ≡ stops e) × ((stepped k t).marking ≡ k)
unfolding stepped
tried-stops k (fires used μ) e h = fired≢turned refl h
tried-stops k (stops a) e h = (cc, refl)

module _ (fuel : ℕ) (m : Model) (k : Marking) (n at : ℕ) where
  -- at the end of the text
  pub run_end : (s : Text) → length s ≡ 0 → run_from fuel m k s n at ≡ ran n at (Ok tt) k
  run_end s e = go fuel s e
    where
      go : (f : ℕ) (s : Text) → length s ≡ 0 → run_from f m k s n at ≡ ran n at (Ok tt) k
      go zero s e = unfold run_from in refl
      go (suc f) [] e = unfold run_from onward in refl
      go (suc f) (b ∷ s) e = absurd (omega arith)

  onward-fires : (rest : ℕ → eos.Marking → Ran) (s : Text) (t : Tried) (used : ℕ) (μ : eos.Marking) → 0 < length s → t ≡ fires used μ → onward rest n at k s t ≡ rest used μ
  unfolding onward
  onward-fires rest [] t used μ h e = absurd (omega arith)
  onward-fires rest (b ∷ s) t used μ h e = rw e

  onward_stops : (rest : ℕ → eos.Marking → Ran) (s : Text) (t : Tried) (a : StepRefusal) → 0 < length s → t ≡ stops a → onward rest n at k s t ≡ ran n at (Err a) k
  unfolding onward
  onward_stops rest [] t a h e = absurd (omega arith)
  onward_stops rest (b ∷ s) t a h e = rw e

  module _ (s : Text) (more : 0 < length s) where
    -- the step call on what is left fires: the run goes on behind its bytes, on the marking that it left
    pub run-fires : (used : ℕ) → (held_step room_limit m k s).answer ≡ Ok used
        → run_from (suc fuel) m k s n at ≡ run_from fuel m (held_step room_limit m k s).marking (drop used s) (n + 1) (at + used)
    unfolding run_from
    run-fires used h =
        let b = held-brings m k s used h in
        onward-fires (λ u μ. run_from fuel m (hold_marking μ) (drop u s) (n + 1) (at + u)) s _ used _ more (brings-tried m k s used b)
        ∙ ap (λ (r : Stepped). run_from fuel m r.marking (drop used s) (n + 1) (at + used)) (sym (brings-fires m k s used b))

    -- it is turned down: the run stops with its answer, on the marking that it left
    pub run-stops : (e : StepRefusal) → (held_step room_limit m k s).answer ≡ Err e
        → run_from (suc fuel) m k s n at ≡ ran n at (Err e) (held_step room_limit m k s).marking
    unfolding run_from held_step
    run-stops e h =
        let t = tried room_limit (model_of m) (sizes_for m) (tokens_of (sizes_for m) k) s in
        let p = tried-stops k t e h in
        onward_stops (λ u μ. run_from fuel m (hold_marking μ) (drop u s) (n + 1) (at + u)) s t e more p.0
        ∙ ap (ran n at (Err e)) (sym p.1)

-- what a step hands on from marking to marking, a run does
module _ (m : Model) (P : Marking → Type 0) (step : (k : Marking) → P k → (s : Text) → P (held_step room_limit m k s).marking) where
  from_hands_on : (fuel : ℕ) (k : Marking) (s : Text) (n at : ℕ) → P k → P (run_from fuel m k s n at).marking
  from_hands_on zero k s n at h = unfold run_from in h
  from_hands_on (suc f) k s n at h =
      by_index (length s) 0
      (λ p. by_answer (held_step room_limit m k s).answer
      (λ used e.
      subst (λ (r : Ran). P r.marking) (sym (run-fires f m k n at s p used e))
      (from_hands_on f (held_step room_limit m k s).marking (drop used s) (n + 1) (at + used) (step k h s)))
      (λ a e. subst (λ (r : Ran). P r.marking) (sym (run-stops f m k n at s p a e)) (step k h s)))
      (λ p. subst (λ (r : Ran). P r.marking) (sym (run_end (suc f) m k n at s (omega arith))) h)

  headed_hands_on : (k : Marking) (s : Text) (o : Outcome (Unit {0})) → P k → P (headed m k s o).marking
  unfolding headed
  headed_hands_on k s (got v next) h = from_hands_on (length s) k (drop next s) 0 next h
  headed_hands_on k s (bad e) h = h

  tested_hands_on : (b : Bool) (k : Marking) (s : Text) → P k → P (run_where_held b m k s).marking
  unfolding run_where_held
  tested_hands_on true k s h = headed_hands_on k s (read_head (bytes "run=1\n") s 0) h
  tested_hands_on false k s h = h

  run_hands_on : (k : Marking) (s : Text) → P k → P (running m k s).marking
  unfolding running
  run_hands_on k s h =
      by_test (leb (length s) longest)
      (λ t. rw (t, running) (tested_hands_on (held_both m k) k s h))
      (λ t. rw (t, running) h)

-- a run keeps a held marking held
pub run_keeps : (m : Model) (k : Marking) (s : Text) → Keeps m k → Keeps m (running m k s).marking
run_keeps m k s h = run_hands_on m (Keeps m) (step_keeps m) k s h

-- and what it leaves of a marking that some accepted reading gives, some accepted reading gives too
pub run-given : (m : Model) (k : Marking) (s : Text) → Given m k → Given m (running m k s).marking
run-given m k s h = run_hands_on m (Given m) (held-given m) k s h

-- the length of the text is fuel enough: with more, a run is the same
pub run_fuel : (f g : ℕ) (m : Model) (k : Marking) (s : Text) (n at : ℕ) → length s ≤ f → length s ≤ g → run_from f m k s n at ≡ run_from g m k s n at
run_fuel zero g m k s n at a b = run_end zero m k n at s (omega arith) ∙ sym (run_end g m k n at s (omega arith))
run_fuel (suc f) zero m k s n at a b = run_end (suc f) m k n at s (omega arith) ∙ sym (run_end zero m k n at s (omega arith))
run_fuel (suc f) (suc g) m k s n at a b =
    by_index (length s) 0
    (λ h. by_answer (held_step room_limit m k s).answer
    (λ used e.
    let u = fired_uses m k s used e in
    run-fires f m k n at s h used e
    ∙ run_fuel f g m (held_step room_limit m k s).marking (drop used s) (n + 1) (at + used) (omega (arith, u.some_byte, length-drop used s)) (omega (arith, u.some_byte, length-drop used s))
    ∙ sym (run-fires g m k n at s h used e))
    (λ a e. run-stops f m k n at s h a e ∙ sym (run-stops g m k n at s h a e)))
    (λ h. run_end (suc f) m k n at s (omega arith) ∙ sym (run_end (suc g) m k n at s (omega arith)))
