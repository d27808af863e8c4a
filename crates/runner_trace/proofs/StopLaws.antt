-- Where a run stopped: the byte that it answers is the end of the trace, or where the step begins that was turned down.
use Prim.Native.Nat.{ℕ, zero, suc, ◌+◌, ◌-◌, ◌≤◌, ◌<◌}
use mathlib.Core.Path.{◌≡◌, refl, ap, sym, subst, ◌∙◌}
use mathlib.Core.Bool.{true}
use native.Mathlib.Omega.{arith}
use lib.ListN.{length, drop, length-append, length-drop}
use lib.Seq.{drop-drop}
use Rattle.text.specs.Bytes.{Text, bytes}
use Rattle.text.specs.Lines.{got, read_head}
use Rattle.text.proofs.LinesExactly.{head_exactly}
use Rattle.model.specs.Limits.{room_limit, longest}
use Rattle.model.specs.declared.Model.{Model}
use Rattle.model.proofs.SlotLaws.{by_index}
use Rattle.marking.specs.declared.Marking.{Marking}
use Rattle.reader.specs.Answers.{held_both}
use Rattle.runner.specs.Answers.{held_step}
use Rattle.runner.proofs.RefusedStep.{step-leaves}
use Rattle.runner_trace.specs.Running.{ran, run_from, running, Ran}
use Rattle.runner_trace.proofs.TraceSteps.{fired_uses, run_end, run-fires, run-stops, by_answer, fired≢turned}
use Rattle.runner_trace.proofs.TraceLaws.{trace_headed}
use Rattle.std.specs.Prelude.{Ok, Err, Result}
use Rattle.runner.specs.declared.StepRefusal.{StepRefusal}

-- the byte is one of the trace or its end; the run stopped at the end exactly where the whole trace was used; before it, the step call on
-- what is left, on the marking then, is turned down as the run was stopped
pub record StopsAt (m : Model) (s : Text) (r : Ran) : Type 0 where
  pub within : r.at ≤ length s
  pub ended : r.stop ≡ Ok tt → r.at ≡ length s
  pub done : r.at ≡ length s → r.stop ≡ Ok tt
  pub turned : r.at < length s → (e : StepRefusal) × (r.stop ≡ Err e) × ((held_step room_limit m r.marking (drop r.at s)).answer ≡ Err e)

-- a step that was turned down does not end a run as the end of the text does
not_ended : {G : Type 0} {e : StepRefusal} → ◌≡◌ {A = Result (Unit {0}) StepRefusal} (Err e) (Ok tt) → G
not_ended h = let z : ◌≡◌ {A = ℕ} 0 1 = cc in absurd (omega arith)

module _ (m : Model) (s : Text) where
  at_end : (k : Marking) (n at : ℕ) → at ≡ length s → StopsAt m s (ran n at (Ok tt) k)
  at_end k n at e = record { within = omega (arith, e); ended = λ _. e; done = λ _. refl; turned = λ h. absurd (omega (arith, e)) }

  turned_down : (k : Marking) (n at : ℕ) → at < length s → (e : StepRefusal) → (held_step room_limit m k (drop at s)).answer ≡ Err e
      → StopsAt m s (ran n at (Err e) (held_step room_limit m k (drop at s)).marking)
  turned_down k n at h e is =
      let leaves = (step-leaves room_limit m k (drop at s) (λ n f. fired≢turned f is)).0 in
      record {
        within = omega arith;
        ended = λ z. not_ended z;
        done = λ z. absurd (omega (arith, z));
        turned = λ _. (e, refl, ap (λ (x : Marking). (held_step room_limit m x (drop at s)).answer) leaves ∙ is);
      }

  from_stops : (fuel : ℕ) (k : Marking) (n at : ℕ) → at ≤ length s → length s - at ≤ fuel → StopsAt m s (run_from fuel m k (drop at s) n at)
  from_stops zero k n at h f = subst (StopsAt m s) (sym (run_end zero m k n at (drop at s) (omega (arith, length-drop at s)))) (at_end k n at (omega arith))
  from_stops (suc fuel) k n at h f =
      by_index (length s) at
      (λ more.
      let some_left : 0 < length (drop at s) = omega (arith, length-drop at s) in
      by_answer (held_step room_limit m k (drop at s)).answer
      (λ used e.
      let u = fired_uses m k (drop at s) used e in
      let k' = (held_step room_limit m k (drop at s)).marking in
      subst (StopsAt m s)
      (sym (run-fires fuel m k n at (drop at s) some_left used e ∙ ap (λ (l : Text). run_from fuel m k' l (n + 1) (at + used)) (drop-drop used at s)))
      (from_stops fuel k' (n + 1) (at + used) (omega (arith, u.within, length-drop at s)) (omega (arith, u.some_byte))))
      (λ a e. subst (StopsAt m s) (sym (run-stops fuel m k n at (drop at s) some_left a e)) (turned_down k n at more a e)))
      (λ past. subst (StopsAt m s) (sym (run_end (suc fuel) m k n at (drop at s) (omega (arith, length-drop at s)))) (at_end k n at (omega arith)))

  -- the run over a trace whose header is read
  pub run_stops_at : (k : Marking) → length s ≤ longest → held_both m k ≡ true → (next : ℕ) → read_head (bytes "run=1\n") s 0 ≡ got tt next
      → StopsAt m s (running m k s)
  run_stops_at k few held next e =
      let r = ((head_exactly (bytes "run=1\n") s).back 0 tt next e).reaches in
      let n = ap length r.stands ∙ length-append (bytes "run=1\n") (drop (0 + length (bytes "run=1\n")) s) in
      subst (StopsAt m s) (trace_headed m k s few held next e) (from_stops (length s) k 0 next (omega (arith, r.next_is, n)) (omega arith))
