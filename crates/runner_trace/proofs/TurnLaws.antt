-- The turns of a run: what one turn gives, by how its step ended, and what it does to how far the run has come. The run from the start is
-- the run that goes on at the place reached, and a turn that goes on brings the place nearer to the end of the text.
use Prim.Native.Nat.{ℕ, suc, ◌+◌, ◌-◌, ◌≤◌, ◌<◌}
use mathlib.Core.Path.{◌≡◌, refl, ap, sym, subst, ◌∙◌}
use native.Mathlib.Omega.{arith}
use native.Mathlib.Nat.{sub-zero}
use lib.ListN.{length, take, drop, length-drop}
use lib.Seq.{take_all, drop-drop}
use borrow.Author.Tests.{le-leb, lt-leb}
use Rattle.std.specs.Prelude.{Result, None, Option, Some}
use Rattle.std.specs.declared.result.Result.TheVariants.{Ok, Err}
use Rattle.text.specs.Bytes.{Text}
use Rattle.model.specs.Limits.{room_limit}
use Rattle.model.specs.declared.Model.{Model}
use Rattle.model.proofs.SlotLaws.{by_index}
use Rattle.marking.specs.declared.Marking.{Marking}
use Rattle.runner.specs.Answers.{held_step, Stepped}
use Rattle.runner.proofs.KeepLaws.{Keeps, step_keeps}
use Rattle.runner_trace.specs.Parts.{Turned, turn_at, step_turned}
use Rattle.runner_trace.specs.Running.{ran, run_from}
use Rattle.runner_trace.proofs.TraceSteps.{fired_uses, run_end, run-fires, run-stops}
use Rattle.runner.specs.declared.StepRefusal.{StepRefusal}

-- ---- one turn

-- what is left of a text is its part from a position to the end
pub rest-left : (s : Text) (at : ℕ) → take (length s - at) (drop at s) ≡ drop at s
rest-left s at = take_all (length s - at) (drop at s) (omega (arith, length-drop at s))

module _ (m : Model) (s : Text) (at : ℕ) (k : Marking) where
  -- the text is at its end
  pub turn_ends : length s ≤ at → record { turn = None; marking = k } ≡ turn_at m s at k
  unfolding turn_at
  turn_ends h = rw (le-leb (length s) at h, turn_at)

  -- a step is tried
  pub turn_steps : at < length s → (r : Stepped) → r ≡ held_step room_limit m k (drop at s) → step_turned r ≡ turn_at m s at k
  unfolding turn_at
  turn_steps more r is = rw (lt-leb (length s) at more, turn_at, is)

-- ---- the turns of a run

-- so many steps have fired, and the run from `from` goes on at the place reached
pub record Going (m : Model) (k : Marking) (s : Text) (from fired at : ℕ) (now : Marking) : Type 0 where
  pub kept : Keeps m now
  pub behind : fired ≤ at
  pub inside : at ≤ length s
  pub left : run_from (length s) m k (drop from s) 0 from ≡ run_from (length s - fired) m now (drop at s) fired at

-- what a turn that goes on brings about, one that stops, and one at the end
pub record Turning (m : Model) (k : Marking) (s : Text) (from fired at : ℕ) (t : Turned) : Type 0 where
  pub on : (used : ℕ) → t.turn ≡ Some (Ok used) → Going m k s from (fired + 1) (at + used) t.marking × (1 ≤ used)
  pub off : (e : StepRefusal) → t.turn ≡ Some (Err e) → ran fired at (Err e) t.marking ≡ run_from (length s) m k (drop from s) 0 from
  pub over : t.turn ≡ None → ran fired at (Ok tt) t.marking ≡ run_from (length s) m k (drop from s) 0 from

-- a turn has a step or none
none≢some : {G : Type 0} {a : Result ℕ StepRefusal} → ◌≡◌ {A = Option (Result ℕ StepRefusal)} None (Some a) → G
none≢some e = let z : ◌≡◌ {A = ℕ} 0 1 = cc in absurd (omega arith)

some-is : {a b : Result ℕ StepRefusal} → ◌≡◌ {A = Option (Result ℕ StepRefusal)} (Some a) (Some b) → a ≡ b
some-is e = cc

module _ (m : Model) (k : Marking) (s : Text) (from fired at : ℕ) (now : Marking) (g : Going m k s from fired at now) where
  -- the text is at its end
  at_end : length s ≤ at → Turning m k s from fired at (record { turn = None; marking = now })
  at_end h = record {
    on = λ used e. none≢some e;
    off = λ a e. none≢some e;
    over = λ _. sym (g.left ∙ run_end (length s - fired) m now fired at (drop at s) (omega (arith, length-drop at s)));
  }

  module _ (more : at < length s) where
    abbrev r : Stepped
    r = held_step room_limit m now (drop at s)

    some_left : 0 < length (drop at s)
    some_left = omega (arith, length-drop at s)

    fuel_is : length s - fired ≡ suc (length s - (fired + 1))
    fuel_is = omega (arith, g.behind)

    -- a step fires: it uses at least one byte, and no more than there are
    step_on : (used : ℕ) → r.answer ≡ Ok used → Going m k s from (fired + 1) (at + used) r.marking × (1 ≤ used)
    step_on used f =
        let u = fired_uses m now (drop at s) used f in (
          record {
            kept = step_keeps m now g.kept (drop at s);
            behind = omega (arith, g.behind, u.some_byte);
            inside = omega (arith, u.within, length-drop at s);
            left = g.left ∙ ap (λ (i : ℕ). run_from i m now (drop at s) fired at) fuel_is
                ∙ run-fires (length s - (fired + 1)) m now fired at (drop at s) some_left used f
                ∙ ap (λ (l : Text). run_from (length s - (fired + 1)) m r.marking l (fired + 1) (at + used)) (drop-drop used at s);
          },
          u.some_byte,
        )

    -- a step is turned down
    step_off : (e : StepRefusal) → r.answer ≡ Err e → ran fired at (Err e) r.marking ≡ run_from (length s) m k (drop from s) 0 from
    step_off e h =
        sym (g.left ∙ ap (λ (i : ℕ). run_from i m now (drop at s) fired at) fuel_is
        ∙ run-stops (length s - (fired + 1)) m now fired at (drop at s) some_left e h)

  turning : Turning m k s from fired at (turn_at m s at now)
  turning =
      by_index (length s) at
      (λ more. subst (Turning m k s from fired at) (turn_steps m s at now more (r more) refl)
      (record { on = λ used e. step_on more used (some-is e); off = λ a e. step_off more a (some-is e); over = λ e. none≢some (sym e) }))
      (λ past. subst (Turning m k s from fired at) (turn_ends m s at now past) (at_end past))

  -- a turn of a run on its way
  pub standing_turn : (t : Turned) → t ≡ turn_at m s at now → Turning m k s from fired at t
  standing_turn t is = subst (Turning m k s from fired at) (sym is) turning

-- at the start
pub standing_start : (m : Model) (s : Text) (at : ℕ) (k : Marking) → Keeps m k → at ≤ length s → Going m k s at 0 at k
standing_start m s at k h inside = record { kept = h; behind = omega arith; inside = inside; left = rw (sub-zero (length s)) refl }
