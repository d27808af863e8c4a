-- What a step leaves: what holds of the marking, and of every marking after a step that meets no cause, holds of the marking left.
use Prim.Native.Nat.{ℕ}
use mathlib.Core.Path.{◌≡◌, refl, subst, sym}
use mathlib.Core.Bool.{Bool, true, false}
use mathlib.Core.Option.{Option, none, some}
use lib.Dec.{leb}
use lib.ListN.{length}
use Rattle.text.specs.Bytes.{Text}
use Rattle.text.specs.Lines.{Outcome, got, bad}
use Rattle.text.proofs.Basics.{by_test}
use Rattle.eos.specs.Model as eos
use Rattle.eos.specs.Firing.{Written, step_of, after}
use Rattle.eos.specs.Causes.{Cause, refusal}
use Rattle.model.specs.Limits.{room_limit, longest}
use Rattle.model.specs.Held.{model_of}
use Rattle.model.specs.declared.Model.{Model}
use Rattle.marking.specs.Held.{hold_marking, tokens_of, has_room}
use Rattle.marking.specs.Sizes.{sizes_for}
use Rattle.marking.specs.declared.Marking.{Marking}
use Rattle.reader.specs.Answers.{held_both}
use Rattle.runner.specs.Answers.{step_judged, read_then, stepped, held_step, where_held, stepping, stepping_in, Stepped}
use Rattle.runner.proofs.RuledLaws.{RightStep, read_right}
use Rattle.runner.proofs.StepAnswers.{reading, held_reads}

module _ (m : Model) (k : Marking) where
  abbrev μ : eos.Marking
  μ = tokens_of (sizes_for m) k

  module _ (P : Marking → Type 0) (before : P k)
      (fired : (t : Written) → RightStep (sizes_for m) m.listed t → refusal (has_room room_limit) (model_of m) t μ ≡ none → P (hold_marking (eos.canonical (after (step_of t) μ)))) where
    judged_hands_on : (t : Written) (next : ℕ) → RightStep (sizes_for m) m.listed t → (o : Option Cause) → refusal (has_room room_limit) (model_of m) t μ ≡ o
        → P (stepped k (step_judged μ t next o)).marking
    unfolding step_judged stepped
    judged_hands_on t next r none e = fired t r e
    judged_hands_on t next r (some c) e = before

    read_hands_on : (s : Text) (o : Outcome Written) → reading m k s ≡ o → P (stepped k (read_then room_limit (model_of m) μ s o)).marking
    unfolding read_then stepped
    read_hands_on s (got t next) e = judged_hands_on t next (read_right (sizes_for m) m.listed s t next e) (refusal (has_room room_limit) (model_of m) t μ) refl
    read_hands_on s (bad d) e = before

    pub step_hands_on : (s : Text) → P (held_step room_limit m k s).marking
    step_hands_on s = subst (λ (r : Stepped). P r.marking) (sym (held_reads m k s room_limit)) (read_hands_on s (reading m k s) refl)

    -- the step call
    tested_hands_on : (b : Bool) (s : Text) → P (where_held b room_limit m k s).marking
    unfolding where_held
    tested_hands_on true s = step_hands_on s
    tested_hands_on false s = before

    pub call_hands_on : (s : Text) → P (stepping m k s).marking
    unfolding stepping_in
    call_hands_on s =
        by_test (leb (length s) longest)
        (λ h. rw (h, stepping_in) (tested_hands_on (held_both m k) s))
        (λ h. rw (h, stepping_in) before)
