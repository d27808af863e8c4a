-- The step call agrees with the rule wherever the limits leave room, on every held marking of a right model.
use Prim.Native.Nat.{ℕ, ◌≤◌}
use mathlib.Core.Path.{◌≡◌, refl, ap, sym, subst, ◌∙◌}
use mathlib.Core.Bool.{true, false, true≢false}
use mathlib.Core.Option.{Option, none, some}
use lib.Dec.{T, leb}
use lib.ListN.{length}
use borrow.Author.Tests.{leb-true, leb-false}
use Rattle.text.specs.Bytes.{Text}
use Rattle.text.specs.Lines.{got}
use Rattle.text.proofs.Basics.{by_test}
use Rattle.text.proofs.TestLaws.{and_both}
use Rattle.eos.specs.Model as eos
use Rattle.eos.specs.Firing.{Step, Written, step_of, fires, after}
use Rattle.eos.specs.Causes.{Refusal}
use Rattle.eos.specs.Room.{Small, Fits}
use Rattle.eos.specs.Run.{rule_fires, Answer, has_fired, Holdable, Agrees}
use Rattle.eos.proofs.Basics.{is_true}
use Rattle.eos.proofs.FiringLaws.{fires_yes, fires_all}
use Rattle.model.specs.Limits.{longest, room_limit, count_limit, cover_limit}
use Rattle.model.specs.Rules.{under, right_plant}
use Rattle.model.specs.Held.{hold_plant}
use Rattle.model.specs.Test.{held_model}
use Rattle.model.specs.declared.Model.{Model}
use Rattle.model.proofs.HoldModel.{model_of_hold}
use Rattle.model.proofs.HoldHeld as holding
use Rattle.marking.specs.Held.{Sizes, sizes_of, Roomy, hold_marking, tokens_of, room_of, has_room}
use Rattle.marking.specs.declared.Marking.{Marking}
use Rattle.marking.proofs.HoldMarking as hold
use Rattle.marking.proofs.RightTokens.{held_right_ones}
use Rattle.reader.specs.Reading.{bounds}
use Rattle.marking.specs.Sizes.{sizes_for}
use Rattle.reader.specs.Answers.{held_both, held_in}
use Rattle.marking.proofs.SizeLaws.{held_roomy, sizes_same}
use Rattle.step.specs.Reading.{read_step}
use Rattle.runner.specs.Answers.{stepping, Stepped, unfired_triple}
use Rattle.runner.proofs.StepAnswers.{step-long}
use Rattle.runner.proofs.FiresExactly.{Brings, fires_exactly, unfired≢fired}
use Rattle.runner.proofs.RefusedStep.{refused-leaves}
use Rattle.promises.specs.WholeRun.{brings}
use Rattle.promises.proofs.BringLaws.{read_free, small_ones, tokens_again, Read, read_brings, read_bounds, brings_read}
use Rattle.std.specs.Prelude.{Ok, Result, Err}
use Rattle.runner.specs.declared.StepRefusal.{StepRefusal}

-- ---- the step call as an engine's call (eos, Run)

-- none where it fired, or the cause
abbrev pub cause_of : Result ℕ StepRefusal → Option Refusal
cause_of (Ok n) = none
cause_of (Err e) = some (unfired_triple e)

-- the cause, and the marking left
abbrev pub call : Model → Text → Marking → Answer Marking
call m s k = record { refused = cause_of (stepping m k s).answer; held = (stepping m k s).marking }

not_fired : (a : Result ℕ StepRefusal) → ((n : ℕ) → a ≡ Ok n → ⊥) → has_fired (cause_of a) ≡ false
not_fired (Ok n) h = absurd (h n refl)
not_fired (Err e) h = refl

module _ (header : ℕ) (d : eos.Model) (right : right_plant (under header d) ≡ true) where
  abbrev m : Model
  m = hold_plant (under header d)

  model-held : held_model m ≡ true
  model-held = holding.hold_held (under header d) right

  roomy : Roomy (sizes_for m)
  roomy = held_roomy m model-held

  -- ---- a marking that can be held

  module _ (μ : eos.Marking) (h : Holdable (room_of room_limit) d μ) where
    can_be_held : hold.Held (sizes_for m) μ
    can_be_held = rw (sizes_same _ d right) (held_right_ones (sizes_of d) μ h.ordered (is_true (has_room room_limit μ) h.fits.room) (small_ones d μ h.made h.fits.small))

    holdable-held : held_both m (hold_marking μ) ≡ true
    unfolding held_in
    holdable-held = and_both (held_model m) _ model-held (hold.hold_held (sizes_for m) roomy μ can_be_held)

    pub holdable-tokens : tokens_of (sizes_for m) (hold_marking μ) ≡ μ
    holdable-tokens = tokens_again (sizes_for m) roomy μ can_be_held

    -- ---- a text that brings a step which fires

    -- a step of few net-tokens with small counts, that leaves room, is fired
    abbrev Fired : Text → Step → Type 0
    Fired s t =
        T (fires d t μ) → length t.taken ≤ cover_limit → Small count_limit t.taken → length t.given ≤ cover_limit → Small count_limit t.given
        → Fits (room_of room_limit) (after t μ) → call m s (hold_marking μ) ≡ record { refused = none; held = hold_marking (eos.canonical (after t μ)) }

    module _ (s : Text) (w : Written) (r : Read d s w) where
      abbrev t : Step
      t = step_of w

      module _ (f : T (fires d t μ)) (read : read_step bounds (sizes_of d) (length d.events) s 0 ≡ got w r.next) (room : T (has_room room_limit (after t μ))) where
        brought : Brings m (hold_marking μ) s r.next
        unfolding hold_plant
        brought =
            let y = fires_yes d t μ f in
            record {
              step = w;
              read = ap (λ (z : Sizes). read_step bounds z (length d.events) s 0) (sizes_same _ d right) ∙ read;
              enabled = rw (model_of_hold (under header d) right) y.0;
              within = rw holdable-tokens y.1;
              room = rw holdable-tokens room;
            }

        lines_fire : call m s (hold_marking μ) ≡ record { refused = none; held = hold_marking (eos.canonical (after t μ)) }
        unfolding brought
        lines_fire =
            let x = fires_exactly m (hold_marking μ) s r.next holdable-held r.short in
            let p = x.always brought in
            let q = x.after_it brought ∙ ap (λ (ν : eos.Marking). hold_marking (eos.canonical (after t ν))) holdable-tokens in
            λ i. record { refused = cause_of (p i); held = q i }

      fire_read : Fired s t
      fire_read f few small few' small' room = lines_fire f (read_bounds d s w r few small few' small') room.room

    fire : (s : Text) (t : Step) → brings d s ≡ some t → Fired s t
    fire s t e = let (w, r, step) = brings_read d s t e in subst (Fired s) step (fire_read s w r)

    -- ---- any other text

    module _ (s : Text) (e : rule_fires d (brings d s) μ ≡ false) where
      unfired : (n : ℕ) → (stepping m (hold_marking μ) s).answer ≡ Ok n → ⊥
      unfolding hold_plant
      unfired n a =
          by_test (leb (length s) longest)
          (λ short.
          let b = (fires_exactly m (hold_marking μ) s n holdable-held (leb-true (length s) longest short)).only a in
          let w = b.step in
          let t = step_of w in
          let r = ap (λ (z : Sizes). read_step bounds z (length d.events) s 0) (sym (sizes_same _ d right)) ∙ b.read in
          let o = read_brings d s w (record { short = leb-true (length s) longest short; next = n; is = read_free (sizes_of d) (length d.events) s w n r }) in
          let f : T (fires d t μ) = fires_all d t μ (rw (model_of_hold (under header d) right) at b.enabled) (rw holdable-tokens at b.within) in
          true≢false (sym (is_true (fires d t μ) f) ∙ rw o at e))
          (λ long. unfired≢fired (ap (λ (r : Stepped). r.answer) (step-long m (hold_marking μ) s (leb-false (length s) longest long)) ∙ a))

      stay : (has_fired (call m s (hold_marking μ)).refused ≡ false) × ((call m s (hold_marking μ)).held ≡ hold_marking μ)
      stay = (not_fired (stepping m (hold_marking μ) s).answer unfired, (refused-leaves m (hold_marking μ) s unfired).0)

  -- the step call on the held model is an engine that agrees with the rule wherever there is room
  pub agrees : Agrees cover_limit (room_of room_limit) d (brings d) hold_marking (call m)
  agrees = record {
    fire = λ s t μ h e f few small few' small' room. fire μ h s t e f few small few' small' room;
    stay = λ s μ h e. stay μ h s e;
  }
