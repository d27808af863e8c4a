-- The lines of a step, lent to the step call: where they fire, and what a call that said fired was lent.
use Prim.Native.Nat.{ℕ, suc, ◌≤◌}
use mathlib.Core.Path.{◌≡◌, refl, ap, ◌∙◌}
use mathlib.Core.Bool.{true}
use mathlib.Core.List.{◌++◌}
use native.Mathlib.Omega.{arith}
use native.Mathlib.Nat.{zero-add}
use lib.Dec.{T, leb, ltb}
use borrow.Author.Tests.{leb-true, leb-false, ltb-true}
use lib.ListN.{length, length-append}
use Rattle.text.specs.Bytes.{Text, bytes}
use Rattle.text.specs.Printed.{number_text}
use Rattle.text.specs.Lines.{got}
use Rattle.text.proofs.Basics.{by_test, and_true}
use Rattle.text.proofs.Standing.{stands_all}
use Rattle.text.proofs.TextLengths.{number-length}
use Rattle.eos.specs.Model as eos
use Rattle.eos.specs.Firing.{Written, step_of, fires, after}
use Rattle.eos.proofs.FiringLaws.{fires_yes}
use Rattle.model.specs.Limits.{longest, room_limit}
use Rattle.model.specs.Held.{model_of}
use Rattle.model.specs.declared.Model.{Model}
use Rattle.model.proofs.HeldTests.{held-is, most-places, most-events}
use Rattle.marking.specs.Held.{Sizes, hold_marking, tokens_of, has_room}
use Rattle.marking.specs.Reading.{right_block}
use Rattle.marking.specs.Printed.{block_text}
use Rattle.marking.specs.Sizes.{sizes_for}
use Rattle.marking.specs.declared.Marking.{Marking}
use Rattle.marking.specs.Held.{Roomy}
use Rattle.marking.proofs.SizeLaws.{held_roomy}
use Rattle.marking.proofs.WriteLaws.{block_length}
use Rattle.reader.specs.Reading.{bounds}
use Rattle.reader.specs.Answers.{held_both}
use Rattle.reader.proofs.ReadingLaws.{both_model}
use Rattle.step.specs.Reading.{right_step}
use Rattle.step.specs.Printed.{step_text}
use Rattle.step.proofs.StepExactly.{step_exactly}
use Rattle.runner.specs.Answers.{Stepped, stepping}
use Rattle.runner.proofs.StepAnswers.{step-long, step-unheld}
use Rattle.runner.proofs.FiresExactly.{Brings, unfired≢fired, fires_exactly}
use Rattle.promises.specs.Converted.{Fires}
use Rattle.std.specs.Prelude.{Ok}

-- the lines of a right step are no longer than a text may be
step-length : (z : Sizes) → Roomy z → z.places ≤ 99 → (events : ℕ) → events ≤ 64 → (t : Written) → right_step bounds z events t ≡ true → length (step_text t) ≤ longest
unfolding right_step step_text
step-length z roomy places events few t h =
    let p = and_true (ltb t.event events) _ h in
    let q = and_true (right_block bounds z t.taken) _ p.1 in
    let fire = number_text (bytes "fire=") (suc t.event) in
    let take = block_text (bytes "take=") t.taken in
    let give = block_text (bytes "give=") t.given in
    omega (
      arith,
      length-append fire (take ++ give),
      length-append take give,
      number-length (bytes "fire=") 2 (suc t.event) (omega (arith, ltb-true t.event events p.0)),
      block_length z roomy places (bytes "take=") t.taken q.0,
      block_length z roomy places (bytes "give=") t.given q.1,
    )

module _ (m : Model) (k : Marking) where
  abbrev μ : eos.Marking
  μ = tokens_of (sizes_for m) k

  -- a call that said fired was lent a held marking, and a text that is not too long
  pub was_lent : (s : Text) (n : ℕ) → (stepping m k s).answer ≡ Ok n → (held_both m k ≡ true) × (length s ≤ longest)
  was_lent s n a =
      by_test (leb (length s) longest)
      (λ h.
      let few = leb-true (length s) longest h in
      by_test (held_both m k)
      (λ t. (t, few))
      (λ t. unfired≢fired (ap (λ (r : Stepped). r.answer) (step-unheld m k s few t) ∙ a)))
      (λ h. unfired≢fired (ap (λ (r : Stepped). r.answer) (step-long m k s (leb-false (length s) longest h)) ∙ a))

  -- the lines of a step that fires, with room for what is after it, are fired
  pub lines_fire : held_both m k ≡ true → (t : Written) → right_step bounds (sizes_for m) m.listed t ≡ true → T (fires (model_of m) (step_of t) μ)
      → T (has_room room_limit (after (step_of t) μ)) → Fires m k t (hold_marking (eos.canonical (after (step_of t) μ)))
  lines_fire held t right fire room =
      let h = both_model m k held in
      let z = sizes_for m in
      let short = step-length z (held_roomy m h) (omega (arith, most-places m (held-is m h))) m.listed (most-events m (held-is m h)) t right in
      let y = fires_yes (model_of m) (step_of t) μ fire in
      let b : Brings m k (step_text t) (length (step_text t)) = record {
        step = t;
        read = (step_exactly bounds z m.listed (step_text t)).forth 0 t (stands_all (step_text t) (step_text t) refl) right ∙ ap (got t) (zero-add (length (step_text t)));
        enabled = y.0;
        within = y.1;
        room = room;
      } in
      let x = fires_exactly m k (step_text t) (length (step_text t)) held short in
      let p = x.always b in
      let q = x.after_it b in
      λ i. record { answer = p i; marking = q i }
