-- What some accepted reading gives (01's cause 14, turned round): its numbers fit their types, so the laws of held things need no premise
-- on them; and what is read for such a model is given by an accepted reading too.
use mathlib.Core.Path.{◌≡◌, refl, ap, sym, subst, ◌∙◌}
use mathlib.Core.Bool.{Bool, true, false}
use native.Mathlib.Omega.{arith}
use lib.Dec.{leb}
use lib.ListN.{length}
use Rattle.text.specs.Bytes.{Text}
use Rattle.text.specs.Lines.{Outcome, got, bad}
use Rattle.text.proofs.Basics.{by_test}
use Rattle.text.proofs.TestLaws.{and_both}
use Rattle.eos.specs.Counted.{spelt}
use Rattle.eos.specs.Model as eos
use Rattle.model.specs.Limits.{room_limit, longest}
use Rattle.model.specs.Held.{SizedModel}
use Rattle.model.specs.Test.{held_model}
use Rattle.model.specs.declared.Model.{Model}
use Rattle.model.proofs.HoldModel as model
use Rattle.model.proofs.HeldTests.{held-is, most-places}
use Rattle.marking.specs.Held.{Sizes, SizedMarking, hold_marking}
use Rattle.marking.specs.Reading.{read_start, right_start}
use Rattle.marking.specs.Sizes.{sizes_for}
use Rattle.marking.specs.declared.Marking.{Marking}
use Rattle.marking.proofs.BlockExactly.{start_exactly}
use Rattle.marking.proofs.HoldMarking as hold
use Rattle.marking.proofs.RightTokens.{start_held}
use Rattle.marking.proofs.SizeLaws.{held_roomy, sizes_same}
use Rattle.marking.proofs.SizedLaws as marking
use Rattle.reader.specs.Reading.{bounds, read_marking}
use Rattle.reader.specs.Answers.{restored, marking_or, marking_reading, marking_given, held_both, held_in}
use Rattle.std.specs.Prelude.{Ok}
use Rattle.reader.proofs.EndLaws.{ended}
use Rattle.reader.proofs.ReadingLaws.{both_model}
use Rattle.reader.proofs.HeldExactly.{Accepts, refused≢accepted, accepted_is_printed, right_parts, accepted-held, held_exactly}

-- some accepted reading gives this held model and this held marking of it
abbrev pub Given : Model → Marking → Type 0
Given m k = (s : Text) × Accepts s m k

module _ (m : Model) (k : Marking) where
  -- the tests pass for what is given
  pub given-held : Given m k → held_both m k ≡ true
  given-held (s, e) = accepted-held s m k e

  -- its arrays have their room, and its numbers fit their types
  pub given-model : Given m k → SizedModel m
  given-model (s, e) =
      let p = (accepted_is_printed s m k).0 e in
      subst SizedModel (sym p.4) (model.hold_sized p.0.plant (right_parts p.0 p.2).0)

-- a held model, and right net-tokens of it in canonical order
module _ (m : Model) (held : held_model m ≡ true) (μ : eos.Marking) (right : hold.Held (sizes_for m) μ) where
  tokens-sized : SizedMarking (hold_marking μ)
  tokens-sized = marking.hold_sized (sizes_for m) (held_roomy m held) (omega (arith, most-places m (held-is m held))) μ right

  -- where the model is given, so are they
  pub tokens-given : SizedModel m → Given m (hold_marking μ)
  unfolding held_in
  tokens-given sized =
      (held_exactly m sized (hold_marking μ) tokens-sized).0
      (and_both (held_model m) _ held (hold.hold_held (sizes_for m) (held_roomy m held) μ right))

pub given_marking : (m : Model) (k : Marking) → Given m k → SizedMarking k
given_marking m k (s, e) =
    let p = (accepted_is_printed s m k).0 e in
    let r = right_parts p.0 p.2 in
    let d = p.0.plant in
    let held = both_model m k (accepted-held s m k e) in
    let z : Sizes = sizes_for m in
    let same : z ≡ _ = ap sizes_for p.4 ∙ sizes_same _ d.model r.0 in
    let right : right_start room_limit bounds z p.0.start ≡ true = rw same r.1 in
    subst SizedMarking (sym p.5) (tokens-sized m held (eos.canonical (spelt p.0.start)) (start_held z p.0.start right))

-- ---- a marking that is read for a held model

module _ (m : Model) (sized : SizedModel m) (s : Text) where
  restored-given : held_model m ≡ true → (o : Outcome eos.Lines) → read_marking (sizes_for m) s ≡ o → (k : Marking) → restored s o ≡ Ok k → Given m k
  unfolding restored
  restored-given held (got ls x) e k a =
      let z = sizes_for m in
      let p = ended (read_start room_limit bounds z s 0) s ls x e in
      let right = ((start_exactly bounds z s room_limit).back 0 ls x p.0).fine-is in
      subst (Given m) (ap marking_given a) (tokens-given m held (eos.canonical (spelt ls)) (start_held z ls right) sized)
  restored-given held (bad d) e k a = refused≢accepted a

  tested_given : (b : Bool) → held_model m ≡ b → (k : Marking) → marking_or b m s ≡ Ok k → Given m k
  unfolding marking_or
  tested_given true h k a = restored-given h (read_marking (sizes_for m) s) refl k a
  tested_given false h k a = refused≢accepted a

  -- what is read is given
  pub reading_given : (k : Marking) → marking_reading m s ≡ Ok k → Given m k
  unfolding marking_reading
  reading_given k a =
      by_test (leb (length s) longest)
      (λ h. tested_given (held_model m) refl k (rw (h, marking_reading) at a))
      (λ h. refused≢accepted (rw (h, marking_reading) at a))
