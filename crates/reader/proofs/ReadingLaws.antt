-- What the calls that read and test answer, by how their parts ended.
use Prim.Native.Nat.{ℕ, ◌≤◌, ◌<◌}
use mathlib.Core.Path.{◌≡◌, refl, ap, ◌∙◌, sym}
use mathlib.Core.Bool.{Bool, true, false}
use lib.ListN.{length}
use borrow.Author.Tests.{le-leb, lt-leb, leb-false, leb-true}
use Rattle.text.specs.Bytes.{Text}
use Rattle.text.proofs.Basics.{and_true, by_le, by_test}
use Rattle.text.specs.Lines.{Outcome, got, bad}
use native.Mathlib.Omega.{arith}
use Rattle.std.specs.Prelude.{Result}
use Rattle.std.specs.declared.result.Result.TheVariants.{Ok, Err}
use Rattle.text.specs.Answers.{kept, accepted}
use Rattle.text.specs.declared.Fault.{Fault}
use Rattle.eos.specs.Model as eos
use Rattle.model.specs.Limits.{room_limit, longest}
use Rattle.model.specs.Test.{held_model}
use Rattle.model.specs.declared.Model.{Model}
use Rattle.marking.specs.Held.{as_sizes, Roomy, held_marking}
use Rattle.marking.specs.Sizes.{place_sizes, sizes_for}
use Rattle.marking.specs.Answers.{hold_block}
use Rattle.marking.specs.declared.Marking.{Marking}
use Rattle.marking.proofs.SizeLaws.{held_roomy}
use Rattle.reader.specs.Reading.{Loaded, read_model, read_marking}
use Rattle.reader.specs.Answers.{faulty, named, loaded, restored, held_both, model_reading, marking_or, marking_reading, held_in, admitted, short}
use Rattle.reader.specs.Parts.{hold_loaded}
use Rattle.marking.specs.declared.PlaceSizes.{PlaceSizes}
use Rattle.reader.specs.declared.ReadRefusal.TheVariants.{NotHeld, TooLong}
use Rattle.reader.specs.declared.ReadRefusal.{ReadRefusal}
use lib.Dec.{leb}

-- there is room for the counts of a held model's net-tokens
pub sizes_roomy : (m : Model) → held_model m ≡ true → (z : PlaceSizes) → z ≡ place_sizes m → Roomy (as_sizes z)
sizes_roomy m h z e = rw e (held_roomy m h)

-- ---- the test of a marking
module _ (m : Model) (k : Marking) where
  -- the model is not held
  pub both_unheld : held_model m ≡ false → false ≡ held_both m k
  unfolding held_in
  both_unheld h = rw h

  -- the model is held, and the marking is tested
  pub both_held : held_model m ≡ true → (z : PlaceSizes) → z ≡ place_sizes m → (t : Bool) → t ≡ held_marking room_limit (as_sizes z) k → t ≡ held_both m k
  unfolding held_in
  both_held h z e t f = f ∙ rw (h, e)

  -- of two that pass, the model does
  pub both_model : held_both m k ≡ true → held_model m ≡ true
  unfolding held_in
  both_model h = (and_true (held_model m) _ h).0

-- ---- what was read, where a fault is named by its line

module _ {A : Type 0} (s : Text) where
  pub named_ok : {a : A} (r : Result A Fault) → Ok a ≡ named s r → r ≡ Ok a
  named_ok (Ok b) e = cc
  named_ok (Err d) e = let z : ◌≡◌ {A = ℕ} 0 1 = cc in absurd (omega arith)

  -- a refusal names the fault that was met
  pub named_err : {G : Type 0} {e : ReadRefusal} (r : Result A Fault) → Err e ≡ named s r → ((d : Fault) → r ≡ Err d → e ≡ faulty s d → G) → G
  named_err (Ok b) h f = let z : ◌≡◌ {A = ℕ} 0 1 = cc in absurd (omega arith)
  named_err (Err d) h f = f d refl (cc)

-- ---- a text that is too long, and one that is not

module _ (most : ℕ) (s : Text) where
  pub short_ok : Ok tt ≡ short most s → length s ≤ most
  unfolding short
  short_ok e =
      by_test (leb (length s) most) (leb-true (length s) most)
      (λ h. let w = rw (h, short) at e in let z : ◌≡◌ {A = ℕ} 0 1 = cc in absurd (omega arith))

  pub short_err : (e : ReadRefusal) → Err e ≡ short most s → (e ≡ TooLong) × (most < length s)
  unfolding short
  short_err e h =
      by_test (leb (length s) most)
      (λ t. let w = rw (t, short) at h in let z : ◌≡◌ {A = ℕ} 0 1 = cc in absurd (omega arith))
      (λ t. let w = rw (t, short) at h in (cc, leb-false (length s) most t))

  pub short_within : length s ≤ most → Ok tt ≡ short most s
  unfolding short
  short_within h = rw (le-leb (length s) most h, short)

  pub short_past : most < length s → Err TooLong ≡ short most s
  unfolding short
  short_past h = rw (lt-leb (length s) most h, short)

-- ---- a model

module _ (s : Text) where
  pub model-long : (e : ReadRefusal) → Err e ≡ short longest s → Err e ≡ model_reading s
  unfolding model_reading
  model-long e h = let l = short_err longest s e h in rw (l.0, lt-leb (length s) longest l.1, model_reading)

  -- a line is refused, or all are read
  pub model_refused : length s ≤ longest → (e : Fault) → Err e ≡ accepted (kept hold_loaded (read_model s)) → Err (faulty s e) ≡ model_reading s
  unfolding model_reading accepted kept loaded
  model_refused few e h = rw (le-leb (length s) longest few, model_reading) (go (read_model s) h)
    where
      go : (o : Outcome Loaded) → Err e ≡ accepted (kept hold_loaded o) → Err (faulty s e) ≡ loaded s o
      go (got l x) k = let z : ◌≡◌ {A = ℕ} 0 1 = cc in absurd (omega arith)
      go (bad d) k = let z : e ≡ d = cc in rw z

  pub model_accepted : length s ≤ longest → (m : Model) (k : Marking) → Ok (m, k) ≡ accepted (kept hold_loaded (read_model s))
      → Ok (record { model = m; start = k }) ≡ model_reading s
  unfolding model_reading accepted kept loaded
  model_accepted few m k h = rw (le-leb (length s) longest few, model_reading) (go (read_model s) h)
    where
      go : (o : Outcome Loaded) → Ok (m, k) ≡ accepted (kept hold_loaded o) → Ok (record { model = m; start = k }) ≡ loaded s o
      go (got l x) h = let z : ◌≡◌ {A = Model × Marking} (m, k) (hold_loaded l) = cc in rw (ap (λ (p : Model × Marking). p.0) z, ap (λ (p : Model × Marking). p.1) z)
      go (bad d) h = let z : ◌≡◌ {A = ℕ} 0 1 = cc in absurd (omega arith)

-- ---- a marking

module _ (m : Model) (s : Text) where
  pub marking_long : (e : ReadRefusal) → Err e ≡ short longest s → Err e ≡ marking_reading m s
  unfolding marking_reading
  marking_long e h = let l = short_err longest s e h in rw (l.0, lt-leb (length s) longest l.1, marking_reading)

  module _ (few : length s ≤ longest) where
    -- the model is not held
    pub marking_unheld : held_model m ≡ false → Err NotHeld ≡ marking_reading m s
    unfolding marking_reading marking_or
    marking_unheld h = rw (le-leb (length s) longest few, marking_reading, h)

    -- a line is refused, or all are read
    module _ (held : held_model m ≡ true) (z : PlaceSizes) (is : z ≡ place_sizes m) where
      pub marking_refused : (e : Fault) → Err e ≡ accepted (kept hold_block (read_marking (as_sizes z) s)) → Err (faulty s e) ≡ marking_reading m s
      unfolding marking_reading marking_or accepted kept restored
      marking_refused e h = rw (le-leb (length s) longest few, marking_reading, held) (go (read_marking (sizes_for m) s) (rw is at h))
        where
          go : (o : Outcome eos.Lines) → Err e ≡ accepted (kept hold_block o) → Err (faulty s e) ≡ restored s o
          go (got l x) k = let z : ◌≡◌ {A = ℕ} 0 1 = cc in absurd (omega arith)
          go (bad d) k = let z : e ≡ d = cc in rw z

      pub marking_accepted : (k : Marking) → Ok k ≡ accepted (kept hold_block (read_marking (as_sizes z) s)) → Ok k ≡ marking_reading m s
      unfolding marking_reading marking_or accepted kept restored
      marking_accepted k h = rw (le-leb (length s) longest few, marking_reading, held) (go (read_marking (sizes_for m) s) (rw is at h))
        where
          go : (o : Outcome eos.Lines) → Ok k ≡ accepted (kept hold_block o) → Ok k ≡ restored s o
          go (got μ x) h = let z : k ≡ hold_block μ = cc in rw z
          go (bad d) h = let z : ◌≡◌ {A = ℕ} 0 1 = cc in absurd (omega arith)

-- ---- what every call on a model, a marking of it and a text asks first

module _ (m : Model) (k : Marking) (s : Text) where
  pub admitted_long : (e : ReadRefusal) → Err e ≡ short longest s → Err e ≡ admitted m k s
  unfolding admitted
  admitted_long e h = let l = short_err longest s e h in rw (l.0, lt-leb (length s) longest l.1, admitted)

  module _ (few : length s ≤ longest) where
    pub admitted_held : held_both m k ≡ true → Ok tt ≡ admitted m k s
    unfolding admitted
    admitted_held h = rw (le-leb (length s) longest few, admitted, h)

    pub admitted_unheld : held_both m k ≡ false → Err NotHeld ≡ admitted m k s
    unfolding admitted
    admitted_unheld h = rw (le-leb (length s) longest few, admitted, h)

  -- both are held, and the text is not too long
  pub admitted_ok : Ok tt ≡ admitted m k s → (length s ≤ longest) × (held_both m k ≡ true)
  admitted_ok e =
      by_le (length s) longest
      (λ few. (few, by_test (held_both m k) (λ h. h) (λ h. let w = e ∙ sym (admitted_unheld few h) in let z : ◌≡◌ {A = ℕ} 0 1 = cc in absurd (omega arith))))
      (λ h. let w = e ∙ sym (admitted_long TooLong (short_past longest s h)) in let z : ◌≡◌ {A = ℕ} 0 1 = cc in absurd (omega arith))

  -- refused: too long, or not held
  pub admitted_err : {G : Type 0} (e : ReadRefusal) → Err e ≡ admitted m k s → (e ≡ TooLong → longest < length s → G)
      → (e ≡ NotHeld → length s ≤ longest → held_both m k ≡ false → G) → G
  admitted_err e h long unheld =
      by_le (length s) longest
      (λ few. by_test (held_both m k)
      (λ t. let w = h ∙ sym (admitted_held few t) in let z : ◌≡◌ {A = ℕ} 0 1 = cc in absurd (omega arith))
      (λ t. let w = h ∙ sym (admitted_unheld few t) in unheld (cc) few t))
      (λ t. let w = h ∙ sym (admitted_long TooLong (short_past longest s t)) in long (cc) t)
