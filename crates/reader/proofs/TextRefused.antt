-- With which faults the text of a model and that of a marking are refused: those of the first line that is not as it should be, and 2 at the
-- end of its lines exactly where bytes stand behind them.
use Prim.Native.Nat.{ℕ, ◌≤◌, ◌<◌}
use mathlib.Core.Path.{◌≡◌, refl}
use mathlib.Core.Bool.{true}
use mathlib.Core.Logic.{◌↔◌}
use native.Mathlib.Omega.{arith}
use lib.Dec.{leb}
use lib.ListN.{length}
use borrow.Author.Tests.{leb-true, leb-false, le-leb}
use Rattle.text.specs.Bytes.{Text, bytes}
use Rattle.text.specs.Lines.{Outcome, got, bad, fault, need, spot_of}
use Rattle.text.specs.declared.Fault.{Fault}
use Rattle.text.specs.declared.Spot.{Spot}
use Rattle.text.proofs.Basics.{by_test}
use Rattle.text.proofs.Refusals.{Refuses, ThenFaults, need-bad, made_refuses, then_refuses}
use Rattle.eos.specs.Model as eos
use Rattle.model.specs.Limits.{longest, room_limit}
use Rattle.model.specs.Test.{held_model}
use Rattle.model.specs.declared.Model.{Model}
use Rattle.model.specs.Rules.{right_plant}
use Rattle.model_text.specs.Printed.{plant_text}
use Rattle.model_text.proofs.PlantExactly.{plant_exactly}
use Rattle.model_text.proofs.PlantRefused.{PlantFaults, plant_refuses}
use Rattle.marking.specs.Held.{Sizes, sizes_of}
use Rattle.marking.specs.Sizes.{sizes_for}
use Rattle.marking.specs.Reading.{right_start}
use Rattle.marking.specs.Printed.{block_text}
use Rattle.marking.proofs.BlockExactly.{start_exactly}
use Rattle.marking.proofs.BlockRefused.{StartFaults, start_refuses}
use Rattle.reader.specs.Reading.{bounds, Loaded, read_end, read_lines, read_model_at, read_marking_at, right_loaded}
use Rattle.reader.specs.Answers.{loaded, model_reading, restored, marking_or, marking_reading}
use Rattle.reader.specs.declared.ReadRefusal.{ReadRefusal}
use Rattle.reader.specs.declared.ReadRefusal.TheVariants.{TooLong, NotHeld, Faulty}
use Rattle.std.specs.Prelude.{Result, Ok, Err}
use Rattle.reader.specs.Printed.{model_text}
use Rattle.reader.proofs.ReadsWhatItSays.{lines_exactly}
use Rattle.text.specs.declared.Cause.TheVariants.{Syntax}

module _ (s : Text) where
  -- at the end of the lines: 2, where bytes stand behind them
  abbrev pub EndFaults : ℕ → Fault → Type 0
  EndFaults at e = (e ≡ fault Syntax at) × (at < length s)

  pub end_refuses : {A : Type 0} (a : A) → Refuses (read_end s a) EndFaults
  unfolding read_end need
  end_refuses a = record {
    back = λ at e h. let n = need-bad (leb (length s) at) Syntax at a at e h in (n.1, leb-false (length s) at n.0);
    forth = λ at e h.
        by_test (leb (length s) at)
        (λ k. absurd (omega (arith, leb-true (length s) at k, h.1)))
        (λ k. rw (k, h.0));
  }

  -- of the lines of a model and of its start, and of the end
  abbrev pub LoadedFaults : ℕ → Fault → Type 0
  LoadedFaults = ThenFaults s plant_text (PlantFaults s) right_plant λ p. StartFaults s bounds (sizes_of p.model) room_limit

  abbrev pub ModelFaults : ℕ → Fault → Type 0
  ModelFaults = ThenFaults s model_text LoadedFaults right_loaded λ l. EndFaults

  pub lines_refuses : Refuses (read_lines s) LoadedFaults
  unfolding read_lines
  lines_refuses =
      then_refuses (plant_exactly s) (plant_refuses s) (λ p.
      made_refuses (start_refuses bounds (sizes_of p.model) s room_limit) (λ ls. record { plant = p; start = ls }))

  -- the text of a model
  pub model_refuses : Refuses (read_model_at s) ModelFaults
  unfolding read_model_at
  model_refuses = then_refuses (lines_exactly s) lines_refuses end_refuses

  -- of the lines of a marking, and of the end
  abbrev pub MarkingFaults : Sizes → ℕ → Fault → Type 0
  MarkingFaults z = ThenFaults s (block_text (bytes "start=")) (StartFaults s bounds z room_limit) (right_start room_limit bounds z) λ ls. EndFaults

  -- the text of a marking
  pub marking_refuses : (z : Sizes) → Refuses (read_marking_at z s) (MarkingFaults z)
  marking_refuses z = then_refuses (start_exactly bounds z s room_limit) (start_refuses bounds z s room_limit) end_refuses

-- ---- at the calls

faulty-is : {A : Type 0} {p q : Spot} → ◌≡◌ {A = Result A ReadRefusal} (Err (Faulty q)) (Err (Faulty p)) → p ≡ q
faulty-is e = cc

-- an answer that names no fault
long≢faulty : {A G : Type 0} {p : Spot} → ◌≡◌ {A = Result A ReadRefusal} (Err TooLong) (Err (Faulty p)) → G
long≢faulty e = let z : ◌≡◌ {A = ℕ} 0 1 = cc in absurd (omega arith)

unheld≢faulty : {A G : Type 0} {p : Spot} → ◌≡◌ {A = Result A ReadRefusal} (Err NotHeld) (Err (Faulty p)) → G
unheld≢faulty e = let z : ◌≡◌ {A = ℕ} 0 1 = cc in absurd (omega arith)

accepted≢faulty : {A G : Type 0} {a : A} {p : Spot} → ◌≡◌ {A = Result A ReadRefusal} (Ok a) (Err (Faulty p)) → G
accepted≢faulty e = let z : ◌≡◌ {A = ℕ} 0 1 = cc in absurd (omega arith)

-- which fault an answer names
loaded_names : (s : Text) (o : Outcome Loaded) (p : Spot) → loaded s o ≡ Err (Faulty p) → (e : Fault) × (o ≡ bad e) × (p ≡ spot_of s e)
unfolding loaded
loaded_names s (got l x) p h = accepted≢faulty h
loaded_names s (bad e) p h = (e, refl, faulty-is h)

-- a model's reading answers a fault, by its cause and its line, exactly where the text is not too long and has that fault
pub model_answers : (s : Text) (p : Spot)
    → (model_reading s ≡ Err (Faulty p)) ↔ ((length s ≤ longest) × ((e : Fault) × ModelFaults s 0 e × (p ≡ spot_of s e)))
unfolding model_reading loaded
model_answers s p = (
  λ h.
      by_test (leb (length s) longest)
      (λ k.
      let n = loaded_names s (read_model_at s 0) p (rw (k, model_reading) at h) in
      (leb-true (length s) longest k, (n.0, (model_refuses s).back 0 n.0 n.1, n.2)))
      (λ k. long≢faulty (rw (k, model_reading) at h)),
  λ h. let e = h.1 in rw (le-leb (length s) longest h.0, model_reading, (model_refuses s).forth 0 e.0 e.1, e.2),
)

restored_names : (s : Text) (o : Outcome eos.Lines) (p : Spot) → restored s o ≡ Err (Faulty p) → (e : Fault) × (o ≡ bad e) × (p ≡ spot_of s e)
unfolding restored
restored_names s (got ls x) p h = accepted≢faulty h
restored_names s (bad e) p h = (e, refl, faulty-is h)

-- and a marking's, for a held model, its lines read for that model
pub marking_answers : (m : Model) (s : Text) (p : Spot)
    → (marking_reading m s ≡ Err (Faulty p))
    ↔ ((length s ≤ longest) × (held_model m ≡ true) × ((e : Fault) × MarkingFaults s (sizes_for m) 0 e × (p ≡ spot_of s e)))
unfolding marking_reading marking_or restored
marking_answers m s p = (
  λ h.
      by_test (leb (length s) longest)
      (λ k.
      by_test (held_model m)
      (λ t.
      let n = restored_names s (read_marking_at (sizes_for m) s 0) p (rw (k, marking_reading, t, marking_or) at h) in
      (leb-true (length s) longest k, t, (n.0, (marking_refuses s (sizes_for m)).back 0 n.0 n.1, n.2)))
      (λ t. unheld≢faulty (rw (k, marking_reading, t, marking_or) at h)))
      (λ k. long≢faulty (rw (k, marking_reading) at h)),
  λ h.
      let e = h.2 in
      rw (le-leb (length s) longest h.0, marking_reading, h.1, marking_or, (marking_refuses s (sizes_for m)).forth 0 e.0 e.1, e.2),
)
