-- The lines of a model, of its start and of a marking, read in turn: what the parts answer, put together, is what the text says.
use Prim.Native.Nat.{ℕ}
use mathlib.Core.Path.{◌≡◌, refl, ap, sym, ◌∙◌}
use mathlib.Core.Bool.{true}
use lib.Dec.{leb}
use lib.ListN.{length}
use Rattle.std.specs.Prelude.{Result}
use Rattle.std.specs.declared.result.Result.TheVariants.{Ok, Err}
use Rattle.text.specs.Bytes.{Text}
use Rattle.text.proofs.Basics.{by_test}
use Rattle.text.specs.Lines.{Outcome, got, bad, then, need}
use Rattle.text.specs.Answers.{kept, accepted}
use Rattle.text.specs.declared.Fault.{Fault}
use Rattle.text_reader.specs.Place.{Reads, lent, closed}
use Rattle.text_reader.specs.declared.Reader.{Reader}
use Rattle.text_reader.proofs.ReadsLaws.{read_of, refused_of}
use Rattle.eos.specs.Model as eos
use Rattle.model.specs.Limits.{room_limit}
use Rattle.model.specs.Rules.{Plant, right_plant}
use Rattle.model.specs.Held.{hold_plant}
use Rattle.model.specs.Test.{held_model}
use Rattle.model.specs.declared.Model.{Model}
use Rattle.model.proofs.HoldHeld.{hold_held}
use Rattle.model_text.specs.Reading.{read_plant}
use Rattle.model_text.proofs.PlantExactly.{plant_exactly}
use Rattle.marking.specs.Held.{Sizes, sizes_of, as_sizes}
use Rattle.marking.specs.Sizes.{place_sizes}
use Rattle.marking.specs.Reading.{read_start}
use Rattle.marking.specs.Answers.{hold_block}
use Rattle.marking.specs.declared.Marking.{Marking}
use Rattle.marking.proofs.SizeLaws.{sizes_same}
use Rattle.reader.specs.Reading.{bounds, Loaded, read_end, read_lines, read_model_at, read_marking_at}
use Rattle.reader.specs.Parts.{hold_loaded}
use Rattle.reader.proofs.EndLaws.{refused_to_end, read_to_end}

-- ---- net-tokens to the end of the text

-- what was read of them, if nothing stands behind it
abbrev pub to_end : Result Marking Fault → Result (Unit {0}) Fault → Result Marking Fault
to_end (Ok k) end = lent k end
to_end (Err e) end = Err e

-- whatever is read of them, behind lines that ended where they did it is the reading of the whole text
pub tokens-to_end : (o : Outcome eos.Lines) (old new : Reader) (read : Result Marking Fault) → Reads (kept hold_block o) old new read
    → (end : Result (Unit {0}) Fault) → end ≡ accepted (closed new.src.now new.at) → to_end read end ≡ accepted (kept hold_block (then o (read_end old.src.now)))
tokens-to_end o old new (Ok k) h end e = read_to_end hold_block o old new k h end e
tokens-to_end o old new (Err d) h end e = refused_to_end hold_block o old new d h

-- ---- a model with its start

-- a model with the start that is read
abbrev with : Plant → eos.Lines → ℕ → Outcome Loaded
with d μ y = got (record { plant = d; start = μ }) y

-- the end is tested before or after the two are joined
join_end : (d : Plant) (s : Text) (o : Outcome eos.Lines)
    → then (then o (with d)) (read_end s) ≡ then (then o (read_end s)) (with d)
unfolding then read_end need
join_end d s (got μ y) = by_test (leb (length s) y) (λ h. rw h) (λ h. rw h)
join_end d s (bad e) = refl

-- what was read of a model, beside its start or the fault in it
abbrev pub beside : Model → Result Marking Fault → Result (Model × Marking) Fault
beside m (Ok k) = Ok (m, k)
beside m (Err e) = Err e

-- the start that stands at the place of a reader, of a held model
abbrev pub start_of : Model → Reader → Result Marking Fault
start_of m r = accepted (kept hold_block (read_marking_at (as_sizes (place_sizes m)) r.src.now r.at))

-- a model that was read, beside the start behind it
abbrev pub joined : Result Model Fault → Reader → Result (Model × Marking) Fault
joined (Ok m) r = beside m (start_of m r)
joined (Err e) r = Err e

beside_with : (d : Plant) (o : Outcome eos.Lines) → beside (hold_plant d) (accepted (kept hold_block o)) ≡ accepted (kept hold_loaded (then o (with d)))
unfolding accepted kept then
beside_with d (got μ y) = refl
beside_with d (bad e) = refl

-- the model was read, and its start stands behind it
behind_plant : (s : Text) (at : ℕ) (d : Plant) (next : ℕ) → read_plant s at ≡ got d next → read_model_at s at ≡ then (read_marking_at (sizes_of d.model) s next) (with d)
unfolding read_model_at read_lines then
behind_plant s at d next e = rw e (join_end d s (read_start room_limit bounds (sizes_of d.model) s next))

module _ (old mid : Reader) where
  abbrev plant : Outcome Plant
  plant = read_plant old.src.now old.at

  -- the model is refused
  pub plant_refused : (e : Fault) → Reads (kept hold_plant plant) old mid (Err e) → Err e ≡ accepted (kept hold_loaded (read_model_at old.src.now old.at))
  unfolding read_model_at read_lines then accepted kept
  plant_refused e k = rw (refused_of hold_plant plant e k).is

  module _ (m : Model) (first : Reads (kept hold_plant plant) old mid (Ok m)) where
    right : (d : Plant) → plant ≡ got d mid.at → right_plant d ≡ true
    right d e = ((plant_exactly old.src.now).back old.at d mid.at e).fine-is

    -- a model that is read is held
    pub plant_held : held_model m ≡ true
    plant_held = let q = read_of hold_plant plant m first in rw q.held (hold_held q.value (right q.value q.is))

    -- the model is read, and its start stands behind it
    plant_read : beside m (start_of m mid) ≡ accepted (kept hold_loaded (read_model_at old.src.now old.at))
    plant_read =
        let q = read_of hold_plant plant m first in
        let same : mid.src.now ≡ old.src.now = ap (λ (x : Reader). x.src.now) q.moved in
        let sizes : as_sizes (place_sizes m) ≡ sizes_of q.value.model = ap (λ (x : Model). as_sizes (place_sizes x)) q.held ∙ sizes_same _ q.value.model (right q.value q.is) in
        let begun : start_of m mid ≡ accepted (kept hold_block (read_marking_at (sizes_of q.value.model) old.src.now mid.at)) =
        ap (λ (z : Sizes). accepted (kept hold_block (read_marking_at z mid.src.now mid.at))) sizes ∙ ap (λ (s : Text). accepted (kept hold_block (read_marking_at (sizes_of q.value.model) s mid.at))) same in
        ap (λ (x : Model). beside x (start_of m mid)) q.held
        ∙ ap (beside (hold_plant q.value)) begun
        ∙ beside_with q.value (read_marking_at (sizes_of q.value.model) old.src.now mid.at)
        ∙ ap (λ (o : Outcome Loaded). accepted (kept hold_loaded o)) (sym (behind_plant old.src.now old.at q.value mid.at q.is))

  -- whatever is read of a model, its lines and the start behind them, joined, are what the text says of both
  pub lines-joined : (read : Result Model Fault) → Reads (kept hold_plant plant) old mid read → joined read mid ≡ accepted (kept hold_loaded (read_model_at old.src.now old.at))
  lines-joined (Ok m) first = plant_read m first
  lines-joined (Err e) first = plant_refused e first
