-- What the converter answers: 14, 21, or the model with `alone`, which is held, and the new number of each event.
use Prim.Native.Nat.{ℕ, suc, ◌+◌, ◌≤◌, ◌<◌}
use mathlib.Core.Path.{◌≡◌, refl, sym, ap, ap₂, ◌∙◌}
use mathlib.Core.Logic.{◌↔◌}
use mathlib.Core.List.{[]}
use mathlib.Core.Bool.{true, false}
use native.Mathlib.Omega.{arith}
use native.Mathlib.Numerals.{add-one}
use lib.ListN.{length, get_or}
use Rattle.std.specs.Prelude as answer
use Rattle.std.specs.Prelude.{Result, Ok, Err}
use Rattle.std.proofs.Math.Option.{Option, none, some}
use Rattle.text.proofs.Basics.{by_test}
use Rattle.eos.specs.Model.{event}
use Rattle.eos.specs.Causes.{Least}
use Rattle.eos.specs.Converting.{replaceable, renumbered, converted, new_index, unreplaced, Lacks}
use Rattle.eos.proofs.ConvertingLaws.{converted_again}
use Rattle.eos.proofs.ConvertedLaws.{unreplaced_least, unreplaced_none}
use Rattle.model.specs.Rules.{Plant, right_plant}
use Rattle.model.specs.Held.{SizedModel, told, listed, hold_plant, model_of, plant_of}
use Rattle.model.specs.Test.{held_model}
use Rattle.model.specs.declared.Model.{Model}
use Rattle.model.proofs.HeldTests.{held-is, most-events}
use Rattle.model.proofs.HeldBack.{held_again}
use Rattle.model.proofs.HeldRight.{held_right}
use Rattle.model.proofs.HoldHeld.{hold_held}
use Rattle.model.proofs.HoldModel.{plant_of_hold, hold_sized}
use Rattle.model.proofs.ShapeLaws.{events-long}
use Rattle.model.proofs.SlotLaws.{held_at, held_past, listed-is}
use Rattle.model_convert.specs.Converting.{hold_indices, hold_numbers, converted_plant}
use Rattle.model_convert.proofs.RightLaws.{none_under, right_converted}
use Rattle.model_convert.proofs.KeptLaws.{renumbered_long}
use Rattle.marking.specs.Sizes.{sizes_in, sizes_for}
use Rattle.marking.specs.declared.Marking.{Marking}
use Rattle.reader.specs.Answers.{held_in}
use Rattle.converter.specs.Answers.{conversion, converted_or, converting, conversion_given}
use Rattle.converter.specs.declared.Conversion.{Conversion}
use Rattle.converter.specs.declared.ConversionRefusal.{ConversionRefusal}
use Rattle.converter.specs.declared.ConversionRefusal.TheVariants.{NotHeld, Irreplaceable}

-- ---- as the code goes

-- an answer is no refusal, and no refusal is another
ok_not : {A E G : Type 0} {a : A} {e : E} → ◌≡◌ {A = Result A E} (Ok a) (Err e) → G
ok_not h = let z : ◌≡◌ {A = ℕ} 0 1 = cc in absurd (omega arith)

module _ (m : Model) where
  pub unheld : held_model m ≡ false → converting m ≡ Err NotHeld
  unfolding converting
  unheld h = rw (h, converting)

  pub tested : held_model m ≡ true → converting m ≡ converted_or (plant_of m) (unreplaced (model_of m))
  unfolding converting
  tested h = rw (h, converting)

  pub found : held_model m ≡ true → (k : ℕ) → answer.Some k ≡ told (unreplaced (model_of m)) → Err (Irreplaceable (k + 1)) ≡ converting m
  unfolding converted_or
  found h k e = go (unreplaced (model_of m)) e ∙ sym (tested h)
    where
      go : (o : Option ℕ) → answer.Some k ≡ told o → Err (Irreplaceable (k + 1)) ≡ converted_or (plant_of m) o
      go none e = let z : ◌≡◌ {A = ℕ} 0 1 = cc in absurd (omega arith)
      go (some j) e = let s : k ≡ j = cc in rw (s, add-one j)

  pub found_none : held_model m ≡ true → answer.None ≡ told (unreplaced (model_of m)) → Ok (conversion (plant_of m)) ≡ converting m
  unfolding converted_or
  found_none h e = go (unreplaced (model_of m)) e ∙ sym (tested h)
    where
      go : (o : Option ℕ) → answer.None ≡ told o → Ok (conversion (plant_of m)) ≡ converted_or (plant_of m) o
      go none e = refl
      go (some j) e = let z : ◌≡◌ {A = ℕ} 0 1 = cc in absurd (omega arith)

  -- an event that is found is one of at most 64
  pub found_within : held_model m ≡ true → (k : ℕ) → answer.Some k ≡ told (unreplaced (model_of m)) → k < 64
  found_within h k e = go (unreplaced (model_of m)) refl e
    where
      go : (o : Option ℕ) → unreplaced (model_of m) ≡ o → answer.Some k ≡ told o → k < 64
      go none u e = let z : ◌≡◌ {A = ℕ} 0 1 = cc in absurd (omega arith)
      go (some j) u e =
          let s : k ≡ j = cc in
          let l = ((unreplaced_least (model_of m) j).0 u).0 in
          omega (arith, s, l.within, events-long m, most-events m (held-is m h))

-- ---- what is answered, exactly where

module _ (m : Model) where
  -- no event of the model lacks a like one at a place of its type
  abbrev pub AllReplaced : Type 0
  AllReplaced = (k : ℕ) → k < length (model_of m).events → Lacks (model_of m) k → ⊥

  -- k is the least event that lacks one
  abbrev pub LeastLacking : ℕ → Type 0
  LeastLacking k = Least (length (model_of m).events) (λ k. replaceable (model_of m) (event (model_of m) k)) k × Lacks (model_of m) k

  -- by the test, and by what is found
  pub by_answer : {G : Type 0} → (held_model m ≡ false → converting m ≡ Err NotHeld → G)
      → (held_model m ≡ true → (k : ℕ) → unreplaced (model_of m) ≡ some k → converting m ≡ Err (Irreplaceable (suc k)) → G)
      → (held_model m ≡ true → unreplaced (model_of m) ≡ none → converting m ≡ Ok (conversion (plant_of m)) → G) → G
  unfolding converted_or
  by_answer {G = G} f g i =
      by_test (held_model m) (λ h. go (unreplaced (model_of m)) refl h (tested m h)) (λ h. f h (unheld m h))
    where
      go : (o : Option ℕ) → unreplaced (model_of m) ≡ o → held_model m ≡ true → converting m ≡ converted_or (plant_of m) (unreplaced (model_of m)) → G
      go none u h e = i h u (e ∙ ap (converted_or (plant_of m)) u)
      go (some k) u h e = g h k u (e ∙ ap (converted_or (plant_of m)) u)

  -- 14 exactly where the model is not held
  pub refused_unheld : (converting m ≡ Err NotHeld) ↔ (held_model m ≡ false)
  refused_unheld = (
    λ e.
        by_answer (λ h a. h)
        (λ h k u a. let z : Err (Irreplaceable (suc k)) ≡ Err NotHeld = sym a ∙ e in let y : ◌≡◌ {A = ℕ} 0 1 = cc in absurd (omega arith))
        (λ h u a. ok_not (sym a ∙ e)),
    unheld m,
  )

  -- 21 exactly where an event of a held model cannot be replaced, beside it the number of the least such event
  pub refused_irreplaceable : (n : ℕ) → (converting m ≡ Err (Irreplaceable n)) ↔ ((held_model m ≡ true) × ((k : ℕ) × (n ≡ suc k) × LeastLacking k))
  unfolding converted_or
  refused_irreplaceable n = (
    λ e.
        by_answer (λ h a. let z : Err NotHeld ≡ Err (Irreplaceable n) = sym a ∙ e in let y : ◌≡◌ {A = ℕ} 0 1 = cc in absurd (omega arith))
        (λ h k u a. let z : Err (Irreplaceable (suc k)) ≡ Err (Irreplaceable n) = sym a ∙ e in (h, (k, cc, (unreplaced_least (model_of m) k).0 u)))
        (λ h u a. ok_not (sym a ∙ e)),
    λ (h, l). tested m h ∙ ap (converted_or (plant_of m)) ((unreplaced_least (model_of m) l.0).1 l.2) ∙ ap (λ n. Err (Irreplaceable n)) (sym l.1),
  )

  -- else the conversion
  pub converted_exactly : (c : Conversion) → (converting m ≡ Ok c) ↔ ((held_model m ≡ true) × AllReplaced × (c ≡ conversion (plant_of m)))
  unfolding converted_or
  converted_exactly c = (
    λ e.
        by_answer (λ h a. ok_not (sym e ∙ a)) (λ h k u a. ok_not (sym e ∙ a))
        (λ h u a. (h, (unreplaced_none (model_of m)).0 u, ap conversion_given (sym e ∙ a))),
    λ (h, l, q). tested m h ∙ ap (converted_or (plant_of m)) ((unreplaced_none (model_of m)).1 l) ∙ ap Ok (sym q),
  )

-- ---- the new numbers

module _ (m : Model) (held : held_model m ≡ true) where
  few : length (renumbered (model_of m) [] (model_of m).events) ≤ 64
  few = omega (arith, renumbered_long (model_of m) [] (model_of m).events, events-long m, most-events m (held-is m held))

  -- each event's, counted from 1
  pub numbers_at : (k : ℕ) → k < m.listed → get_or (hold_numbers (model_of m)) k 0 ≡ suc (new_index (model_of m) k)
  unfolding hold_indices new_index
  numbers_at k h =
      held_at suc 0 (renumbered (model_of m) [] (model_of m).events) 64 k 0 few (omega (arith, h, renumbered_long (model_of m) [] (model_of m).events, events-long m))

  -- and 0 past the last event
  pub numbers_past : (k : ℕ) → m.listed ≤ k → get_or (hold_numbers (model_of m)) k 0 ≡ 0
  unfolding hold_indices
  numbers_past k h =
      held_past suc 0 (renumbered (model_of m) [] (model_of m).events) 64 k few (omega (arith, h, renumbered_long (model_of m) [] (model_of m).events, events-long m))

-- ---- what is answered is held

module _ (m : Model) (sized : SizedModel m) (held : held_model m ≡ true) where
  right : right_plant (plant_of m) ≡ true
  right = held_right m sized (held-is m held)

  pub answer_held : held_model (conversion (plant_of m)).model ≡ true
  answer_held = hold_held (converted_plant (plant_of m)) (right_converted (plant_of m) right)

  -- as the model with `alone`
  pub answer_plant : plant_of (conversion (plant_of m)).model ≡ converted_plant (plant_of m)
  answer_plant = plant_of_hold (converted_plant (plant_of m)) (right_converted (plant_of m) right)

  -- and has its arrays in size
  pub answer_sized : SizedModel (conversion (plant_of m)).model
  answer_sized = hold_sized (converted_plant (plant_of m)) (right_converted (plant_of m) right)

  -- ---- a model with header 2 comes back as it is, with its own numbers

  own_indices : ((k : ℕ) → k < length (model_of m).events → new_index (model_of m) k ≡ k) → renumbered (model_of m) [] (model_of m).events ≡ listed (λ k. k) 0 m.listed
  unfolding new_index
  own_indices h =
      let l = renumbered (model_of m) [] (model_of m).events in
      let long : length l ≡ length (model_of m).events = renumbered_long (model_of m) [] (model_of m).events in
      sym (listed-is (λ k. k) l 0 (λ k b. sym (h k (omega (arith, long))))) ∙ rw (long, events-long m)

  pub convert_again : m.header ≡ 2 → converting m ≡ Ok (record { model = m; numbers = hold_indices (listed (λ k. k) 0 m.listed) })
  unfolding converted_or
  convert_again two =
      let d = model_of m in
      let busy = none_under (plant_of m) right two in
      let again = converted_again d busy in
      let all : unreplaced d ≡ none = (unreplaced_none d).1 (λ k h l. busy k l.own h l.idles) in
      let same : hold_plant (converted_plant (plant_of m)) ≡ m =
      ap₂ {C = Model} (λ h d. hold_plant (record { header = h; model = d })) (sym two) again.0 ∙ sym (held_again m sized (held-is m held)) in
      tested m held ∙ ap (converted_or (plant_of m)) all
      ∙ ap₂ {C = Result Conversion ConversionRefusal} (λ m n. Ok (record { model = m; numbers = n })) same (ap hold_indices (own_indices again.1))

-- ---- a marking held for the one is held for the other

module _ (p : Plant) where
  pub same_sizes : sizes_for (hold_plant (converted_plant p)) ≡ sizes_for (hold_plant p)
  unfolding sizes_in hold_plant converted
  same_sizes = refl

module _ (m : Model) (sized : SizedModel m) (held : held_model m ≡ true) where
  pub same_markings : (room : ℕ) (k : Marking) → held_in room (conversion (plant_of m)).model k ≡ held_in room m k
  unfolding held_in
  same_markings room k =
      let z : sizes_for (conversion (plant_of m)).model ≡ sizes_for m = same_sizes (plant_of m) ∙ ap sizes_for (sym (held_again m sized (held-is m held))) in
      rw (answer_held m sized held, held, z)
