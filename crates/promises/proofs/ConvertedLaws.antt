-- What the converter answers keeps what 02 says (K13), at what the calls answer.
use Prim.Native.Nat.{ℕ, ◌-◌, ◌<◌}
use mathlib.Core.Path.{◌≡◌, refl, ap, ap₂, sym, subst, ◌∙◌}
use mathlib.Core.Logic.{◌↔◌}
use mathlib.Core.Bool.{Bool, true, false, false≢true}
use mathlib.Core.List.{List, [], ◌∷◌}
use native.Mathlib.Omega.{arith}
use lib.Dec.{T, leb, ltb}
use borrow.Author.Tests.{lt-ltb, ltb-true}
use lib.ListN.{length, get_or}
use Rattle.text.specs.Bytes.{Text}
use Rattle.text.specs.Lines.{got}
use Rattle.text.proofs.Basics.{and_true}
use Rattle.text.proofs.TestLaws.{and_both}
use Rattle.eos.specs.Model as eos
use Rattle.eos.specs.Firing.{Written, step_of, fires, after}
use Rattle.eos.specs.Converting.{converted, new_index, IdlesTyped}
use Rattle.eos.specs.Weights.{Weights, weigh}
use Rattle.eos.proofs.FiringLaws.{fires_all}
use Rattle.eos.proofs.ConvertingLaws.{index_known}
use Rattle.eos.proofs.ConvertedLaws.{unreplaced_none, fires_converted, fires_original, weigh_converted, passing_converted}
use Rattle.model.specs.Limits.{longest, room_limit, cover_limit}
use Rattle.model.specs.Rules.{Plant}
use Rattle.model.specs.Held.{SizedModel, model_of, plant_of}
use Rattle.model.specs.Test.{held_model}
use Rattle.model.specs.declared.Model.{Model}
use Rattle.model.proofs.HeldTests.{held-is}
use Rattle.model.proofs.HeldRight.{held_right}
use Rattle.model.proofs.HeldBack.{held_again}
use Rattle.model.proofs.ShapeLaws.{events-long}
use Rattle.model_convert.proofs.RightLaws.{idles_typed}
use Rattle.marking.specs.Held.{Sizes, hold_marking, tokens_of}
use Rattle.marking.specs.Printed.{marking_text}
use Rattle.marking.specs.Sizes.{sizes_for}
use Rattle.marking.specs.declared.Marking.{Marking}
use Rattle.reader.specs.Reading.{bounds, read_marking}
use Rattle.reader.specs.Answers.{restored, marking_or, marking_reading, held_both, lay_whole, marking_writing}
use Rattle.step.specs.Reading.{read_step, right_step}
use Rattle.step.specs.Printed.{step_text}
use Rattle.step.proofs.StepExactly.{step_exactly}
use Rattle.runner.specs.Answers.{Stepped, stepping}
use Rattle.runner.specs.declared.StepRefusal.{StepRefusal}
use Rattle.runner.proofs.FiresExactly.{fires_exactly}
use Rattle.keeper.specs.Reading.{read_weight_file, read_weights_at, read_inner}
use Rattle.keeper.specs.Answers.{passed_weights, weight_checking}
use Rattle.keeper.specs.declared.WeightCheck.{WeightCheck}
use Rattle.keeper.proofs.WeightsExactly.{weights_exactly, passes}
use Rattle.converter.specs.Answers.{conversion, converting}
use Rattle.converter.specs.declared.Conversion.{Conversion}
use Rattle.converter.proofs.ConvertLaws.{AllReplaced, converted_exactly, numbers_at, answer_held, answer_plant, same_sizes, same_markings}
use Rattle.promises.specs.WholeRun.{says_fired}
use Rattle.promises.specs.Converted.{new_step, Fires, Lead, Reached, ConversionKeeps}
use Rattle.promises.proofs.StepLines.{was_lent, lines_fire}
use Rattle.promises.proofs.PremiseLaws.{passed_lent}
use Rattle.reader.specs.declared.ReadRefusal.{ReadRefusal}
use Rattle.reader.specs.declared.ReadRefusal.TheVariants.{TooLong}
use Rattle.reader.specs.declared.WriteRefusal.TheVariants.{Unheld}
use Rattle.std.specs.Prelude.{Ok, Err, Result}

-- ---- calls in turn, where each that fires in the one model has one that does so in the other

module _ (m n : Model) (each : (k : Marking) (s : Text) (used : ℕ) → (stepping m k s).answer ≡ Ok used → (t : Written) × Fires n k t (stepping m k s).marking) where
  one_leads : (k : Marking) (s : Text) (a : Result ℕ StepRefusal) → (stepping m k s).answer ≡ a → says_fired a ≡ true
      → (t : Written) × Fires n k t (stepping m k s).marking
  one_leads k s (Ok used) e f = each k s used e
  one_leads k s (Err x) e f = absurd (false≢true f)

  leads : (texts : List Text) (k j : Marking) → Lead m k texts j → Reached n k j
  leads [] k j e = ([], e)
  leads (s ∷ texts) k j (f, rest) =
      let (t, fire) = one_leads k s (stepping m k s).answer refl f in
      let (others, lead) = leads texts (stepping m k s).marking j rest in
      (step_text t ∷ others, (ap (λ (r : Stepped). says_fired r.answer) fire, rw fire lead))

-- ---- the conversion of a held model

module _ (m : Model) (sized : SizedModel m) (held : held_model m ≡ true) (all : AllReplaced m) where
  abbrev d : eos.Model
  d = model_of m

  abbrev c : Conversion
  c = conversion (plant_of m)

  abbrev new : Model
  new = c.model

  model_is : model_of new ≡ converted d
  model_is = ap (λ (p : Plant). p.model) (answer_plant m sized held)

  sizes_are : sizes_for new ≡ sizes_for m
  sizes_are = same_sizes (plant_of m) ∙ ap sizes_for (sym (held_again m sized (held-is m held)))

  held_same : (k : Marking) → held_both new k ≡ held_both m k
  held_same k = same_markings m sized held room_limit k

  tokens_same : (k : Marking) → tokens_of (sizes_for new) k ≡ tokens_of (sizes_for m) k
  tokens_same k = ap (λ (z : Sizes). tokens_of z k) sizes_are

  listed_is : new.listed ≡ length (converted d).events
  listed_is = sym (events-long new) ∙ ap (λ (e : eos.Model). length e.events) model_is

  typed : IdlesTyped d
  typed = idles_typed (plant_of m) (held_right m sized (held-is m held))

  -- ---- markings and weights

  reads : (s : Text) → marking_reading new s ≡ marking_reading m s
  unfolding marking_reading marking_or
  reads s =
      ap (λ (r : Result Marking ReadRefusal). elim (leb (length s) longest) [ true ↦ r | false ↦ Err TooLong ])
      (ap (λ (b : Bool). marking_or b new s) (answer_held m sized held ∙ sym held) ∙ tested (held_model m))
    where
      tested : (b : Bool) → marking_or b new s ≡ marking_or b m s
      tested true = ap (λ (z : Sizes). restored s (read_marking z s)) sizes_are
      tested false = refl

  writes : (k : Marking) (out : List ℕ) → marking_writing new k out ≡ marking_writing m k out
  unfolding marking_writing
  writes k out =
      ap₂ (λ (b : Bool) (z : Sizes). elim b [ true ↦ lay_whole (marking_text (tokens_of z k)) out | false ↦ record { answer = Err Unheld; bytes = out } ])
      (held_same k) sizes_are

  files_same : (s : Text) → read_weight_file (model_of new) s ≡ read_weight_file d s
  unfolding read_weights_at read_inner converted
  files_same s = ap (λ (e : eos.Model). read_weight_file e s) model_is

  sum_same : (w : Weights) (k : Marking) → weigh (model_of new) w (tokens_of (sizes_for new) k) ≡ weigh d w (tokens_of (sizes_for m) k)
  sum_same w k = rw (model_is, tokens_same k) (weigh_converted d w (tokens_of (sizes_for m) k))

  weights : (k : Marking) (file : Text) (w : WeightCheck) → (weight_checking m k file ≡ Ok w) ↔ (weight_checking new k file ≡ Ok w)
  weights k file w = (
    λ a.
        let (both, few) = passed_lent m k file w a in
        let (v, x, e, p) = (weights_exactly m k file both few).0 (w, a) in
        passes new k file (held_same k ∙ both) few v x (files_same file ∙ e) (rw model_is ((passing_converted d v).0 p))
        ∙ ap (λ z. Ok (passed_weights cover_limit v z)) (sum_same v k)
        ∙ sym (passes m k file both few v x e p) ∙ a,
    λ a.
        let (both, few) = passed_lent new k file w a in
        let (v, x, e, p) = (weights_exactly new k file both few).0 (w, a) in
        let old = sym (held_same k) ∙ both in
        passes m k file old few v x (sym (files_same file) ∙ e) ((passing_converted d v).1 (rw model_is at p))
        ∙ ap (λ z. Ok (passed_weights cover_limit v z)) (sym (sum_same v k))
        ∙ sym (passes new k file both few v x e p) ∙ a,
  )

  -- ---- steps

  number_is : (i : ℕ) → i < m.listed → get_or c.numbers i 0 - 1 ≡ new_index d i
  number_is i h = omega (arith, numbers_at m held i h)

  forth : (k : Marking) (s : Text) (n : ℕ) → (stepping m k s).answer ≡ Ok n
      → (t : Written) × (read_step bounds (sizes_for m) m.listed s 0 ≡ got t n) × Fires new k (new_step c t) (stepping m k s).marking
  unfolding right_step
  forth k s n a =
      let (both, few) = was_lent m k s n a in
      let x = fires_exactly m k s n both few in
      let b = x.only a in
      let t = b.step in
      let μ = tokens_of (sizes_for m) k in
      let right = ((step_exactly bounds (sizes_for m) m.listed s).back 0 t n b.read).fine-is in
      let parts = and_true (ltb t.event m.listed) _ right in
      let known = ltb-true t.event m.listed parts.0 in
      let index = index_known d t.event (omega (arith, known, events-long m)) in
      let fire = fires_converted d typed (step_of t) (omega (arith, known, events-long m)) μ (fires_all d (step_of t) μ b.enabled b.within) in
      let u : Written = record { event = new_index d t.event; taken = t.taken; given = t.given } in
      let told : new_step c t ≡ u = ap (λ (i : ℕ). record { event = i; taken = t.taken; given = t.given }) (number_is t.event known) in
      let fired : Fires new k u (hold_marking (eos.canonical (after (step_of t) μ))) = rw (← tokens_same k) (lines_fire new k (held_same k ∙ both) u
      (rw sizes_are (and_both (ltb (new_index d t.event) new.listed) _ (lt-ltb _ _ (omega (arith, index, listed_is))) parts.1))
      (rw (model_is, tokens_same k) fire) (rw (tokens_same k) b.room)) in
      (t, b.read, rw (told, x.after_it b) fired)

  back : (k : Marking) (s : Text) (n : ℕ) → (stepping new k s).answer ≡ Ok n
      → (t : Written) × (read_step bounds (sizes_for new) new.listed s 0 ≡ got (new_step c t) n) × Fires m k t (stepping new k s).marking
  unfolding right_step
  back k s n a =
      let (both, few) = was_lent new k s n a in
      let x = fires_exactly new k s n both few in
      let b = x.only a in
      let u = b.step in
      let μ = tokens_of (sizes_for m) k in
      let right = ((step_exactly bounds (sizes_for new) new.listed s).back 0 u n b.read).fine-is in
      let parts = and_true (ltb u.event new.listed) _ right in
      let fire : T (fires (converted d) (step_of u) μ) = rw (model_is, tokens_same k) at (fires_all (model_of new) (step_of u) (tokens_of (sizes_for new) k) b.enabled b.within) in
      let (i, known, index, old) = fires_original d typed ((unreplaced_none d).1 all) (step_of u) (omega (arith, ltb-true u.event new.listed parts.0, listed_is)) μ fire in
      let t : Written = record { event = i; taken = u.taken; given = u.given } in
      let told : u ≡ new_step c t = ap (λ (j : ℕ). record { event = j; taken = u.taken; given = u.given }) (sym index ∙ sym (number_is i (omega (arith, known, events-long m)))) in
      let fired = lines_fire m k (sym (held_same k) ∙ both) t
      (and_both (ltb i m.listed) _ (lt-ltb _ _ (omega (arith, known, events-long m))) (rw sizes_are at parts.1)) old (rw (tokens_same k) at b.room) in
      let marking = x.after_it b ∙ ap (λ (ν : eos.Marking). hold_marking (eos.canonical (after (step_of t) ν))) (tokens_same k) in
      (t, b.read ∙ ap (λ (v : Written). got v n) told, subst (Fires m k t) (sym marking) fired)

  reached : (k j : Marking) → Reached m k j ↔ Reached new k j
  reached k j = (
    λ (texts, lead). leads m new (λ k s n a. let f = forth k s n a in (new_step c f.0, f.2)) texts k j lead,
    λ (texts, lead). leads new m (λ k s n a. let b = back k s n a in (b.0, b.2)) texts k j lead,
  )

  keeps : ConversionKeeps m c
  keeps = record { held = held_same; reads = reads; writes = writes; weights = weights; forth = forth; back = back; reached = reached }

-- what the converter answers keeps all of it
pub conversion_keeps : (m : Model) → SizedModel m → (c : Conversion) → converting m ≡ Ok c → ConversionKeeps m c
conversion_keeps m sized c e =
    let (held, all, is) = (converted_exactly m c).0 e in
    subst (ConversionKeeps m) (sym is) (keeps m sized held all)
