-- What is promised, at the numbers that a caller from C gets.
use Prim.Native.Nat.{ℕ, ◌+◌, ◌≤◌, ◌<◌}
use mathlib.Core.Path.{◌≡◌, refl, ap, ap₂, sym, ◌∙◌}
use mathlib.Core.Logic.{◌↔◌}
use mathlib.Core.Bool.{Bool, true, false, cond, false≢true}
use mathlib.Core.List.{List, [], ◌∷◌, map}
use native.Mathlib.Omega.{arith}
use lib.Dec.{eqb}
use lib.IntN.{ℤ, pos, negsuc, nat_abs}
use lib.ListN.{length}
use borrow.Author.Tests.{ne_eqb, le-leb}
use Rattle.text.specs.Bytes.{Text, bytes}
use Rattle.text.specs.Lines.{got}
use Rattle.keeper.specs.Split.{above, below}
use Rattle.text.proofs.Unique.{was_printed}
use Rattle.eos.specs.Counted.{spelt}
use Rattle.eos.specs.Model as eos
use Rattle.eos.specs.Firing.{step_of, after}
use Rattle.eos.specs.Leaving.{Loses, LeaveEmpty}
use Rattle.eos.specs.Weights.{Weights, weigh, Passing}
use Rattle.model.specs.Limits.{longest, room_limit, cover_limit}
use Rattle.model.specs.Held.{hold_plant, model_of}
use Rattle.model.specs.Test.{held_model}
use Rattle.model.specs.declared.Model.{Model}
use Rattle.marking.specs.Held.{hold_marking}
use Rattle.marking.specs.Reading.{read_start, right_start}
use Rattle.marking.specs.Printed.{block_text, marking_text}
use Rattle.marking.specs.Sizes.{sizes_for}
use Rattle.marking.specs.declared.Marking.{Marking}
use Rattle.marking.proofs.BlockExactly.{start_exactly}
use Rattle.reader.specs.Reading.{Loaded, bounds, read_model, read_marking, right_loaded}
use Rattle.reader.specs.Printed.{model_text}
use Rattle.reader.specs.Answers.{triple, read_triple, loaded, model_reading, marking_reading, held_both, lay_whole, marking_writing, model_given}
use Rattle.reader.specs.declared.ModelReading.{ModelReading}
use Rattle.reader.proofs.EndLaws.{ended}
use Rattle.reader.proofs.ReadsWhatItSays.{reads_what_marking_says}
use Rattle.reader.proofs.HeldExactly.{accepted_is_printed}
use Rattle.step.specs.Reading.{read_step}
use Rattle.runner.specs.Answers.{step_triple, stepping, Stepped, unfired_triple}
use Rattle.runner.proofs.StepAnswers.{step-held}
use Rattle.runner.proofs.FiresExactly.{Brings, fires_exactly, unfired≢fired}
use Rattle.runner_trace.specs.Running.{running}
use Rattle.keeper.specs.Reading.{read_weight_file}
use Rattle.keeper.specs.Answers.{weight_triple, weight_checking, check_given}
use Rattle.keeper.specs.Covering.{Covering}
use Rattle.keeper.proofs.WeightsExactly.{weights_exactly, sum_exactly, cover_exactly}
use Rattle.spread.specs.Call.{spread_call}
use Rattle.listing.specs.Listing.{listing_text}
use Rattle.eos.proofs.LeavingLaws.{leaves_empty}
use Rattle.capi.specs.Calls.{model_converted, model_read, marking_read, written_to_c, weights_checked, step_done, run_done, shared}
use Rattle.capi.specs.declared.ModelRead.{ModelRead}
use Rattle.capi.specs.declared.Weighed.{Weighed}
use Rattle.promises.specs.WholeRun.{left_by, answers_of, says_fired, racks, Covered}
use Rattle.promises.specs.Numbers.{model_numbers, marking_numbers, weight_numbers, step_numbers, Lent, Numbered, untested, step_tests, weight_tests, RunNumbered, WriteNumbered, ConvertNumbered, SpreadNumbered}
use Rattle.promises.proofs.ConvertNumbers.{convert_number}
use Rattle.converter.specs.Answers.{converting}
use Rattle.promises.specs.ToC.{left_to_c, numbers_to_c, CoveredToC, WholeRunToC}
use Rattle.promises.proofs.CallNumbers.{model-number, marking_number, step-number, weight_number, held-fired, weight_passed}
use Rattle.promises.proofs.RunNumbers.{run-number, laid-number, write_number, spread-number}
use Rattle.promises.proofs.WholeRunLaws.{whole_run}
use Rattle.std.specs.Prelude.{Ok, Result, Err}
use Rattle.reader.specs.declared.ReadRefusal.{ReadRefusal}
use Rattle.runner.specs.declared.StepRefusal.{StepRefusal}
use Rattle.keeper.specs.declared.WeightCheck.{WeightCheck}
use Rattle.keeper.specs.declared.WeightRefusal.{WeightRefusal}

-- ---- the numbers, call by call: each is the triple of the call's own answer

pub model_number_to_c : (s : Text) → let r = model_read (model_reading s) in Numbered model_numbers longest s true (read_model s) untested (triple r.number r.beside r.column)
model_number_to_c = model-number

pub marking_number_to_c : (m : Model) (s : Text) → let r = marking_read (marking_reading m s) in
    Numbered marking_numbers longest s (held_model m) (read_marking (sizes_for m) s) untested (triple r.number r.beside r.column)
marking_number_to_c = marking_number

pub step_number_to_c : (m : Model) (k : Marking) (s : Text) → let r = step_done (stepping m k s) in
    Numbered step_numbers longest s (held_both m k) (read_step bounds (sizes_for m) m.listed s 0) (step_tests (model_of m) (racks m k)) (triple r.number r.beside r.column)
step_number_to_c = step-number

pub weight_number_to_c : (m : Model) (k : Marking) (s : Text) → let r = weights_checked (weight_checking m k s) in
    Numbered weight_numbers longest s (held_both m k) (read_weight_file (model_of m) s) (weight_tests (2 + length (model_of m).nets) (model_of m)) (triple r.number r.beside r.column)
weight_number_to_c = weight_number

pub run_number_to_c : (m : Model) (k : Marking) (s : Text) → let r = run_done (running m k s) in RunNumbered m k s (triple r.number r.beside r.column)
run_number_to_c = run-number

pub write_number_to_c : (m : Model) (k : Marking) (out : List ℕ) → let r = (written_to_c (marking_writing m k out)).answer in
    WriteNumbered (held_both m k) (marking_text (racks m k)) (length out) (triple r.number r.beside r.column)
write_number_to_c = write_number

pub listing_number_to_c : (model weights trace : Text) (out : List ℕ) → let r = (written_to_c (lay_whole (listing_text model weights trace) out)).answer in
    WriteNumbered true (listing_text model weights trace) (length out) (triple r.number r.beside r.column)
listing_number_to_c model weights trace out = laid-number (listing_text model weights trace) out

pub spread_number_to_c : (n k : ℕ) → let r = shared (spread_call n k) in SpreadNumbered n k (triple r.number r.beside r.column)
spread_number_to_c = spread-number

pub convert_number_to_c : (m : Model) → let r = model_converted (converting m) in ConvertNumbered m (triple r.number r.beside r.column)
convert_number_to_c = convert_number

-- ---- reading a model

-- the number 0 is an accepted model
accepted_zero : (s : Text) → (read_triple (model_reading s)).number ≡ 0 → (r : ModelReading) × (model_reading s ≡ Ok r)
unfolding model_reading loaded
accepted_zero s z =
    let (w, l, next, b, c) = (model-number s).good.0 z in
    (model_given (model_reading s), rw (le-leb (length s) longest w.short, model_reading, b))

accepted_to_c : (o : Result ModelReading ReadRefusal) (r : ModelReading) (m : Model) (k : Marking) → o ≡ Ok r
    → model_read o ≡ record { number = 0; beside = 0; column = 0; model = m; start = k } → o ≡ Ok (record { model = m; start = k })
accepted_to_c o r m k a e =
    let f : model_read (Ok r) ≡ record { number = 0; beside = 0; column = 0; model = m; start = k } = ap model_read (sym a) ∙ e in
    a ∙ (λ i. Ok (record { model = (f i).model; start = (f i).start }))

-- the reading answers 0 exactly where the text is the printed text of a right model and of its start, and gives these as they are held
pub model_to_c : (s : Text) (m : Model) (k : Marking) → (model_read (model_reading s) ≡ record { number = 0; beside = 0; column = 0; model = m; start = k })
    ↔ ((l : Loaded) × (s ≡ model_text l) × (right_loaded l ≡ true) × (length s ≤ longest) × (m ≡ hold_plant l.plant) × (k ≡ hold_marking (eos.canonical (spelt l.start))))
model_to_c s m k = (
  λ e. let a = accepted_zero s (ap (λ (r : ModelRead). r.number) e) in (accepted_is_printed s m k).0 (accepted_to_c (model_reading s) a.0 m k a.1 e),
  λ h. ap model_read ((accepted_is_printed s m k).1 h),
)

-- ---- reading a marking

-- the reading answers 0 exactly where the model is held and the text is the printed text of right lines, with room for their net-tokens
pub marking_to_c : (m : Model) (s : Text) → ((marking_read (marking_reading m s)).number ≡ 0)
    ↔ (Lent longest s (held_model m) × (ls : eos.Lines) × (s ≡ block_text (bytes "start=") ls) × (right_start room_limit bounds (sizes_for m) ls ≡ true))
marking_to_c m s =
    let z = sizes_for m in (
      λ e.
          let (w, ls, next, b, c) = (marking_number m s).good.0 e in
          let p = ended (read_start room_limit bounds z s 0) s ls next b in
          let q = was_printed (read_start room_limit bounds z) (block_text (bytes "start=")) (right_start room_limit bounds z) (λ s. start_exactly bounds z s room_limit) s ls next p.0 p.1 in
          (w, ls, q.0, q.1),
      λ (w, ls, e, r). (marking_number m s).good.1 (w, ls, length s, (reads_what_marking_says z s ls).1 (e, r), λ i. refl),
    )

-- ---- a step

-- the number 0 is a step that fired
fired_zero : (m : Model) (k : Marking) (s : Text) → (step_triple (stepping m k s).answer).number ≡ 0
    → Lent longest s (held_both m k) × (next : ℕ) × ((stepping m k s).answer ≡ Ok next)
fired_zero m k s z =
    let w = ((step-number m k s).good.0 z).0 in
    let same = ap (λ (r : Stepped). r.answer) (step-held m k s w.short w.is_held) in
    let f = held-fired m k s w.short (ap (λ (a : Result ℕ StepRefusal). (step_triple a).number) same ∙ z) in
    (w, f.0, sym same ∙ f.1)

-- the step call answers 0 exactly where the text brings a step that the rule allows and that leaves room
pub step_to_c : (m : Model) (k : Marking) (s : Text) → ((step_done (stepping m k s)).number ≡ 0)
    ↔ (Lent longest s (held_both m k) × (next : ℕ) × Brings m k s next)
step_to_c m k s = (
  λ z. let (w, next, f) = fired_zero m k s z in (w, next, (fires_exactly m k s next w.is_held w.short).only f),
  λ (w, next, b). ap (λ (a : Result ℕ StepRefusal). (step_triple a).number) ((fires_exactly m k s next w.is_held w.short).always b),
)

-- and then it says the bytes used and returns the marking after the step
pub fired_to_c : (m : Model) (k : Marking) (s : Text) (next : ℕ) → Lent longest s (held_both m k) → (b : Brings m k s next)
    → step_done (stepping m k s) ≡ record { number = 0; beside = 0; column = 0; used = next; marking = hold_marking (eos.canonical (after (step_of b.step) (racks m k))) }
fired_to_c m k s next w b =
    let x = fires_exactly m k s next w.is_held w.short in
    let p = x.always b in
    let q = x.after_it b in
    λ i. step_done (record { answer = p i; marking = q i })

-- the racks of a net of which the step gives none have left empty but for what its own event takes
pub leaving_to_c : (m : Model) (k : Marking) (s : Text) → (step_done (stepping m k s)).number ≡ 0 → (next : ℕ) × (b : Brings m k s next)
    × ((n : ℕ) → let e = eos.event (model_of m) b.step.event in
    n < length (model_of m).nets → Loses (model_of m) e n → LeaveEmpty (model_of m) e (step_of b.step).taken (step_of b.step).given n)
leaving_to_c m k s z =
    let (w, next, b) = (step_to_c m k s).0 z in
    (next, b, λ n known loses. leaves_empty (model_of m) (eos.event (model_of m) b.step.event) (step_of b.step).taken (step_of b.step).given n known loses b.enabled)

-- ---- weights

-- the weight check answers 0 exactly where the file says weights that pass
pub weights_to_c : (m : Model) (k : Marking) (s : Text) → ((weights_checked (weight_checking m k s)).number ≡ 0)
    ↔ (Lent longest s (held_both m k) × (w : Weights) × (x : ℕ) × (read_weight_file (model_of m) s ≡ got w x) × Passing (model_of m) w)
weights_to_c m k s = (
  λ z.
      let u = ((weight_number m k s).good.0 z).0 in
      let (w, x, e, p) = (weights_exactly m k s u.is_held u.short).0 (weight_passed m k s z) in
      (u, w, x, e, p),
  λ (u, w, x, e, p). ap (λ (a : Result WeightCheck WeightRefusal). (weight_triple a).number) ((weights_exactly m k s u.is_held u.short).1 (w, x, e, p)).1,
)

cover_one : (b : Bool) → ◌≡◌ {A = ℕ} (cond b 1 0) 1 ↔ (b ≡ true)
cover_one true = (λ _. refl, λ _. refl)
cover_one false = (λ e. absurd (omega (arith, e)), λ e. absurd (false≢true e))

-- and then says their sum, and cover 1 exactly where they cover
pub passed_to_c : (m : Model) (k : Marking) (s : Text) → Lent longest s (held_both m k) → (w : Weights) (x : ℕ) → read_weight_file (model_of m) s ≡ got w x
    → Passing (model_of m) w
    → ((weights_checked (weight_checking m k s)).above ≡ above (weigh (model_of m) w (racks m k)))
    × ((weights_checked (weight_checking m k s)).below ≡ below (weigh (model_of m) w (racks m k)))
    × (((weights_checked (weight_checking m k s)).cover ≡ 1) ↔ Covering cover_limit w (nat_abs (weigh (model_of m) w (racks m k))))
passed_to_c m k s u w x e p =
    let sum = sum_exactly m k s u.is_held u.short w x e p in
    let cover = cover_exactly m k s u.is_held u.short w x e p in
    let one = cover_one (check_given (weight_checking m k s)).cover in
    (ap above sum, ap below sum, (λ h. cover.0 (one.0 h), λ c. one.1 (cover.1 c)))

-- ---- demand 3

said_zero : (m : Model) (k : Marking) (s : Text) → eqb (step_triple (stepping m k s).answer).number 0 ≡ says_fired (stepping m k s).answer
said_zero m k s = go (stepping m k s).answer (λ z. let (w, n, e) = fired_zero m k s z in (n, e))
  where
    go : (a : Result ℕ StepRefusal) → ((step_triple a).number ≡ 0 → (n : ℕ) × (a ≡ Ok n)) → eqb (step_triple a).number 0 ≡ says_fired a
    go (Ok n) h = refl
    go (Err e) h = ne_eqb (unfired_triple e).number 0 (λ z. unfired≢fired (h z).1)

module _ (m : Model) where
  left_to_c_lem : (texts : List Text) (k : Marking) → left_to_c m k texts ≡ left_by m k texts
  unfolding left_to_c left_by
  left_to_c_lem [] k = refl
  left_to_c_lem (s ∷ texts) k = left_to_c_lem texts (stepping m k s).marking

  zeros_to_c : (texts : List Text) (k : Marking) → map (λ n. eqb n 0) (numbers_to_c m k texts) ≡ map says_fired (answers_of m k texts)
  unfolding numbers_to_c answers_of
  zeros_to_c [] k = refl
  zeros_to_c (s ∷ texts) k = ap₂ ◌∷◌ (said_zero m k s) (zeros_to_c texts (stepping m k s).marking)

-- a number is said by its part above 0 and its part below 0
by_parts : (a b : ℤ) → above a ≡ above b → below a ≡ below b → a ≡ b
by_parts (pos m) (pos n) p q = ap pos p
by_parts (pos m) (negsuc n) p q = absurd (omega (arith, q))
by_parts (negsuc m) (pos n) p q = absurd (omega (arith, q))
by_parts (negsuc m) (negsuc n) p q = ap negsuc {x = m} {y = n} (omega (arith, q))

covered : (text file : Text) (m : Model) (k : Marking) (sum : ℤ) → CoveredToC text file m k sum → Covered text file m k sum
covered text file m k sum c =
    let a = accepted_zero text (ap (λ (r : ModelRead). r.number) c.accepted) in
    let p = weight_passed m k file (ap (λ (r : Weighed). r.number) c.passed) in
    let f : weights_checked (Ok p.0) ≡ _ = ap weights_checked (sym p.1) ∙ c.passed in
    let z : p.0.sum ≡ sum = by_parts p.0.sum sum (ap (λ (r : Weighed). r.above) f) (ap (λ (r : Weighed). r.below) f) in
    let q : p.0.cover ≡ true = (cover_one p.0.cover).0 (ap (λ (r : Weighed). r.cover) f) in
    record {
      accepted = accepted_to_c (model_reading text) a.0 m k a.1 c.accepted;
      passed = p.1 ∙ ap₂ {C = Result WeightCheck WeightRefusal} (λ (x : ℤ) (y : Bool). Ok (record { sum = x; cover = y })) z q;
    }

-- demand 3 at the numbers
pub whole_run_to_c : (text file : Text) (m : Model) (k : Marking) (sum : ℤ) → CoveredToC text file m k sum → (texts : List Text)
    → WholeRunToC text file m k sum texts
whole_run_to_c text file m k sum c texts =
    let run = whole_run text file m k sum (covered text file m k sum c) texts in
    record { run = run; left = left_to_c_lem m texts k; fired = zeros_to_c m texts k ∙ run.fired }
