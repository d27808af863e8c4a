-- Demand 3: every list of step calls, from a model text that was accepted and weights that passed for it with cover 1, is a whole run.
use Prim.Native.Nat.{ℕ, ◌/◌, ◌≤◌, ◌<◌}
use mathlib.Core.Path.{◌≡◌, refl, ap, ap₂, sym, ◌∙◌}
use mathlib.Core.Bool.{Bool, true, false, false≢true}
use mathlib.Core.List.{List, [], ◌∷◌, map}
use native.Mathlib.Omega.{arith}
use lib.IntN.{ℤ, pos, nat_abs}
use lib.ListN.{length, get_or, get_or-map}
use Rattle.text.specs.Bytes.{Text}
use Rattle.text.specs.Lines.{got}
use Rattle.eos.specs.Counted.{spelt}
use Rattle.eos.specs.Model as eos
use Rattle.eos.specs.Firing.{outer, inner}
use Rattle.eos.specs.Weights.{weigh}
use Rattle.eos.specs.Run.{has_fired, calls_held, calls_refused, Faithful}
use Rattle.eos.proofs.Basics.{true_is}
use Rattle.eos.proofs.RunLaws.{demand_3}
use Rattle.model.specs.Limits.{room_limit, cover_limit}
use Rattle.model.specs.Held.{hold_plant, model_of}
use Rattle.model.specs.declared.Model.{Model}
use Rattle.model.proofs.HoldModel.{model_of_hold}
use Rattle.marking.specs.Held.{hold_marking, room_of}
use Rattle.marking.specs.declared.Marking.{Marking}
use Rattle.reader.specs.Reading.{Loaded, read_model, right_loaded}
use Rattle.reader.proofs.ReadsWhatItSays.{reads_what_it_says}
use Rattle.reader.proofs.HeldExactly.{accepted_is_printed}
use Rattle.runner.specs.Answers.{step_triple, stepping}
use Rattle.keeper.specs.Answers.{weight_checking}
use Rattle.keeper.proofs.WeightsExactly.{covers_parts}
use Rattle.promises.specs.WholeRun.{brings, own_run, own_fired, left_by, answers_of, says_fired, racks, Covered, WholeRun}
use Rattle.promises.proofs.BringLaws.{brings-known}
use Rattle.promises.proofs.AgreeLaws.{cause_of, call, holdable-tokens, agrees}
use Rattle.promises.proofs.PremiseLaws.{Balances, model_right, start-made, start_balances}
use Rattle.std.specs.Prelude.{Ok, Result, Err}
use Rattle.runner.specs.declared.StepRefusal.{StepRefusal}
use Rattle.runner.specs.declared.StepRefusal.TheVariants.{Unread}
use Rattle.reader.specs.declared.ReadRefusal.TheVariants.{NotHeld}

-- ---- the step calls, as an engine's calls

said_cause : (a : Result ℕ StepRefusal) → says_fired a ≡ has_fired (cause_of a)
said_cause (Ok n) = refl
said_cause (Err e) = refl

module _ (m : Model) where
  left-held : (texts : List Text) (k : Marking) → left_by m k texts ≡ calls_held (call m) texts k
  unfolding left_by calls_held
  left-held [] k = refl
  left-held (s ∷ texts) k = left-held texts (stepping m k s).marking

  said_fired : (texts : List Text) (k : Marking) → map says_fired (answers_of m k texts) ≡ map has_fired (calls_refused (call m) texts k)
  unfolding answers_of calls_refused
  said_fired [] k = refl
  said_fired (s ∷ texts) k = ap₂ ◌∷◌ (said_cause (stepping m k s).answer) (said_fired texts (stepping m k s).marking)

-- a call that said fired has number 0
fired-number : (a : Result ℕ StepRefusal) → says_fired a ≡ true → (step_triple a).number ≡ 0
fired-number (Ok n) h = refl
fired-number (Err e) h = absurd (false≢true h)

-- no call
abbrev none_said : Result ℕ StepRefusal
none_said = Err (Unread NotHeld)

-- and so has the call at an index at which the run fired
number_at : (l : List (Result ℕ StepRefusal)) (fs : List Bool) → map says_fired l ≡ fs → (i : ℕ) → get_or fs i false ≡ true → (step_triple (get_or l i none_said)).number ≡ 0
number_at l fs e i h =
    fired-number (get_or l i none_said) (sym (get_or-map says_fired l i none_said) ∙ ap (λ (bs : List Bool). get_or bs i false) e ∙ h)

-- ---- the run from a right model and its start

module _ (l : Loaded) (right : right_loaded l ≡ true) (file : Text) (sum : ℤ) (b : Balances l.plant.model (spelt l.start) file sum) (texts : List Text) where
  abbrev d : eos.Model
  d = l.plant.model

  abbrev m : Model
  m = hold_plant l.plant

  abbrev k : Marking
  k = hold_marking (eos.canonical (spelt l.start))

  faithful : Faithful cover_limit (room_of room_limit) d b.weights (nat_abs sum) (brings d) hold_marking (call m) (spelt l.start) texts
  faithful =
      demand_3 cover_limit (room_of room_limit) d b.weights (nat_abs sum) (brings d) hold_marking (call m) b.shaped b.passing.balanced (true_is b.covering)
      (omega arith) (omega arith) (brings-known d) (agrees _ d (model_right l right)) (spelt l.start) (start-made l right) (b.sum_is ∙ b.whole) texts

  held-run : left_by m k texts ≡ hold_marking (eos.canonical (own_run l texts))
  held-run = left-held m texts k ∙ faithful.held

  racks-run : racks m (left_by m k texts) ≡ eos.canonical (own_run l texts)
  racks-run = ap (racks m) held-run ∙ holdable-tokens _ d (model_right l right) (eos.canonical (own_run l texts)) faithful.holdable

  fired-run : map says_fired (answers_of m k texts) ≡ own_fired l texts
  fired-run = said_fired m texts k ∙ faithful.fired

  -- what holds of the run's marking holds of the racks held
  back : model_of m ≡ d
  back = model_of_hold l.plant (model_right l right)

  sum-run : weigh (model_of m) b.weights (racks m (left_by m k texts)) ≡ sum
  sum-run = rw (back, racks-run) faithful.kept ∙ sym b.whole

  outer-run : (p : ℕ) → p < m.places
      → get_or (outer (model_of m) (racks m (left_by m k texts))) p 0 ≤ nat_abs sum / nat_abs (get_or b.weights.outward p (pos 0))
  unfolding hold_plant
  outer-run p h = rw (back, racks-run) (faithful.outer-most p h)

  inner-run : (n i : ℕ) → n < m.nets → i < (eos.net (model_of m) n).size
      → get_or (inner (model_of m) n (racks m (left_by m k texts))) i 0 ≤ nat_abs sum / nat_abs (get_or (get_or b.weights.inward n []) i (pos 0))
  unfolding hold_plant
  inner-run n i h j = rw (back, racks-run) (faithful.inner-most n i h (rw back at j))

  run : (text : Text) → read_model text ≡ got l (length text) → WholeRun text file m k sum texts
  run text says =
      let zero = number_at (answers_of m k texts) (own_fired l texts) fired-run in
      record {
        loaded = l;
        weights = b.weights;
        says = says;
        weighs = b.weighs;
        covering = (covers_parts cover_limit b.weights (nat_abs sum)).0 b.covering;
        held = held-run;
        fired = fired-run;
        room = λ i h. (λ e. omega (arith, zero i h), λ e. omega (arith, zero i h));
        kept = sum-run;
        whole = b.whole;
        outer-most = outer-run;
        inner-most = inner-run;
      }

-- ---- demand 3

-- the same of an equal model and an equal marking
run_as : (text file : Text) (m n : Model) (k j : Marking) (sum : ℤ) (texts : List Text) → m ≡ n → k ≡ j → WholeRun text file n j sum texts
    → WholeRun text file m k sum texts
run_as text file m n k j sum texts p q h = rw (p, q) h

passed_as : (file : Text) (m n : Model) (k j : Marking) (sum : ℤ) → m ≡ n → k ≡ j
    → weight_checking m k file ≡ Ok (record { sum = sum; cover = true }) → weight_checking n j file ≡ Ok (record { sum = sum; cover = true })
passed_as file m n k j sum p q h = rw (p, q) at h

-- the model text was accepted and the weight file passed with cover 1; then every list of step calls is a whole run
pub whole_run : (text file : Text) (m : Model) (k : Marking) (sum : ℤ) → Covered text file m k sum → (texts : List Text) → WholeRun text file m k sum texts
whole_run text file m k sum c texts =
    let (l, printed, right, short, model_is, start_is) = (accepted_is_printed text m k).0 c.accepted in
    let n = hold_plant l.plant in
    let j = hold_marking (eos.canonical (spelt l.start)) in
    let b = start_balances l right file sum (passed_as file m n k j sum model_is start_is c.passed) in
    run_as text file m n k j sum texts model_is start_is (run l right file sum b texts text ((reads_what_it_says text l).1 (printed, right)))
