-- The triples of a listing are small numbers: a cause of the table, beside it a line, an event or a net, and a column.
use Prim.Native.Nat.{ℕ, zero, suc, ◌+◌, ◌^◌, ◌≤◌, ◌<◌}
use mathlib.Core.Path.{◌≡◌, refl}
use mathlib.Core.Bool.{Bool, true, false}
use mathlib.Core.List.{[], ◌∷◌}
use mathlib.Core.Option.{Option, none, some}
use native.Mathlib.Omega.{arith}
use lib.Dec.{leb, eqb, lit<}
use lib.ListN.{length, take, drop, length-drop, length-take}
use borrow.Author.Tests.{leb-true}
use Rattle.text.specs.Bytes.{Text, bytes, lf, newlines}
use Rattle.text.specs.Lines.{Outcome, got, bad, read_head, cause_number}
use Rattle.text.specs.declared.Fault.{Fault}
use Rattle.text.proofs.Basics.{by_test}
use Rattle.eos.specs.Model as eos
use Rattle.eos.specs.Firing.{Written}
use Rattle.eos.specs.Causes.{Refusal, Cause, taking, giving, short, unequal, missing, crowded, at, failing, causes, refusal}
use Rattle.eos.proofs.FirstLaws.{first-each, unless-each, at_each, failing-least, lacking-within}
use Rattle.eos.specs.Weights.{Weights, weigh, WeightCause, weightless, unbalanced, weight_refusal}
use Rattle.model.specs.Limits.{longest, room_limit, cover_limit}
use Rattle.model.specs.Held.{model_of}
use Rattle.model.specs.declared.Model.{Model}
use Rattle.marking.specs.Held.{Sizes, hold_marking, tokens_of, has_room}
use Rattle.marking.specs.Sizes.{sizes_for}
use Rattle.marking.specs.declared.Marking.{Marking}
use Rattle.reader.specs.Reading.{bounds, Loaded, read_model}
use Rattle.reader.specs.Answers.{unread_triple, read_triple, faulty, loaded, held_both, model_reading}
use Rattle.step.proofs.StepFaults.{step_faults}
use Rattle.text.proofs.LineCounts.{spot-within}
use Rattle.text.proofs.FaultLaws.{Faults, head_faults}
use Rattle.step.specs.Reading.{read_step}
use Rattle.step.specs.Verdict.{cause_triple}
use Rattle.runner.specs.Answers.{Tried, fires, stops, step_judged, read_then, tried, unfired_triple, step_triple}
use Rattle.runner.proofs.RuledLaws.{read_right}
use Rattle.runner_trace.specs.Running.{onward, run_from, headed, run_where_held, running, Ran}
use Rattle.keeper.specs.Reading.{read_weight_file}
use Rattle.keeper.specs.Answers.{weight_triple, weight_cause_triple, passed_weights, turned_or, judged_weights, weighed, weights_or, weight_checking}
use Rattle.listing.specs.Listing.{file_longest, model_file, weights_file, trace_file}
use Rattle.listing.proofs.FileFaults.{weight_file_faults, model_faults}

-- numbers that fit the line of a triple
abbrev pub Small : Refusal → Type 0
Small r = (r.number < 2 ^ 8) × (r.beside < 2 ^ 64) × (r.column < 2 ^ 64)

-- ---- a fault

newlines-few : (s : Text) → newlines s ≤ length s
unfolding newlines
newlines-few [] = omega arith
newlines-few (b ∷ s) =
    by_test (eqb b lf)
    (λ h. rw (h, newlines) (omega (arith, newlines-few s)))
    (λ h. rw (h, newlines) (omega (arith, newlines-few s)))

spot_small : (s : Text) → length s ≤ file_longest → (e : Fault) → cause_number e.cause < 100 → Small (unread_triple (faulty s e))
spot_small s few e h = (omega arith, omega (arith, newlines-few (take e.at s), length-take e.at s), omega (arith, spot-within s e))

-- ---- a model's answer

-- a cause of two digits at most
abbrev Digits : ℕ → Type 0
Digits why = why < 100

loaded-small : (s : Text) → length s ≤ file_longest → (o : Outcome Loaded) → Faults Digits o → Small (read_triple (loaded s o))
unfolding loaded
loaded-small s few (got l x) d = (omega arith, omega arith, omega arith)
loaded-small s few (bad e) d = spot_small s few e d

pub model-small : (s : Text) → Small (read_triple (model_file s))
unfolding model_file model_reading
model-small s =
    by_test (leb (length s) file_longest)
    (λ t. by_test (leb (length s) longest)
    (λ u. rw (t, model_file, u, model_reading) (loaded-small s (leb-true (length s) file_longest t) (read_model s) (model_faults Digits (lit< tt) s (lit< tt) (lit< tt) (lit< tt))))
    (λ u. rw (t, model_file, u, model_reading) (omega arith, omega arith, omega arith)))
    (λ t. rw (t, model_file) (omega arith, omega arith, omega arith))

-- what holds of a cause, if there is one
abbrev Holds : {C : Type 0} → (C → Type 0) → Option C → Type 0
Holds {C = C} P o = (c : C) → o ≡ some c → P c

-- ---- the weights' answer

module _ (m : eos.Model) (nets : length m.nets ≤ 8) (events : length m.events ≤ 64) where
  abbrev last_line : ℕ
  last_line = 2 + length m.nets

  cause_small : (w : Weights) → Holds (λ c. Small (weight_cause_triple last_line c)) (weight_refusal m w)
  unfolding weight_refusal
  cause_small w =
      let P : WeightCause → Type 0 = λ c. Small (weight_cause_triple last_line c) in
      first-each P _ (
        unless-each P _ weightless (omega arith, omega arith, omega arith),
        (at_each P unbalanced _ (λ i e. let h = (failing-least (length m.events) _ i e).within in (omega arith, omega (arith, h), omega arith)), tt),
      )

  turned-small : (w : Weights) (z : _) (o : Option WeightCause) → Holds (λ c. Small (weight_cause_triple last_line c)) o
      → Small (weight_triple (turned_or last_line o (passed_weights cover_limit w z)))
  unfolding turned_or
  turned-small w z none h = (omega arith, omega arith, omega arith)
  turned-small w z (some c) h = h c refl

  weighed-small : (μ : eos.Marking) (s : Text) → length s ≤ file_longest → (o : Outcome Weights) → Faults Digits o → Small (weight_triple (weighed cover_limit m μ s o))
  unfolding weighed judged_weights
  weighed-small μ s few (got w x) d = turned-small w (weigh m w μ) (weight_refusal m w) (cause_small w)
  weighed-small μ s few (bad e) d = spot_small s few e d

module _ (m : Model) (nets : length (model_of m).nets ≤ 8) where
  module _ (events : length (model_of m).events ≤ 64) (k : Marking) where
    tested_small : (b : Bool) (s : Text) → length s ≤ file_longest → Small (weight_triple (weights_or b m k s))
    unfolding weights_or
    tested_small true s few =
        weighed-small (model_of m) nets events (tokens_of (sizes_for m) k) s few (read_weight_file (model_of m) s) (weight_file_faults Digits (lit< tt) s (lit< tt) (model_of m))
    tested_small false s few = (omega arith, omega arith, omega arith)

    pub weights-small : (s : Text) → Small (weight_triple (weights_file m k s))
    unfolding weights_file weight_checking
    weights-small s =
        by_test (leb (length s) file_longest)
        (λ t. by_test (leb (length s) longest)
        (λ u. rw (t, weights_file, u, weight_checking) (tested_small (held_both m k) s (leb-true (length s) file_longest t)))
        (λ u. rw (t, weights_file, u, weight_checking) (omega arith, omega arith, omega arith)))
        (λ t. rw (t, weights_file) (omega arith, omega arith, omega arith))

  -- ---- a run's stop, and how many steps fired

  abbrev d : eos.Model
  d = model_of m

  refusal-small : (t : Written) (μ : eos.Marking) → length t.taken ≤ 256
      → Holds (λ c. Small (cause_triple (length t.taken) c)) (refusal (has_room room_limit) d t μ)
  unfolding refusal causes
  refusal-small t μ few =
      let P : Cause → Type 0 = λ c. Small (cause_triple (length t.taken) c) in
      let net : (c : ℕ → Cause) (f : ℕ → Bool) → ((i : ℕ) → i < length d.nets → P (c i)) → Holds P (at c (failing (length d.nets) 0 f)) =
      λ c f h. at_each P c (failing (length d.nets) 0 f) (λ i e. h i (failing-least (length d.nets) f i e).within) in
      first-each P _ (
        unless-each P _ taking (omega arith, omega arith, omega arith),
        (
          unless-each P _ giving (omega arith, omega arith, omega arith),
          (
            net short _ (λ i h. (omega arith, omega arith, omega arith)),
            (
              net unequal _ (λ i h. (omega arith, omega arith, omega arith)),
              (
                at_each P missing _ (λ i e. let h = lacking-within μ t.taken i e in (omega arith, omega (arith, h), omega arith)),
                (unless-each P _ crowded (omega arith, omega arith, omega arith), tt),
              ),
            ),
          ),
        ),
      )

  -- what stops a run
  abbrev Stops : Tried → Type 0
  Stops (fires n μ) = Unit {0}
  Stops (stops a) = Small (unfired_triple a)

  judged-small : (t : Written) (μ : eos.Marking) (next : ℕ) (o : Option Cause) → Holds (λ c. Small (cause_triple (length t.taken) c)) o → Stops (step_judged μ t next o)
  unfolding step_judged
  judged-small t μ next none h = tt
  judged-small t μ next (some c) h = h c refl

  read_small : (z : Sizes) (μ : eos.Marking) (s : Text) → length s ≤ file_longest → (o : Outcome Written) → read_step bounds z (length d.events) s 0 ≡ o → Faults Digits o
      → Stops (read_then room_limit d μ s o)
  unfolding read_then
  read_small z μ s few (got t next) e h =
      judged-small t μ next (refusal (has_room room_limit) d t μ) (refusal-small t μ (read_right z (length d.events) s t next e).take-few)
  read_small z μ s few (bad b) e h = spot_small s few b h

  tried-small : (z : Sizes) (μ : eos.Marking) (s : Text) → length s ≤ file_longest → Stops (tried room_limit d z μ s)
  unfolding tried
  tried-small z μ s few = read_small z μ s few (read_step bounds z (length d.events) s 0) refl (step_faults Digits (lit< tt) (lit< tt) bounds z (length d.events) s 0)

  abbrev Ends : ℕ → Ran → Type 0
  Ends most r = Small (step_triple r.stop) × (r.fired ≤ most)

  onward-small : (most : ℕ) (rest : ℕ → eos.Marking → Ran) (n p : ℕ) (k : Marking) (s : Text) (t : Tried) → n ≤ most → Stops t
      → ((used : ℕ) (μ : eos.Marking) → Ends most (rest used μ)) → Ends most (onward rest n p k s t)
  unfolding onward
  onward-small most rest n p k [] t few h next = ((omega arith, omega arith, omega arith), few)
  onward-small most rest n p k (b ∷ s) (fires used μ) few h next = next used μ
  onward-small most rest n p k (b ∷ s) (stops a) few h next = (h, few)

  ends_as : (a b : ℕ) (r : Ran) → a ≤ b → Ends a r → Ends b r
  ends_as a b r e h = (h.0, omega (arith, h.1))

  from_small : (fuel : ℕ) (k : Marking) (s : Text) (n p : ℕ) → length s ≤ file_longest → Ends (n + fuel) (run_from fuel m k s n p)
  unfolding run_from
  from_small zero k s n p few = ((omega arith, omega arith, omega arith), omega arith)
  from_small (suc f) k s n p few =
      onward-small (n + suc f) _ n p k s _ (omega arith) (tried-small (sizes_for m) (tokens_of (sizes_for m) k) s few)
      (λ used μ. ends_as (n + 1 + f) (n + suc f) (run_from f m (hold_marking μ) (drop used s) (n + 1) (p + used)) (omega arith)
      (from_small f (hold_marking μ) (drop used s) (n + 1) (p + used) (omega (arith, length-drop used s))))

  headed-small : (k : Marking) (s : Text) → length s ≤ file_longest → (o : Outcome (Unit {0})) → Faults Digits o → Ends file_longest (headed m k s o)
  unfolding headed
  headed-small k s few (got v next) h =
      ends_as (0 + length s) file_longest (run_from (length s) m k (drop next s) 0 next) (omega arith) (from_small (length s) k (drop next s) 0 next (omega (arith, length-drop next s)))
  headed-small k s few (bad e) h = (spot_small s few e h, omega arith)

  run_small : (b : Bool) (k : Marking) (s : Text) → length s ≤ file_longest → Ends file_longest (run_where_held b m k s)
  unfolding run_where_held
  run_small true k s few = headed-small k s few (read_head (bytes "run=1\n") s 0) (head_faults Digits (lit< tt) (bytes "run=1\n") s 0)
  run_small false k s few = ((omega arith, omega arith, omega arith), omega arith)

  pub trace_small : (k : Marking) (s : Text) → Ends file_longest (trace_file m k s)
  unfolding trace_file running
  trace_small k s =
      by_test (leb (length s) file_longest)
      (λ t. by_test (leb (length s) longest)
      (λ u. rw (t, trace_file, u, running) (run_small (held_both m k) k s (leb-true (length s) file_longest t)))
      (λ u. rw (t, trace_file, u, running) ((omega arith, omega arith, omega arith), omega arith)))
      (λ t. rw (t, trace_file) ((omega arith, omega arith, omega arith), omega arith))
