-- The calls' numbers: each call on a text goes by 01's order, with the causes that the table gives it.
use Prim.Native.Nat.{ℕ, ◌+◌, ◌≤◌}
use mathlib.Core.Path.{◌≡◌, refl, ap, sym, ◌∙◌}
use mathlib.Core.Logic.{inl, inr}
use mathlib.Core.Bool.{Bool, true, true≢false}
use mathlib.Core.List.{List, [], ◌∷◌}
use mathlib.Core.Option.{Option, none, some}
use native.Mathlib.Omega.{arith}
use lib.ListN.{length}
use borrow.Author.Tests.{le-leb, lt-leb}
use Rattle.text.specs.Bytes.{Text}
use Rattle.text.specs.Lines.{Outcome, got, bad}
use Rattle.text.specs.declared.Fault.{Fault}
use Rattle.eos.specs.Firing.{Written}
use Rattle.eos.specs.Causes.{Refusal, Cause, first, refusal}
use Rattle.eos.specs.Weights.{Weights, WeightCause, weight_refusal, weigh}
use Rattle.eos.proofs.Basics.{some_not}
use Rattle.eos.proofs.FirstLaws.{renamed, renamed_none, clear_exactly}
use Rattle.model.specs.Limits.{longest, room_limit, cover_limit}
use Rattle.model.specs.Held.{model_of}
use Rattle.model.specs.Test.{held_model}
use Rattle.model.specs.declared.Model.{Model}
use Rattle.marking.specs.declared.Marking.{Marking}
use Rattle.marking.specs.Sizes.{sizes_for}
use Rattle.reader.specs.Reading.{bounds, read_model, read_marking}
use Rattle.reader.specs.Answers.{pair, read_triple, loaded, model_reading, restored, marking_or, marking_reading, held_both}
use Rattle.step.specs.Reading.{read_step}
use Rattle.marking.specs.Held.{has_room}
use Rattle.step.specs.Verdict.{cause_triple}
use Rattle.step.proofs.StepFaults.{step_faults}
use Rattle.runner.specs.Answers.{step_triple, step_judged, read_then, stepped, held_step, stepping, Stepped}
use Rattle.runner.proofs.StepAnswers.{held_reads, step-long, step-unheld, step-held}
use Rattle.keeper.specs.Reading.{read_weight_file}
use Rattle.keeper.specs.Answers.{weight_triple, weight_cause_triple, passed_weights, turned_or, judged_weights, weight_checking}
use Rattle.keeper.specs.declared.WeightCheck.{WeightCheck}
use Rattle.keeper.proofs.CheckLaws.{check_long, check_unheld, check_bad, check_got}
use Rattle.promises.specs.WholeRun.{racks}
use Rattle.promises.specs.Numbers.{faulted, Among, model_numbers, marking_numbers, weight_numbers, step_numbers, Lent, Numbered, untested, step_tests, weight_tests}
use Rattle.promises.proofs.NumberLaws.{Goes, Caused, numbered}
use Rattle.listing.proofs.FileFaults.{marking_faults, weight_file_faults, model_faults}
use Rattle.promises.proofs.TestNumbers.{step-first, step_right, weight_first, weight_right}
use Rattle.std.specs.Prelude.{Ok}

-- ---- lists of numbers

two_three : (n : ℕ) → Among (2 ∷ 3 ∷ []) n → (2 ≤ n) × (n ≤ 3)
two_three n (inl e) = (omega arith, omega arith)
two_three n (inr (inl e)) = (omega arith, omega arith)
two_three n (inr (inr e)) = absurd e

of_model : (n : ℕ) → Among model_numbers.lines n → (2 ≤ n) × (n ≤ 12)
of_model n (inl e) = (omega arith, omega arith)
of_model n (inr (inl e)) = (omega arith, omega arith)
of_model n (inr (inr (inl e))) = (omega arith, omega arith)
of_model n (inr (inr (inr (inl e)))) = (omega arith, omega arith)
of_model n (inr (inr (inr (inr e)))) = absurd e

of_marking : (n : ℕ) → Among marking_numbers.lines n → (2 ≤ n) × (n ≤ 12)
of_marking n (inl e) = (omega arith, omega arith)
of_marking n (inr (inl e)) = (omega arith, omega arith)
of_marking n (inr (inr (inl e))) = (omega arith, omega arith)
of_marking n (inr (inr (inr e))) = absurd e

low_lines : (n : ℕ) → Among (2 ∷ 3 ∷ []) n → (2 ≤ n) × (n ≤ 12)
low_lines n h = let p = two_three n h in (p.0, omega (arith, p.1))

six-seven : (n : ℕ) → Among (6 ∷ 7 ∷ []) n → (6 ≤ n) × (n ≤ 12)
six-seven n (inl e) = (omega arith, omega arith)
six-seven n (inr (inl e)) = (omega arith, omega arith)
six-seven n (inr (inr e)) = absurd e

pub eight-twelve : (n : ℕ) → Among (8 ∷ 9 ∷ 10 ∷ 11 ∷ 12 ∷ []) n → (6 ≤ n) × (n ≤ 12)
eight-twelve n (inl e) = (omega arith, omega arith)
eight-twelve n (inr (inl e)) = (omega arith, omega arith)
eight-twelve n (inr (inr (inl e))) = (omega arith, omega arith)
eight-twelve n (inr (inr (inr (inl e)))) = (omega arith, omega arith)
eight-twelve n (inr (inr (inr (inr (inl e))))) = (omega arith, omega arith)
eight-twelve n (inr (inr (inr (inr (inr e))))) = absurd e

-- no test, no cause
untested_none : {A G : Type 0} (a : A) (c : Refusal) → first (untested a) ≡ some c → G
unfolding first
untested_none a c e = some_not (sym e)

-- ---- reading a model

module _ (s : Text) where
  pub model_goes : Goes model_numbers longest s true (read_model s) untested (read_triple (model_reading s))
  unfolding model_reading loaded
  model_goes = record {
    long = λ h. rw (lt-leb (length s) longest h, model_reading);
    unheld = λ few h. absurd (true≢false h);
    faulty = λ w e b. rw (le-leb (length s) longest w.short, model_reading, b);
    turned = λ w a n b c e. untested_none a c e;
    passed = λ w a n b e. rw (le-leb (length s) longest w.short, model_reading, b);
  }

  pub model_caused : (most : ℕ) (r : Refusal) → Caused model_numbers most s true (read_model s) untested r
  model_caused most r = record {
    unheld = λ h. absurd (true≢false h);
    lines = model_faults (Among model_numbers.lines) (inl refl) s (inr (inl refl)) (inr (inr (inl refl))) (inr (inr (inr (inl refl))));
    tests_are = λ a c e. untested_none a c e;
    no_column = λ a c e. untested_none a c e;
    low = of_model;
    high = λ n h. absurd h;
    apart = λ n l h. h;
  }

  pub model-number : Numbered model_numbers longest s true (read_model s) untested (read_triple (model_reading s))
  model-number = numbered model_numbers longest s true (read_model s) untested _ model_goes (model_caused longest _)

-- ---- reading a marking

module _ (m : Model) (s : Text) where
  marking_goes : Goes marking_numbers longest s (held_model m) (read_marking (sizes_for m) s) untested (read_triple (marking_reading m s))
  unfolding marking_reading marking_or restored
  marking_goes = record {
    long = λ h. rw (lt-leb (length s) longest h, marking_reading);
    unheld = λ few h. rw (le-leb (length s) longest few, marking_reading, h);
    faulty = λ w e b. rw (le-leb (length s) longest w.short, marking_reading, w.is_held, b);
    turned = λ w a n b c e. untested_none a c e;
    passed = λ w a n b e. rw (le-leb (length s) longest w.short, marking_reading, w.is_held, b);
  }

  pub marking_number : Numbered marking_numbers longest s (held_model m) (read_marking (sizes_for m) s) untested (read_triple (marking_reading m s))
  marking_number = numbered marking_numbers longest s (held_model m) (read_marking (sizes_for m) s) untested _ marking_goes (record {
    unheld = λ _. inl refl;
    lines = marking_faults (Among marking_numbers.lines) (inl refl) s (inr (inl refl)) (inr (inr (inl refl))) (sizes_for m);
    tests_are = λ a c e. untested_none a c e;
    no_column = λ a c e. untested_none a c e;
    low = of_marking;
    high = λ n h. absurd h;
    apart = λ n l h. h;
  })

-- ---- what is judged: the triple of the first cause, or 0,0,0

abbrev or_good : Option Refusal → Refusal
or_good none = pair 0 0
or_good (some c) = c

-- ---- a step

module _ (m : Model) (k : Marking) (s : Text) where
  abbrev lines : Outcome Written
  lines = read_step bounds (sizes_for m) m.listed s 0

  abbrev tests : Written → List (Option Refusal)
  tests = step_tests (model_of m) (racks m k)

  step-judged : (t : Written) (next : ℕ) (o : Option Cause)
      → step_triple (stepped k (step_judged (racks m k) t next o)).answer ≡ or_good (renamed (cause_triple (length t.taken)) o)
  unfolding step_judged stepped
  step-judged t next none = refl
  step-judged t next (some c) = refl

  -- a step whose lines are read is answered by its tests
  step-got : (t : Written) (next : ℕ) → lines ≡ got t next → step_triple (held_step room_limit m k s).answer ≡ or_good (first (tests t))
  unfolding read_then
  step-got t next e =
      ap (λ (r : Stepped). step_triple r.answer) (held_reads m k s room_limit ∙ ap (λ (o : Outcome Written). stepped k (read_then room_limit (model_of m) (racks m k) s o)) e)
      ∙ step-judged t next (refusal (has_room room_limit) (model_of m) t (racks m k))
      ∙ ap or_good (sym (step-first (model_of m) (racks m k) t))

  step-bad : (e : Fault) → lines ≡ bad e → step_triple (held_step room_limit m k s).answer ≡ faulted s e
  unfolding read_then stepped
  step-bad e b = ap (λ (r : Stepped). step_triple r.answer) (held_reads m k s room_limit ∙ ap (λ (o : Outcome Written). stepped k (read_then room_limit (model_of m) (racks m k) s o)) b)

  step_caused : (held : Bool) (r : Refusal) → Caused step_numbers longest s held lines tests r
  step_caused held r = record {
    unheld = λ _. inl refl;
    lines = step_faults (Among step_numbers.lines) (inl refl) (inr (inl refl)) bounds (sizes_for m) m.listed s 0;
    tests_are = λ t c e. (step_right (model_of m) (racks m k) t c e).0;
    no_column = λ t c e. (step_right (model_of m) (racks m k) t c e).2;
    low = low_lines;
    high = eight-twelve;
    apart = λ n l h. omega (arith, two_three n l, eight-twelve n h);
  }

  held_goes : length s ≤ longest → Goes step_numbers longest s true lines tests (step_triple (held_step room_limit m k s).answer)
  held_goes few = record {
    long = λ h. absurd (omega (arith, few));
    unheld = λ _ h. absurd (true≢false h);
    faulty = λ w e b. step-bad e b;
    turned = λ w t n b c e. step-got t n b ∙ ap or_good e;
    passed = λ w t n b e. step-got t n b ∙ ap or_good e;
  }

  -- a step of a run, which has passed 1 and 14
  pub held_number : length s ≤ longest → Numbered step_numbers longest s true lines tests (step_triple (held_step room_limit m k s).answer)
  held_number few = numbered step_numbers longest s true lines tests _ (held_goes few) (step_caused true _)

  -- number 0 is a step that fired
  fired-got : (t : Written) (next : ℕ) → lines ≡ got t next → first (tests t) ≡ none → (held_step room_limit m k s).answer ≡ Ok next
  unfolding read_then step_judged stepped
  fired-got t next b e =
      let q = renamed_none (cause_triple (length t.taken)) (refusal (has_room room_limit) (model_of m) t (racks m k)) (sym (step-first (model_of m) (racks m k) t) ∙ e) in
      ap (λ (r : Stepped). r.answer) (held_reads m k s room_limit) ∙ rw (b, q)

  pub held-fired : length s ≤ longest → (step_triple (held_step room_limit m k s).answer).number ≡ 0 → (next : ℕ) × ((held_step room_limit m k s).answer ≡ Ok next)
  held-fired few z =
      let (w, t, next, b, c) = (held_number few).good.0 z in
      (next, fired-got t next b ((clear_exactly (tests t)).1 c))

  is_held : Lent longest s (held_both m k) → step_triple (stepping m k s).answer ≡ step_triple (held_step room_limit m k s).answer
  is_held w = ap (λ (r : Stepped). step_triple r.answer) (sym (step-held m k s w.short w.is_held))

  step_goes : Goes step_numbers longest s (held_both m k) lines tests (step_triple (stepping m k s).answer)
  step_goes = record {
    long = λ h. ap (λ (r : Stepped). step_triple r.answer) (sym (step-long m k s h));
    unheld = λ few h. ap (λ (r : Stepped). step_triple r.answer) (sym (step-unheld m k s few h));
    faulty = λ w e b. is_held w ∙ step-bad e b;
    turned = λ w t n b c e. is_held w ∙ step-got t n b ∙ ap or_good e;
    passed = λ w t n b e. is_held w ∙ step-got t n b ∙ ap or_good e;
  }

  pub step-number : Numbered step_numbers longest s (held_both m k) lines tests (step_triple (stepping m k s).answer)
  step-number = numbered step_numbers longest s (held_both m k) lines tests _ step_goes (step_caused (held_both m k) _)

-- ---- checking weights

module _ (m : Model) (k : Marking) (s : Text) where
  abbrev last : ℕ
  last = 2 + length (model_of m).nets

  weight_judged : (o : Option WeightCause) (c : WeightCheck) → weight_triple (turned_or last o c) ≡ or_good (renamed (weight_cause_triple last) o)
  unfolding turned_or
  weight_judged none c = refl
  weight_judged (some why) c = refl

  -- weights that are read are answered by their tests
  weight_got : Lent longest s (held_both m k) → (a : Weights) (n : ℕ) → read_weight_file (model_of m) s ≡ got a n
      → weight_triple (weight_checking m k s) ≡ or_good (first (weight_tests last (model_of m) a))
  unfolding judged_weights
  weight_got w a n b =
      ap weight_triple (check_got m k s w.short w.is_held a n b)
      ∙ weight_judged (weight_refusal (model_of m) a) (passed_weights cover_limit a (weigh (model_of m) a (racks m k)))
      ∙ ap or_good (sym (weight_first last (model_of m) a))

  pub weights_goes : Goes weight_numbers longest s (held_both m k) (read_weight_file (model_of m) s) (weight_tests last (model_of m)) (weight_triple (weight_checking m k s))
  weights_goes = record {
    long = λ h. ap weight_triple (sym (check_long m k s h));
    unheld = λ few h. ap weight_triple (sym (check_unheld m k s few h));
    faulty = λ w e b. ap weight_triple (check_bad m k s w.short w.is_held e b);
    turned = λ w a n b c e. weight_got w a n b ∙ ap or_good e;
    passed = λ w a n b e. weight_got w a n b ∙ ap or_good e;
  }

  pub weights_caused : (most : ℕ) (r : Refusal) → Caused weight_numbers most s (held_both m k) (read_weight_file (model_of m) s) (weight_tests last (model_of m)) r
  weights_caused most r = record {
    unheld = λ _. inl refl;
    lines = weight_file_faults (Among weight_numbers.lines) (inl refl) s (inr (inl refl)) (model_of m);
    tests_are = λ a c e. (weight_right last (model_of m) a c e).0;
    no_column = λ a c e. (weight_right last (model_of m) a c e).2;
    low = low_lines;
    high = six-seven;
    apart = λ n l h. omega (arith, two_three n l, six-seven n h);
  }

  pub weight_number : Numbered weight_numbers longest s (held_both m k) (read_weight_file (model_of m) s) (weight_tests last (model_of m)) (weight_triple (weight_checking m k s))
  weight_number = numbered weight_numbers longest s (held_both m k) (read_weight_file (model_of m) s) (weight_tests last (model_of m)) _ weights_goes (weights_caused longest _)

  -- number 0 is weights that passed
  pub weight_passed : (weight_triple (weight_checking m k s)).number ≡ 0 → (c : WeightCheck) × (weight_checking m k s ≡ Ok c)
  unfolding judged_weights turned_or
  weight_passed z =
      let (w, a, n, b, c) = weight_number.good.0 z in
      let q = renamed_none (weight_cause_triple last) (weight_refusal (model_of m) a) (sym (weight_first last (model_of m) a) ∙ (clear_exactly (weight_tests last (model_of m) a)).1 c) in
      (passed_weights cover_limit a (weigh (model_of m) a (racks m k)), check_got m k s w.short w.is_held a n b ∙ rw q)
