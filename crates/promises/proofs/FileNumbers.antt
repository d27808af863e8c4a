-- The numbers that the program prints: those of the calls, with 1 for a file over 65,536 bytes.
use Prim.Native.Nat.{◌+◌, ◌≤◌, ◌<◌}
use mathlib.Core.Path.{◌≡◌, ap, sym, ◌∙◌}
use mathlib.Core.Logic.{◌↔◌}
use mathlib.Core.Bool.{Bool, true}
use mathlib.Core.List.{List}
use mathlib.Core.Option.{Option}
use native.Mathlib.Omega.{arith}
use lib.ListN.{length}
use borrow.Author.Tests.{le-leb, lt-leb}
use Rattle.text.specs.Bytes.{Text}
use Rattle.text.specs.Lines.{Outcome}
use Rattle.text.proofs.Basics.{by_le}
use Rattle.eos.specs.Causes.{Refusal}
use Rattle.model.specs.Limits.{longest}
use Rattle.model.specs.Held.{model_of}
use Rattle.model.specs.declared.Model.{Model}
use Rattle.marking.specs.declared.Marking.{Marking}
use Rattle.reader.specs.Reading.{read_model}
use Rattle.reader.specs.Answers.{pair, read_triple, model_reading, held_both}
use Rattle.runner_trace.specs.Running.{running, Ran}
use Rattle.keeper.specs.Reading.{read_weight_file}
use Rattle.keeper.specs.Answers.{weight_triple, weight_checking}
use Rattle.listing.specs.Listing.{file_longest, model_file, weights_file, trace_file}
use Rattle.promises.specs.Numbers.{Numbers, model_numbers, weight_numbers, Lent, Numbered, untested, weight_tests}
use Rattle.promises.proofs.NumberLaws.{Goes, numbered}
use Rattle.promises.proofs.CallNumbers.{model_goes, model_caused, weights_goes, weights_caused}
use Rattle.promises.proofs.RunNumbers.{run-number}
use Rattle.runner.specs.Answers.{step_triple}

-- a call that is asked of a shorter text goes by the same order
shorter : {A : Type 0} (ns : Numbers) (s : Text) (held : Bool) (reading : Outcome A) (tests : A → List (Option Refusal)) (r q : Refusal)
    → Goes ns longest s held reading tests r → (file_longest < length s → q ≡ pair 1 0) → (length s ≤ file_longest → q ≡ r)
    → Goes ns file_longest s held reading tests q
shorter ns s held reading tests r q g over same =
    let lent : Lent file_longest s held → Lent longest s held = λ w. record { short = omega (arith, w.short); is_held = w.is_held } in
    record {
      long = over;
      unheld = λ few h. same few ∙ g.unheld (omega (arith, few)) h;
      faulty = λ w e b. same w.short ∙ g.faulty (lent w) e b;
      turned = λ w a n b c e. same w.short ∙ g.turned (lent w) a n b c e;
      passed = λ w a n b e. same w.short ∙ g.passed (lent w) a n b e;
    }

-- `model=` of a listing
pub model_file-number : (s : Text) → Numbered model_numbers file_longest s true (read_model s) untested (read_triple (model_file s))
unfolding model_file
model_file-number s =
    numbered model_numbers file_longest s true (read_model s) untested _
    (shorter model_numbers s true (read_model s) untested (read_triple (model_reading s)) _ (model_goes s)
    (λ h. rw (lt-leb (length s) file_longest h, model_file))
    (λ h. rw (le-leb (length s) file_longest h, model_file)))
    (model_caused s file_longest _)

-- `weights=`
pub weights_file-number : (m : Model) (k : Marking) (s : Text)
    → Numbered weight_numbers file_longest s (held_both m k) (read_weight_file (model_of m) s) (weight_tests (2 + length (model_of m).nets) (model_of m)) (weight_triple (weights_file m k s))
unfolding weights_file
weights_file-number m k s =
    let tests = weight_tests (2 + length (model_of m).nets) (model_of m) in
    numbered weight_numbers file_longest s (held_both m k) (read_weight_file (model_of m) s) tests _
    (shorter weight_numbers s (held_both m k) (read_weight_file (model_of m) s) tests (weight_triple (weight_checking m k s)) _ (weights_goes m k s)
    (λ h. rw (lt-leb (length s) file_longest h, weights_file))
    (λ h. rw (le-leb (length s) file_longest h, weights_file)))
    (weights_caused m k s file_longest _)

module _ (m : Model) (k : Marking) (s : Text) where
  trace_short : length s ≤ file_longest → trace_file m k s ≡ running m k s
  unfolding trace_file
  trace_short h = rw (le-leb (length s) file_longest h, trace_file)

  trace_long : file_longest < length s → (step_triple (trace_file m k s).stop).number ≡ 1
  unfolding trace_file
  trace_long h = rw (lt-leb (length s) file_longest h, trace_file)

  trace_one : (step_triple (trace_file m k s).stop).number ≡ 1 → file_longest < length s
  trace_one z =
      by_le (length s) file_longest
      (λ few. absurd (omega (arith, few, (run-number m k s).one.0 (sym (ap (λ (r : Ran). (step_triple r.stop).number) (trace_short few)) ∙ z))))
      (λ over. over)

  -- `stop=`: 1 exactly where the trace is over the limit, else the run's
  pub trace_file-number : (((step_triple (trace_file m k s).stop).number ≡ 1) ↔ (file_longest < length s)) × (length s ≤ file_longest → trace_file m k s ≡ running m k s)
  trace_file-number = ((trace_one, trace_long), trace_short)
