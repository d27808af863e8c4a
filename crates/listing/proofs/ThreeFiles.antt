-- The three files: a file that is too long, and one that is read. What an accepted model and the run on it leave is held.
use Prim.Native.Nat.{◌≤◌}
use mathlib.Core.Path.{◌≡◌, sym}
use mathlib.Core.Bool.{true}
use lib.Dec.{leb}
use lib.ListN.{length}
use borrow.Author.Tests.{le-leb, lt-leb}
use Rattle.text.specs.Bytes.{Text}
use Rattle.text.proofs.Basics.{by_test}
use Rattle.model.specs.declared.Model.{Model}
use Rattle.marking.specs.declared.Marking.{Marking}
use Rattle.reader.specs.Answers.{short, model_reading, held_both}
use Rattle.reader.specs.declared.ModelReading.{ModelReading}
use Rattle.reader.proofs.GivenLaws.{Given, given-held}
use Rattle.runner_trace.specs.Running.{running, unrun}
use Rattle.runner.proofs.KeepLaws.{Keeps}
use Rattle.runner_trace.proofs.TraceSteps.{run_keeps}
use Rattle.keeper.specs.Answers.{weight_checking}
use Rattle.listing.specs.Listing.{file_longest, model_file, weights_file, trace_file}
use Rattle.std.specs.Prelude.{Err, Ok}
use Rattle.reader.specs.declared.ReadRefusal.{ReadRefusal}
use Rattle.reader.proofs.ReadingLaws.{short_err}
use Rattle.keeper.specs.declared.WeightRefusal.TheVariants.{Unread}
use Rattle.reader.proofs.HeldExactly.{refused≢accepted}

-- ---- by the length of the file

pub model-long : (s : Text) (e : ReadRefusal) → Err e ≡ short file_longest s → Err e ≡ model_file s
unfolding model_file
model-long s e h = let l = short_err file_longest s e h in rw (l.0, lt-leb (length s) file_longest l.1, model_file)

pub model-short : (s : Text) → length s ≤ file_longest → model_reading s ≡ model_file s
unfolding model_file
model-short s h = rw (le-leb (length s) file_longest h, model_file)

module _ (m : Model) (k : Marking) (s : Text) where
  pub weights-long : (e : ReadRefusal) → Err e ≡ short file_longest s → Err (Unread e) ≡ weights_file m k s
  unfolding weights_file
  weights-long e h = let l = short_err file_longest s e h in rw (l.0, lt-leb (length s) file_longest l.1, weights_file)

  pub weights-short : length s ≤ file_longest → weight_checking m k s ≡ weights_file m k s
  unfolding weights_file
  weights-short h = rw (le-leb (length s) file_longest h, weights_file)

  pub trace_long : (e : ReadRefusal) → Err e ≡ short file_longest s → unrun e k ≡ trace_file m k s
  unfolding trace_file
  trace_long e h = let l = short_err file_longest s e h in rw (l.0, lt-leb (length s) file_longest l.1, trace_file)

  pub trace_short : length s ≤ file_longest → running m k s ≡ trace_file m k s
  unfolding trace_file
  trace_short h = rw (le-leb (length s) file_longest h, trace_file)

  -- the run on a held marking leaves a held one
  pub trace_held : Keeps m k → held_both m (trace_file m k s).marking ≡ true
  unfolding trace_file
  trace_held h =
      by_test (leb (length s) file_longest)
      (λ t. rw (t, trace_file) (run_keeps m k s h).held)
      (λ t. rw (t, trace_file) h.held)

-- ---- an accepted model

-- an accepted reading gives it and its start
pub file_given : (s : Text) (r : ModelReading) → Ok r ≡ model_file s → Given r.model r.start
unfolding model_file
file_given s r h =
    by_test (leb (length s) file_longest)
    (λ t. (s, sym (rw (t, model_file) at h)))
    (λ t. refused≢accepted (sym (rw (t, model_file) at h)))

-- so they are held
pub model-held : (s : Text) (r : ModelReading) → Ok r ≡ model_file s → held_both r.model r.start ≡ true
model-held s r h = given-held r.model r.start (file_given s r h)
