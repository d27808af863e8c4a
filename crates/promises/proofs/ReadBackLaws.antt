-- What an accepted reading gives, written, reads back: the start of a model, what step calls and runs leave, what is read for its model,
-- and any values of the structs that pass the tests.
use mathlib.Core.Path.{◌≡◌}
use mathlib.Core.Bool.{true}
use mathlib.Core.List.{List}
use Prim.Native.Nat.{ℕ}
use mir.Val.{Val}
use denote.Laws.{Is}
use Rattle.text.specs.Bytes.{Text}
use Rattle.model.specs.declared.Model.{Model}
use Rattle.model.specs.contracts.Model as model
use Rattle.marking.specs.declared.Marking.{Marking}
use Rattle.marking.specs.contracts.Marking as marking
use Rattle.reader.specs.Answers.{marking_reading, held_both}
use Rattle.reader.proofs.GivenLaws.{Given, given-held, given-model, given_marking, reading_given}
use Rattle.reader.proofs.ReadsBack.{writing_reads_back, writing_fits}
use Rattle.runner_trace.specs.Running.{running}
use Rattle.runner_trace.proofs.TraceSteps.{run-given}
use Rattle.promises.specs.WholeRun.{left_by}
use Rattle.promises.specs.ReadBack.{ReadsBack}
use Rattle.promises.proofs.GivenCalls.{left-given, owned_both}
use Rattle.std.specs.Prelude.{Ok}

module _ (m : Model) (k : Marking) where
  pub given_reads_back : Given m k → (out : List ℕ) → ReadsBack m k out
  given_reads_back g out = record {
    back = writing_reads_back m k out (given_marking m k g);
    fits = writing_fits m k out (given_marking m k g) (given-held m k g);
  }

  pub owned_reads_back : (vs us : List Val) → Is model.the_row m vs → Is marking.the_row k us → held_both m k ≡ true → (out : List ℕ) → ReadsBack m k out
  owned_reads_back vs us own owned h out = given_reads_back ((owned_both m vs own k us owned).0 h) out

module _ (m : Model) (k : Marking) (g : Given m k) where
  -- what the step calls with any list of texts leave
  pub left_reads_back : (texts : List Text) (out : List ℕ) → ReadsBack m (left_by m k texts) out
  left_reads_back texts out = given_reads_back m (left_by m k texts) (left-given m k g texts) out

  -- what a run leaves
  pub run_reads_back : (s : Text) (out : List ℕ) → ReadsBack m (running m k s).marking out
  run_reads_back s out = given_reads_back m (running m k s).marking (run-given m k s g) out

  -- what was read for the model
  pub read_reads_back : (s : Text) (j : Marking) → marking_reading m s ≡ Ok j → (out : List ℕ) → ReadsBack m j out
  read_reads_back s j a out = given_reads_back m j (reading_given m (given-model m k g) s j a) out
