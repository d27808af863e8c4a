-- Demand 3 at what a caller from C sees: numbers in the place of answers.
use Rattle.std.specs.Prelude.{ℕ, ℤ, ◌≡◌, List, [], ◌∷◌, map, eqb}
use Rattle.text.specs.Bytes.{Text}
use Rattle.model.specs.declared.Model.{Model}
use Rattle.marking.specs.declared.Marking.{Marking}
use Rattle.reader.specs.Answers.{model_reading}
use Rattle.runner.specs.Answers.{stepping}
use Rattle.keeper.specs.Answers.{weight_checking}
use Rattle.keeper.specs.Split.{above, below}
use Rattle.capi.specs.Calls.{model_read, weights_checked, step_done}
use Rattle.promises.specs.WholeRun.{own_fired, left_by, WholeRun}

-- the step calls in turn, each lent the marking that the call before returned: the marking returned last, and the numbers
unfoldable pub left_to_c : Model → Marking → List Text → Marking
left_to_c m k [] = k
left_to_c m k (s ∷ texts) = left_to_c m (step_done (stepping m k s)).marking texts

unfoldable pub numbers_to_c : Model → Marking → List Text → List ℕ
numbers_to_c m k [] = []
numbers_to_c m k (s ∷ texts) = (step_done (stepping m k s)).number ∷ numbers_to_c m (step_done (stepping m k s)).marking texts

-- the model reading answered 0, and the weight check for what it gave answered 0 with this sum and cover 1
pub record CoveredToC (text file : Text) (m : Model) (k : Marking) (sum : ℤ) : Type 0 where
  pub accepted : model_read (model_reading text) ≡ record { number = 0; beside = 0; column = 0; model = m; start = k }
  pub passed : weights_checked (weight_checking m k file) ≡ record { number = 0; beside = 0; column = 0; above = above sum; below = below sum; cover = 1 }

-- a whole run, in which the marking held is the one returned, and a call answered 0 exactly when its text brought the run a step that fired
pub record WholeRunToC (text file : Text) (m : Model) (k : Marking) (sum : ℤ) (texts : List Text) : Type 0 where
  pub run : WholeRun text file m k sum texts
  pub left : left_to_c m k texts ≡ left_by m k texts
  pub fired : map (λ n. eqb n 0) (numbers_to_c m k texts) ≡ own_fired run.loaded texts
