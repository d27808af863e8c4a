-- Demand 3 (00), as 01 says it in "The promises and the table": one statement over the whole list of step calls, at the definitions that
-- the contracts of the calls cite.
use Rattle.std.specs.Prelude.{◌≡◌, Bool, true, false, ◌≢◌, List, [], ◌∷◌, map, ℕ, ◌/◌, ◌≤◌, ◌<◌, leb, ℤ, pos, nat_abs, length, get_or, Result, Ok, Err}
use Rattle.std.proofs.Math.Option.{Option, none, some}
use Rattle.text.specs.Bytes.{Text}
use Rattle.text.specs.Lines.{Outcome, got, bad}
use Rattle.eos.specs.Counted.{spelt}
use Rattle.eos.specs.Model as eos
use Rattle.eos.specs.Firing.{Step, Written, step_of, outer, inner}
use Rattle.eos.specs.Weights.{Weights, weigh}
use Rattle.eos.specs.Run.{rule_run, rule_fired}
use Rattle.model.specs.Limits.{longest, cover_limit}
use Rattle.model.specs.Held.{model_of}
use Rattle.model.specs.declared.Model.{Model}
use Rattle.marking.specs.Held.{sizes_of, hold_marking, tokens_of}
use Rattle.marking.specs.Reading.{free}
use Rattle.marking.specs.declared.Marking.{Marking}
use Rattle.reader.specs.Reading.{Loaded, read_model}
use Rattle.marking.specs.Sizes.{sizes_for}
use Rattle.reader.specs.Answers.{model_reading}
use Rattle.step.specs.Reading.{read_step}
use Rattle.runner.specs.Answers.{step_triple, stepping}
use Rattle.keeper.specs.Reading.{read_weight_file}
use Rattle.keeper.specs.Answers.{weight_checking}
use Rattle.keeper.specs.Covering.{Covering}
use Rattle.reader.specs.declared.ReadRefusal.TheVariants.{NotHeld}
use Rattle.runner.specs.declared.StepRefusal.{StepRefusal}
use Rattle.runner.specs.declared.StepRefusal.TheVariants.{Unread}

-- ---- the rule's own run

-- the step that was read, if any, its lines written out
unfoldable pub step_in : Outcome Written → Option Step
step_in (got w next) = some (step_of w)
step_in (bad e) = none

-- 01: "A text brings a step if it has at most 1,048,576 bytes and begins with the lines of a step, right in key, syntax and list length,
-- its numbers of any size, its event and places among the model's"
unfoldable pub brings : eos.Model → Text → Option Step
brings m s = elim (leb (length s) longest) [ true ↦ step_in (read_step free (sizes_of m) (length m.events) s 0) | false ↦ none ]

-- 01: "The rule's own run is fed the model, its `start` and the texts lent to the step calls, in turn, and nothing else": its marking
-- after them, and which of them brought it a step that fired
abbrev pub own_run : Loaded → List Text → eos.Marking
own_run l texts = rule_run l.plant.model (brings l.plant.model) texts (spelt l.start)

abbrev pub own_fired : Loaded → List Text → List Bool
own_fired l texts = rule_fired l.plant.model (brings l.plant.model) texts (spelt l.start)

-- ---- the step calls

-- the step calls in turn, each lent the held model, the held marking as the call before left it, and a text of its own: the marking left
-- after them, and what they answered
unfoldable pub left_by : Model → Marking → List Text → Marking
left_by m k [] = k
left_by m k (s ∷ texts) = left_by m (stepping m k s).marking texts

unfoldable pub answers_of : Model → Marking → List Text → List (Result ℕ StepRefusal)
answers_of m k [] = []
answers_of m k (s ∷ texts) = (stepping m k s).answer ∷ answers_of m (stepping m k s).marking texts

abbrev pub says_fired : Result ℕ StepRefusal → Bool
says_fired (Ok n) = true
says_fired (Err e) = false

-- the net-tokens of a held marking
abbrev pub racks : Model → Marking → eos.Marking
racks m k = tokens_of (sizes_for m) k

-- ---- demand 3

-- a model text was accepted with this held model and this held marking, and a weight file passed for them with this sum and cover 1
pub record Covered (text file : Text) (m : Model) (k : Marking) (sum : ℤ) : Type 0 where
  pub accepted : model_reading text ≡ Ok (record { model = m; start = k })
  pub passed : weight_checking m k file ≡ Ok (record { sum = sum; cover = true })

-- after the step calls with any list of texts, lent the held model and at first that held marking
pub record WholeRun (text file : Text) (m : Model) (k : Marking) (sum : ℤ) (texts : List Text) : Type 0 where
  -- what the two files say: the model and its start, and the weights, which cover
  pub loaded : Loaded
  pub weights : Weights
  pub says : read_model text ≡ got loaded (length text)
  pub weighs : read_weight_file loaded.plant.model file ≡ got weights (length file)
  pub covering : Covering cover_limit weights (nat_abs sum)
  -- the held marking is the marking of the rule's own run, in the order of held markings and with unused room 0
  pub held : left_by m k texts ≡ hold_marking (eos.canonical (own_run loaded texts))
  -- each call said fired exactly when its text brought the run a step that fired
  pub fired : map says_fired (answers_of m k texts) ≡ own_fired loaded texts
  -- and no such text was answered 3 or 12
  pub room : (i : ℕ) → get_or (own_fired loaded texts) i false ≡ true
      → ((step_triple (get_or (answers_of m k texts) i (Err (Unread NotHeld)))).number ≢ 3) × ((step_triple (get_or (answers_of m k texts) i (Err (Unread NotHeld)))).number ≢ 12)
  -- the weighted sum of the held marking equals the sum reported, which is not below 0
  pub kept : weigh (model_of m) weights (racks m (left_by m k texts)) ≡ sum
  pub whole : sum ≡ pos (nat_abs sum)
  -- a hall holds at most that sum divided by its weight, and so does an inner place, all racks together
  pub outer-most : (p : ℕ) → p < m.places
      → get_or (outer (model_of m) (racks m (left_by m k texts))) p 0 ≤ nat_abs sum / nat_abs (get_or weights.outward p (pos 0))
  pub inner-most : (n i : ℕ) → n < m.nets → i < (eos.net (model_of m) n).size
      → get_or (inner (model_of m) n (racks m (left_by m k texts))) i 0 ≤ nat_abs sum / nat_abs (get_or (get_or weights.inward n []) i (pos 0))
