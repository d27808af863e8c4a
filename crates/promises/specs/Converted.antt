-- What a conversion keeps (02, K13), at what the calls answer for the model lent to it and for the model that it answers.
use Rattle.std.specs.Prelude.{◌≡◌, ◌↔◌, ℕ, ◌-◌, List, [], ◌∷◌, true, length, get_or, Ok}
use Rattle.text.specs.Bytes.{Text}
use Rattle.text.specs.Lines.{got}
use Rattle.eos.specs.Firing.{Written}
use Rattle.model.specs.declared.Model.{Model}
use Rattle.marking.specs.Sizes.{sizes_for}
use Rattle.marking.specs.declared.Marking.{Marking}
use Rattle.reader.specs.Reading.{bounds}
use Rattle.reader.specs.Answers.{marking_reading, held_both, marking_writing}
use Rattle.step.specs.Reading.{read_step}
use Rattle.step.specs.Printed.{step_text}
use Rattle.runner.specs.Answers.{stepping}
use Rattle.keeper.specs.Answers.{weight_checking}
use Rattle.keeper.specs.declared.WeightCheck.{WeightCheck}
use Rattle.converter.specs.declared.Conversion.{Conversion}
use Rattle.promises.specs.WholeRun.{says_fired}

-- a step by its event's new number; numbers count from 1, events from 0
abbrev pub new_step : Conversion → Written → Written
new_step c t = record { event = get_or c.numbers t.event 0 - 1; taken = t.taken; given = t.given }

-- the lines of a step, lent to the step call, are fired, and leave the marking j
abbrev pub Fires : Model → Marking → Written → Marking → Type 0
Fires m k t j = stepping m k (step_text t) ≡ record { answer = Ok (length (step_text t)); marking = j }

-- step calls in turn that all say fired lead from the marking k to j
abbrev pub Lead : Model → Marking → List Text → Marking → Type 0
Lead m k [] j = j ≡ k
Lead m k (s ∷ texts) j = (says_fired (stepping m k s).answer ≡ true) × Lead m (stepping m k s).marking texts j

-- some list of them does
abbrev pub Reached : Model → Marking → Marking → Type 0
Reached m k j = (texts : List Text) × Lead m k texts j

pub record ConversionKeeps (m : Model) (c : Conversion) : Type 0 where
  -- a marking is held for the one exactly where it is for the other, and is read and written alike
  pub held : (k : Marking) → held_both c.model k ≡ held_both m k
  pub reads : (s : Text) → marking_reading c.model s ≡ marking_reading m s
  pub writes : (k : Marking) (out : List ℕ) → marking_writing c.model k out ≡ marking_writing m k out
  -- weights pass for the one exactly where they do for the other, with the same sum and the same cover
  pub weights : (k : Marking) (file : Text) (w : WeightCheck) → (weight_checking m k file ≡ Ok w) ↔ (weight_checking c.model k file ≡ Ok w)
  -- a step that fires fires under its new number, with the same racks after it
  pub forth : (k : Marking) (s : Text) (n : ℕ) → (stepping m k s).answer ≡ Ok n
      → (t : Written) × (read_step bounds (sizes_for m) m.listed s 0 ≡ got t n) × Fires c.model k (new_step c t) (stepping m k s).marking
  -- and a step that fires in the new model is one of some old event that has this number
  pub back : (k : Marking) (s : Text) (n : ℕ) → (stepping c.model k s).answer ≡ Ok n
      → (t : Written) × (read_step bounds (sizes_for c.model) c.model.listed s 0 ≡ got (new_step c t) n) × Fires m k t (stepping c.model k s).marking
  -- so the racks that lists of fired steps can reach are the same
  pub reached : (k j : Marking) → Reached m k j ↔ Reached c.model k j
