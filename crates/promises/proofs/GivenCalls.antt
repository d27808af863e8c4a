-- Where a model and a marking are what some accepted reading gives, with no premise on sizes: what any list of step calls leaves of such
-- a marking, and that no other stands for the same net-tokens; and of any values of the structs, as code owns them, exactly those that
-- pass the tests.
use mathlib.Core.Path.{◌≡◌}
use mathlib.Core.Logic.{◌↔◌}
use mathlib.Core.Bool.{true}
use mathlib.Core.List.{List, [], ◌∷◌}
use mir.Val.{Val}
use denote.Laws.{Is}
use Rattle.text.specs.Bytes.{Text}
use Rattle.eos.specs.Multiset as M
use Rattle.eos.specs.Model as eos
use Rattle.model.specs.Test.{held_model}
use Rattle.model.specs.declared.Model.{Model}
use Rattle.model.specs.contracts.Model as model
use Rattle.model.proofs.ModelSized.{model-sized}
use Rattle.marking.specs.declared.Marking.{Marking}
use Rattle.marking.specs.contracts.Marking as marking
use Rattle.marking.proofs.SizedLaws.{marking_sized}
use Rattle.reader.specs.Answers.{held_both}
use Rattle.reader.proofs.HeldExactly.{Accepts, held_exactly, held_model_exactly, held_once}
use Rattle.reader.proofs.GivenLaws.{Given, given-held, given_marking}
use Rattle.runner.specs.Answers.{stepping}
use Rattle.runner.proofs.GivenSteps.{step_given}
use Rattle.converter.specs.Answers.{converting}
use Rattle.converter.specs.declared.Conversion.{Conversion}
use Rattle.promises.specs.WholeRun.{left_by, racks}
use Rattle.promises.specs.Converted.{ConversionKeeps}
use Rattle.promises.proofs.ConvertedLaws.{conversion_keeps}
use Rattle.std.specs.Prelude.{Ok}

-- after the step calls with any list of texts
pub left-given : (m : Model) (k : Marking) → Given m k → (texts : List Text) → Given m (left_by m k texts)
unfolding left_by
left-given m k g [] = g
left-given m k g (s ∷ texts) = left-given m (stepping m k s).marking (step_given m k g s) texts

-- a marking is held in one way: two that stand for the same net-tokens, each as often, are the same
pub given_once : (m : Model) (j k : Marking) → Given m j → Given m k → M.Same eos.like (racks m j) (racks m k) → j ≡ k
given_once m j k g g' same = held_once m j k (given_marking m j g) (given_marking m k g') (given-held m j g) (given-held m k g') same

-- ---- values that code owns: what owning tells of their sizes takes the place of a premise

module _ (m : Model) (vs : List Val) (own : Is model.the_row m vs) where
  -- the test of a model
  pub owned_model : (held_model m ≡ true) ↔ ((s : Text) × (k : Marking) × Accepts s m k)
  owned_model = held_model_exactly m (model-sized m vs own)

  -- what a conversion keeps
  pub owned_keeps : (c : Conversion) → converting m ≡ Ok c → ConversionKeeps m c
  owned_keeps = conversion_keeps m (model-sized m vs own)

  -- the tests of a model and a marking of it
  pub owned_both : (k : Marking) (us : List Val) → Is marking.the_row k us → (held_both m k ≡ true) ↔ Given m k
  owned_both k us owned = held_exactly m (model-sized m vs own) k (marking_sized k us owned)

-- two markings that code owns and that pass the tests for a model are the same where they stand for the same net-tokens
pub owned_once : (m : Model) (j k : Marking) (us ws : List Val) → Is marking.the_row j us → Is marking.the_row k ws → held_both m j ≡ true → held_both m k ≡ true
    → M.Same eos.like (racks m j) (racks m k) → j ≡ k
owned_once m j k us ws own owned h h' same = held_once m j k (marking_sized j us own) (marking_sized k ws owned) h h' same
