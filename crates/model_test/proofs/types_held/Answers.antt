-- `types_held` is the test of all types.
use borrow.Author.Rules.{rules}
use mathlib.Core.Path.{◌∙◌}
use Rattle.std.proofs.lemmas.Iterator.{YieldsList-from_slice}
use Rattle.std.proofs.lemmas.Iterator.Consumers.{YieldsList-from_enumerate}
use Rattle.std.proofs.lemmas.Iterator.Search.{all_from_yields_List}
use Prim.Native.Nat.{ℕ}
use mathlib.Core.Bool.{cond}
use lib.Dec.{leb, ltb, eqb}
use Rattle.model.proofs.RuleLoops.{all_in_array}
use Rattle.model_test.proofs.types_held.Goals as goal

pub returns : goal.returns
returns c =
    let a = c.args in
    all_from_yields_List _ _ _ _ c.all.ensures.ran (YieldsList-from_enumerate (YieldsList-from_slice a.types.now cc) cc) (λ x b q k. search rules)
    ∙ all_in_array 0 (λ (p t : ℕ). cond (ltb p a.places) (leb t a.nets) (eqb t 0)) a.types.now 32 c.told-types
