-- `parts_held` is `takes_part` at each net.
use borrow.Author.Rules.{rules}
use mathlib.Core.Path.{refl, ◌∙◌}
use native.Mathlib.Nat.{sub-zero}
use Rattle.std.proofs.lemmas.Iterator.{YieldsList-from_range}
use Rattle.std.proofs.lemmas.Iterator.Search.{all_from_yields_List}
use Rattle.model.specs.Test.{part_at}
use Rattle.model.proofs.RuleLoops.{all_same}
use Rattle.model_test.proofs.parts_held.Goals as goal

pub returns : goal.returns
returns c =
    let a = c.args in
    all_from_yields_List (part_at a.own a.sync.now) _ _ _ c.all.ensures.ran (YieldsList-from_range 0 a.nets a.nets refl (sub-zero a.nets)) (λ x b q k. search rules)
    ∙ all_same a.nets _ (part_at a.own a.sync.now) (λ i. refl)
