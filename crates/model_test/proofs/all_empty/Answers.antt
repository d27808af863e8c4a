-- `all_empty` says whether a list is 0.
use borrow.Author.Rules.{rules}
use mathlib.Core.Path.{◌∙◌}
use mathlib.Core.Bool.{Bool, true, ◌&&◌}
use lib.Dec.{eqb}
use Rattle.std.proofs.lemmas.Iterator.{YieldsList-from_slice}
use Rattle.std.proofs.lemmas.Iterator.Consumers.{fold_from_yields_List}
use Rattle.model.proofs.HeldTestLoops.{all_folded}
use Rattle.model_test.proofs.all_empty.Goals as goal

pub returns : goal.returns
returns c =
    let s = c.args.s.now in
    fold_from_yields_List _ (λ (all : Bool) v. all && eqb v 0) true _ c.fold.ensures.ran (YieldsList-from_slice s cc) (λ a x b q k. search rules)
    ∙ all_folded (λ v. eqb v 0) s true
