use borrow.Author.Rules.{rules}
use mathlib.Core.Path.{ap, ◌∙◌}
use mathlib.Core.Bool.{not}
use lib.Dec.{eqb}
use Rattle.std.proofs.lemmas.Iterator.{YieldsList-from_slice}
use Rattle.std.proofs.lemmas.Iterator.Search.{all_from_yields_List}
use Rattle.model.proofs.RuleLoops.{every_in_list}
use Rattle.model_rules.proofs.some_count.Goals as goal

pub returns : goal.returns
returns c =
    let counts = c.args.counts.now in
    ap not (all_from_yields_List (λ n. eqb n 0) _ _ _ c.all.ensures.ran (YieldsList-from_slice counts cc) (λ x b q k. search rules) ∙ every_in_list (λ n. eqb n 0) counts)
