-- `all_zero` is the test of each row.
use Rattle.std.proofs.Common.{rules, tests, ◌∙◌}
use Rattle.std.proofs.lemmas.Iterator.{YieldsList-from_slice}
use Rattle.std.proofs.lemmas.Iterator.Search.{all_from_yields_List}
use Rattle.eos.specs.Multiset.{every}
use Rattle.eos.specs.Weights.{is_zero}
use Rattle.model.proofs.RuleLoops.{every_in_list}
use Rattle.keeper.proofs.all_zero.Goals as goal

pub returns : goal.returns
returns c =
    all_from_yields_List (every is_zero) _ _ _ c.all.ensures.ran (YieldsList-from_slice c.args.held.now.rows (cc)) (λ x b q k. search (rules, tests))
    ∙ every_in_list (every is_zero) c.args.held.now.rows
