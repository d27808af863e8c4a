-- `row_zero` is the test of each weight of a row.
use Rattle.std.proofs.Common.{rules, tests, ◌∙◌}
use Rattle.std.proofs.lemmas.Iterator.{YieldsList-from_slice}
use Rattle.std.proofs.lemmas.Iterator.Search.{all_from_yields_List}
use Rattle.eos.specs.Weights.{is_zero}
use Rattle.model.proofs.RuleLoops.{every_in_list}
use Rattle.keeper.proofs.row_zero.Goals as goal

pub returns : goal.returns
returns c =
    all_from_yields_List is_zero _ _ _ c.all.ensures.ran (YieldsList-from_slice c.args.row.now (cc)) (λ x b q k. search (rules, tests))
    ∙ every_in_list is_zero c.args.row.now
