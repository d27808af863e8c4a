use Rattle.std.proofs.Common.{rules, tests, ◌∙◌}
use Rattle.std.proofs.lemmas.Iterator.{YieldsList-from_slice}
use Rattle.std.proofs.lemmas.Iterator.Search.{all_from_yields_List}
use Rattle.marking.specs.Tokens.{unused}
use Rattle.marking.proofs.TokenOrder.{eq_like}
use Rattle.model.proofs.RuleLoops.{every_in_list}
use Rattle.marking_test.proofs.all_unused.Goals as goal

pub returns : goal.returns
returns c =
    all_from_yields_List unused _ _ _ c.all.ensures.ran (YieldsList-from_slice c.args.room.now (cc)) (λ x b q k. search (rules, tests, eq_like, c.empty-empty.ensures))
    ∙ every_in_list unused c.args.room.now
