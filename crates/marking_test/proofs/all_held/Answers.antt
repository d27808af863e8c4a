use Rattle.std.proofs.Common.{rules, tests, ◌∙◌}
use Rattle.std.proofs.lemmas.Iterator.{YieldsList-from_slice}
use Rattle.std.proofs.lemmas.Iterator.Search.{all_from_yields_List}
use Rattle.marking.specs.Held.{as_sizes, held_entry}
use Rattle.model.proofs.RuleLoops.{every_in_list}
use Rattle.marking_test.proofs.all_held.Goals as goal

pub returns : goal.returns
returns c =
    let z = as_sizes c.args.z.now in
    all_from_yields_List (held_entry z) _ _ _ c.all.ensures.ran (YieldsList-from_slice c.args.entries.now (cc)) (λ x b q k. search (rules, tests))
    ∙ every_in_list (held_entry z) c.args.entries.now
