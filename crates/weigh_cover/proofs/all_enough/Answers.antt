-- `all_enough` is the test of each weight's number.
use Rattle.std.proofs.Common.{rules, Bool, ◌∙◌}
use Rattle.std.proofs.lemmas.Iterator.{YieldsList-from_slice}
use Rattle.std.proofs.lemmas.Iterator.Search.{all_from_yields_List}
use Rattle.model.proofs.RuleLoops.{every_in_list}
use Rattle.weigh.specs.Sums.{enough}
use Rattle.weigh.proofs.NumberLaws.{every_number}
use Rattle.weigh_cover.proofs.all_enough.Goals as goal

pub returns : goal.returns
returns g c =
    let number = g.W.Factor.number in
    let test : g.row.W.Denot → Bool = λ w. enough c.args.most c.args.sum (number w) in
    all_from_yields_List test _ _ _ c.all.ensures.ran (YieldsList-from_slice c.args.weights.now (cc)) (λ x b q k. search rules)
    ∙ every_in_list test c.args.weights.now ∙ every_number number (enough c.args.most c.args.sum) c.args.weights.now
