-- `nets_held` is the test of all nets.
use borrow.Author.Rules.{rules}
use mathlib.Core.Path.{◌∙◌}
use Rattle.std.proofs.lemmas.Iterator.{YieldsList-from_slice}
use Rattle.std.proofs.lemmas.Iterator.Consumers.{YieldsList-from_enumerate}
use Rattle.std.proofs.lemmas.Iterator.Search.{all_from_yields_List}
use Rattle.model.specs.Held.{no_net}
use Rattle.model.specs.Test.{net_is}
use Rattle.model.proofs.RuleLoops.{all_in_array}
use Rattle.model_test.proofs.nets_held.Goals as goal

pub returns : goal.returns
returns c =
    let a = c.args in
    all_from_yields_List _ _ _ _ c.all.ensures.ran (YieldsList-from_enumerate (YieldsList-from_slice a.objects.now cc) cc) (λ x b q k. search rules)
    ∙ all_in_array no_net (net_is a.nets) a.objects.now 8 c.told-objects
