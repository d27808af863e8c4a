-- `in_order` asks the derived order of the net-tokens, which is the canonical one.
use Rattle.std.proofs.Common.{rules}
use Rattle.std.proofs.lemmas.Fn.{always_returns_same}
use Rattle.eos.specs.Counted.{under}
use Rattle.marking.specs.Tokens.{before}
use Rattle.marking.proofs.TokenOrder.{cmp_before}
use Rattle.marking.proofs.PlaceFor.{ascending_is}
use Rattle.marking_test.proofs.in_order.Goals as goal

pub returns : goal.returns
returns c =
    ascending_is c.args.entries.now _ (c.is_sorted_by.ensures.cases (λ e f. under before e.token f.token)
    (always_returns_same _ _ _ (λ a r f e. search (rules, cmp_before))))
