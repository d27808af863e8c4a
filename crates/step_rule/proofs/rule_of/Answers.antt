-- `rule_of` meets its contract: of an empty rule no row is used.
use Rattle.step.proofs.UnusedRows.{none_used}
use Rattle.step_rule.proofs.rule_of.Goals as goal

pub lay_rule-requires : goal.lay_rule-requires
lay_rule-requires c =
    let n = c.args.m.now.nets in
    rw c.empty.ensures (c.requires.0, c.requires.1, none_used n, none_used n)
