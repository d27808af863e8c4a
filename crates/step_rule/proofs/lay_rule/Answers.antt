-- `lay_rule` meets its contract: on a held model, the two sides are the event's.
use borrow.Author.Rules.{rules}
use mathlib.Core.Path.{refl, ap, ◌∙◌}
use mathlib.Core.List.{[]}
use Rattle.eos.specs.Firing.{act_side}
use Rattle.model.specs.Acts.{alone_of}
use Rattle.model.specs.Held.{row_at}
use Rattle.model.specs.declared.Event.{Event}
use Rattle.model.proofs.ModelSized.{told-sized}
use Rattle.step.specs.RuleParts.{net_sums, pre_arcs, post_arcs}
use Rattle.step.proofs.UnusedRows.{unused_behind}
use Rattle.step.proofs.RuleMade.{few_nets, few_steps, few_events, act_read, act_few, counts_read, rule_made}
use Rattle.step_rule.proofs.lay_rule.Goals as goal

-- no event
abbrev none : Event
none = record { kind = 0; index = 0; sync = [] }

pub offset_bounds-m-e : goal.offset_bounds-m-e
offset_bounds-m-e c = let h = few_events c.args.m.now c.requires.0 c.args.e c.requires.1 in search rules

pub bounds-m-e : goal.bounds-m-e
bounds-m-e c = few_events c.args.m.now c.requires.0 c.args.e c.requires.1

pub alone_of-rule-requires : goal.alone_of-rule-requires
alone_of-rule-requires c =
    let m = c.args.m.now in
    let sized = told-sized m c.type_inv.m in
    act_few m c.requires.0 sized c.args.e c.requires.1 _ (act_read m c.requires.0 sized c.args.e c.requires.1 none _ c.act-act.ensures)

pub outer_side-rule-requires : goal.outer_side-rule-requires
outer_side-rule-requires c =
    let m = c.args.m.now in
    let sized = told-sized m c.type_inv.m in
    act_few m c.requires.0 sized c.args.e c.requires.1 _ (act_read m c.requires.0 sized c.args.e c.requires.1 none _ c.act-act.ensures)

pub outer_side-rule-requires-2 : goal.outer_side-rule-requires-2
outer_side-rule-requires-2 c =
    let m = c.args.m.now in
    let sized = told-sized m c.type_inv.m in
    act_few m c.requires.0 sized c.args.e c.requires.1 _ (act_read m c.requires.0 sized c.args.e c.requires.1 none _ c.act-act.ensures)

pub inner_sides-requires : goal.inner_sides-requires
inner_sides-requires c =
    let m = c.args.m.now in
    (few_nets m c.requires.0, few_steps m c.requires.0 (told-sized m c.type_inv.m), c.requires.2, c.requires.3)

pub returns-clause-sized : goal.returns-clause-sized
returns-clause-sized c = told-sized c.args.m.now c.type_inv.m

pub returns-clause-made : goal.returns-clause-made
returns-clause-made c =
    let m = c.args.m.now in
    let e = c.args.e in
    let sized = told-sized m c.type_inv.m in
    let act = act_read m c.requires.0 sized e c.requires.1 none _ c.act-act.ensures in
    let counts = counts_read m c.requires.0 sized e c.requires.1 none in
    rule_made m c.requires.0 sized e c.requires.1 _ refl (c.alone_of-rule.ensures ∙ ap alone_of act) refl
    (c.outer_side-rule.ensures ∙ ap (act_side (row_at m.pre) 32) act) (c.inner_sides.ensures.0 ∙ ap (net_sums pre_arcs m) counts)
    (c.outer_side-rule-2.ensures ∙ ap (act_side (row_at m.post) 32) act) (c.inner_sides.ensures.1 ∙ ap (net_sums post_arcs m) counts)

pub returns-clause-unused : goal.returns-clause-unused
returns-clause-unused c =
    let m = c.args.m.now in
    let few = few_nets m c.requires.0 in
    let r = c.inner_sides.ensures in
    (rw r.0 (unused_behind _ m.nets few), rw r.1 (unused_behind _ m.nets few))
