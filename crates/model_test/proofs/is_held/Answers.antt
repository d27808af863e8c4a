-- `is_held` is `held_model`: the counts first, then types, moves, nets and events.
use mathlib.Core.Path.{sym, ◌∙◌}
use Rattle.model.specs.Test.{held_types, held_nets, held_model}
use Rattle.model.proofs.HeldTestLoops.{and_no, and_yes, few-counts, events_are}
use Rattle.model_test.proofs.is_held.Goals as goal
use Rattle.model_test.proofs.is_held.Goals.{Else-not-counts_held}

pub moves_held-requires : goal.moves_held-requires
moves_held-requires c =
    let m = c.args.m.now in
    (few-counts m.header m.nets m.places m.moves m.listed (sym c.counts_held.ensures ∙ c.if-not-counts_held.false)).2

pub returns-then-nets_held : goal.returns-then-nets_held
unfolding held_model held_types held_nets
returns-then-nets_held c =
    let e = events_are c.args.m.now c.transitions_of-steps.result c.transitions_of-steps.ensures in
    and_yes _ _ _ (sym c.counts_held.ensures ∙ c.if-not-counts_held.false)
    (and_yes _ _ _ (sym c.types_held.ensures ∙ c.if-types_held.true)
    (and_yes _ _ _ (sym c.moves_held.ensures ∙ c.if-moves_held.true)
    (and_yes _ _ _ (sym c.nets_held.ensures ∙ c.if-nets_held.true) (c.events_held.ensures ∙ e))))

pub returns-else-nets_held : goal.returns-else-nets_held
unfolding held_model held_types held_nets
returns-else-nets_held c =
    and_yes _ _ _ (sym c.counts_held.ensures ∙ c.if-not-counts_held.false)
    (and_yes _ _ _ (sym c.types_held.ensures ∙ c.if-types_held.true)
    (and_yes _ _ _ (sym c.moves_held.ensures ∙ c.if-moves_held.true)
    (c.if-nets_held.false ∙ and_no _ _ (sym c.nets_held.ensures ∙ c.if-nets_held.false))))

pub returns-else-moves_held : goal.returns-else-moves_held
unfolding held_model held_types
returns-else-moves_held c =
    and_yes _ _ _ (sym c.counts_held.ensures ∙ c.if-not-counts_held.false)
    (and_yes _ _ _ (sym c.types_held.ensures ∙ c.if-types_held.true)
    (c.if-moves_held.false ∙ and_no _ _ (sym c.moves_held.ensures ∙ c.if-moves_held.false)))

pub returns-else-types_held : goal.returns-else-types_held
unfolding held_model held_types
returns-else-types_held c =
    and_yes _ _ _ (sym c.counts_held.ensures ∙ c.if-not-counts_held.false)
    (c.if-types_held.false ∙ and_no _ _ (sym c.types_held.ensures ∙ c.if-types_held.false))

pub returns-then-not-counts_held : goal.returns-then-not-counts_held
unfolding held_model
returns-then-not-counts_held c = and_no _ _ (sym c.counts_held.ensures ∙ c.if-not-counts_held.true)
