-- `entries_held` meets its contract: the first part of the held test that fails decides.
use mathlib.Core.Path.{sym, ◌∙◌}
use mathlib.Core.Bool.{false≢true}
use Rattle.marking.specs.Held.{as_sizes}
use Rattle.marking.proofs.HeldTests.{held_many, held_disordered, held_used, held_rest, room_whole}
use Rattle.marking_test.proofs.entries_held.Goals as goal
use Rattle.marking_test.proofs.entries_held.Goals.{then-in_order, else-in_order}

pub returns-then-room-n : goal.returns-then-room-n
returns-then-room-n c = held_many _ _ _ _ c.if-room-n.true

pub returns-then-all_unused : goal.returns-then-all_unused
returns-then-all_unused c =
    let a = c.args in
    let z = as_sizes a.z.now in
    elim c.if-in_order.branch [
      | then-in_order w ↦ held_rest a.room z a.n a.entries.now c.if-room-n.false _ c.in_order.ensures
          w.all_unused.result c.all_held.result w.if-in_order.true
          (w.all_unused.ensures ∙ room_whole a.room z a.n a.entries.now) (sym w.value-is ∙ c.if-all_unused.true) c.all_held.ensures
      | else-in_order w ↦ absurd (false≢true (sym w.if-in_order.false ∙ sym w.value-is ∙ c.if-all_unused.true))
    ]

pub returns-else-all_unused : goal.returns-else-all_unused
returns-else-all_unused c =
    let a = c.args in
    let z = as_sizes a.z.now in
    elim c.if-in_order.branch [
      | then-in_order w ↦ c.if-all_unused.false ∙ held_used a.room z a.n a.entries.now c.if-room-n.false _ c.in_order.ensures
          w.all_unused.result w.if-in_order.true (w.all_unused.ensures ∙ room_whole a.room z a.n a.entries.now) (sym w.value-is ∙ c.if-all_unused.false)
      | else-in_order w ↦ c.if-all_unused.false ∙ held_disordered a.room z a.n a.entries.now c.if-room-n.false _ c.in_order.ensures w.if-in_order.false
    ]
