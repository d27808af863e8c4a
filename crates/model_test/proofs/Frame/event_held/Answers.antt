-- `event_held` is the test of an event: kind and index first, so that the place's type can be looked up.
use mathlib.Core.Path.{◌≡◌, sym, ap, ◌∙◌}
use Prim.Native.Nat.{ℕ}
use mathlib.Core.Bool.{Bool, true}
use borrow.Author.Rules.{rules}
use lib.ListN.{length}
use Rattle.model.specs.Rules.{nth}
use native.Mathlib.Omega.{arith}
use Rattle.model.specs.Acts.{index_of, held_act}
use Rattle.model.specs.Test.{empty_past, used_in, held_event, frame_with}
use Rattle.model.proofs.HeldTestLoops.{and_no, and_yes}
use Rattle.model.proofs.HeldActs.{act-is, act_range}
use Rattle.model_test.proofs.Frame.event_held.Goals as goal
use Rattle.model_test.proofs.Frame.event_held.Goals.{Then-act_held}

-- the act is one of the model's
right : (c : Then-act_held) → let f = c.args.self.now in let e = c.args.e.now in held_act (frame_with f.model.now f.steps) e.kind e.index ≡ true
right c = let f = c.args.self.now in sym (c.act_held.ensures f.steps) ∙ c.if-act_held.true

pub own_net-requires : goal.own_net-requires
own_net-requires c =
    let s = c.args.self.now in
    let e = c.args.e.now in
    let f = frame_with s.model.now s.steps in
    let h = right (goal.at.own_net-requires c).Then-act_held in
    omega (arith, ap index_of c.act.ensures, (act-is f e.kind e.index h).same_index, act_range f e.kind e.index h s.moves s.places s.nets)

-- the unused room of the counts, of which there are 8 rows
rows : (c : Then-act_held) (b : Bool) → b ≡ (let f = c.args.self.now in let e = c.args.e.now in empty_past (length e.sync) (used_in f.model.now.nets (nth f.steps)) e.sync)
    → b ≡ (let f = c.args.self.now in let e = c.args.e.now in empty_past 8 (used_in f.model.now.nets (nth f.steps)) e.sync)
rows c b h =
    let f = c.args.self.now in
    let long : length c.args.e.now.sync ≡ 8 = search rules in
    h ∙ ap (λ (rows : ℕ). empty_past rows (used_in f.model.now.nets (nth f.steps)) c.args.e.now.sync) long

pub returns-then-empty_past : goal.returns-then-empty_past
unfolding held_event
returns-then-empty_past c =
    and_yes _ _ _ (right (goal.at.returns-then-empty_past c).Then-act_held)
    (and_yes _ _ _ (sym (rows (goal.at.returns-then-empty_past c).Then-act_held _ c.empty_past.ensures) ∙ c.if-empty_past.true) (c.parts_held.ensures ∙ rw (c.own_net.ensures, c.act.ensures)))

pub returns-else-empty_past : goal.returns-else-empty_past
unfolding held_event
returns-else-empty_past c =
    and_yes _ _ _ (right (goal.at.returns-else-empty_past c).Then-act_held)
    (c.if-empty_past.false ∙ and_no _ _ (sym (rows (goal.at.returns-else-empty_past c).Then-act_held _ c.empty_past.ensures) ∙ c.if-empty_past.false))

pub returns-else-act_held : goal.returns-else-act_held
unfolding held_event
returns-else-act_held c =
    let f = c.args.self.now in
    c.if-act_held.false ∙ and_no _ _ (sym (c.act_held.ensures f.steps) ∙ c.if-act_held.false)
