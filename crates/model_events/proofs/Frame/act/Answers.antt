-- `act` reads the first line of an event: it is refused, it is of a move or of a net, its place is one of black tokens, or it is
-- held.
use Prim.Native.Nat.{ℕ, ◌≤◌}
use mathlib.Core.Path.{◌≡◌}
use native.Mathlib.Omega.{arith}
use borrow.Author.Tests.{eq-eqb, ne_eqb}
use Rattle.model.specs.declared.Model.{Model}
use Rattle.model_text.specs.Reading.{idle_most}
use Rattle.std.specs.Prelude.{Ok}
use Rattle.text.proofs.Basics.{handed_on}
use Rattle.text.specs.declared.Keyed.TheVariants.{Former, Latter}
use Rattle.text_reader.specs.Place.{Reads}
use Rattle.model.specs.Test.{frame_in}
use Rattle.model_text.proofs.ActLaws.{line, line_refused, move_in, move_read, idle_in, alone_read, idle_black, idle_read}
use Rattle.model_events.proofs.Frame.act.Goals as goal
use Rattle.model_events.proofs.Frame.act.Goals.{In-Former, In-Latter}

-- the line of a move
moved : (c : In-Former) → Reads (line (frame_in c.args.self.now.model.now) c.args.r.now) c.args.r.now c.act_line.new.r (Ok (Former c.in-Former.number))
moved c = rw c.in-Former.is at c.in_ok-number.ensures

-- the line of a place
idled : (c : In-Latter) → Reads (line (frame_in c.args.self.now.model.now) c.args.r.now) c.args.r.now c.act_line.new.r (Ok (Latter c.in-Latter.number))
idled c = rw c.in-Latter.is at c.in_ok-number.ensures

pub returns-in_err-number : goal.returns-in_err-number
returns-in_err-number c =
    rw (handed_on _ c.from_residual.ensures.1) (line_refused (frame_in c.args.self.now.model.now) c.args.r.now _ c.in_err-number.ensures)

pub overflow_sub-result : goal.overflow_sub-result
overflow_sub-result c = rw c.from.ensures (move_in (frame_in c.args.self.now.model.now) c.args.r.now _ (moved (goal.at.overflow_sub-result c).In-Former)).0

pub returns-in-Former : goal.returns-in-Former
returns-in-Former c = rw c.from.ensures (move_read (frame_in c.args.self.now.model.now) c.args.r.now _ (moved (goal.at.returns-in-Former c).In-Former))

pub overflow_sub-index : goal.overflow_sub-index
overflow_sub-index c = rw c.from-index.ensures (idle_in (frame_in c.args.self.now.model.now) c.args.r.now _ (idled (goal.at.overflow_sub-index c).In-Latter)).0

pub returns-then-m-eq-WITH_ALONE : goal.returns-then-m-eq-WITH_ALONE
returns-then-m-eq-WITH_ALONE c =
    let i = (goal.at.returns-then-m-eq-WITH_ALONE c).In-Latter in
    rw c.from-index.ensures (alone_read (frame_in c.args.self.now.model.now) c.args.r.now _ (idled i) (eq-eqb _ _ c.if-m-eq-WITH_ALONE.true))

-- under the first header there are as many as places
places : (m : Model) (n : ℕ) → (m.header ≡ 2 → ⊥) → n ≤ idle_most (frame_in m) → n ≤ m.places
places m n h k = rw (ne_eqb m.header 2 h) at k

pub bounds-m-index : goal.bounds-m-index
bounds-m-index c =
    let m = c.args.self.now.model.now in
    let q = idle_in (frame_in m) c.args.r.now _ (idled (goal.at.bounds-m-index c).In-Latter) in
    omega (arith, c.from-index.ensures, q.0, places m _ c.if-m-eq-WITH_ALONE.false q.1, c.args.self.now.fitting.places)

pub returns-then-m-index-eq0 : goal.returns-then-m-index-eq0
returns-then-m-index-eq0 c =
    let i = (goal.at.returns-then-m-index-eq0 c).In-Latter in
    rw c.refuse.ensures.told
    (idle_black (frame_in c.args.self.now.model.now) c.args.r.now _ (idled i) (ne_eqb _ _ c.if-m-eq-WITH_ALONE.false) c.refuse.ensures.stands (rw c.from-index.ensures at c.if-m-index-eq0.true))

pub returns-else-m-index-eq0 : goal.returns-else-m-index-eq0
returns-else-m-index-eq0 c =
    let i = (goal.at.returns-else-m-index-eq0 c).In-Latter in
    rw c.from-index.ensures
    (idle_read (frame_in c.args.self.now.model.now) c.args.r.now _ (idled i) (ne_eqb _ _ c.if-m-eq-WITH_ALONE.false) (rw c.from-index.ensures at c.if-m-index-eq0.false))
