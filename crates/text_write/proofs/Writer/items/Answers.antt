use Prim.Native.Nat.{◌+◌}
use mathlib.Core.Path.{◌≡◌, refl, ap, ◌∙◌}
use native.Mathlib.Omega.{arith}
use lib.ListN.{length, drop, get_or, length-set}
use Rattle.text.specs.Printed.{decimal, items_text}
use Rattle.text.proofs.PrintedLaws.{length-items, lay-item, items_over}
use Rattle.text_write.specs.Place.{Lays}
use Rattle.text_write.proofs.WriterLaws.{lays_room}
use Rattle.text_write.proofs.Writer.items.Goals as goal
use Rattle.text_write.proofs.Writer.items.Goals.{After-number}

-- the digits of a number
laid : (c : After-number) → let l = c.loop-i in Lays (decimal (get_or c.args.values.now l.i 0)) l.self c.number.new.self
laid c = rw c.from.ensures at c.number.ensures

-- one number further
further : (c : After-number) →
    let v = c.args.values.now in
    (c.number.new.self.at + 1 + length (items_text decimal c.args.last (drop (c.loop-i.i + 1) v)) ≡ c.args.self.now.at + length (items_text decimal c.args.last v))
further c =
    let l = c.loop-i in
    omega (arith, length-items c.args.last c.args.values.now l.i (omega arith), (laid c).place, l.invariant.0)

-- in as many bytes
room : (c : After-number) → length c.number.new.self.out.now ≡ length c.args.self.now.out.now
room c = lays_room _ (laid c) ∙ c.loop-i.invariant.1

pub number-requires : goal.number-requires
number-requires c =
    let l = c.loop-i in
    rw c.from.ensures (omega (arith, length-items c.args.last c.args.values.now l.i (omega arith), l.invariant.0, l.invariant.1))

pub bounds-self-self : goal.bounds-self-self
bounds-self-self c = let n = (goal.at.bounds-self-self c).After-number in omega (arith, further n, room n)

pub overflow_add-self : goal.overflow_add-self
overflow_add-self c = let n = (goal.at.overflow_add-self c).After-number in omega (arith, further n, room n)

pub loop-i-preserved : goal.loop-i-preserved
loop-i-preserved c =
    let l = c.loop-i in
    let w = c.number.new.self in
    let n = (goal.at.loop-i-preserved c).After-number in
    let d = laid n in (
      further n,
      length-set w.out.now w.at c.stop_of.result ∙ room n,
      rw d.place (lay-item c.args.last c.args.values.now l.self.out.now l.i l.self.at (omega arith) refl d.bytes c.stop_of.ensures) ∙ l.invariant.2,
      d.lent ∙ l.invariant.3,
    )

pub returns : goal.returns
returns c =
    let l = c.loop-i in
    let e = items_over c.args.last c.args.values.now l.i (omega arith) in
    record { place = omega (arith, ap length e, l.invariant.0); bytes = rw e at l.invariant.2; lent = l.invariant.3 }
