-- `put_triple` meets its contract: the parts of the line, one after the other.
use Prim.Native.Nat.{◌+◌, ◌≤◌}
use mathlib.Core.Path.{◌≡◌, ◌∙◌}
use native.Mathlib.Omega.{arith}
use lib.ListN.{length}
use Rattle.text.specs.Printed.{decimal}
use Rattle.text.specs.Bytes.{bytes}
use Rattle.text.proofs.DecimalLaws.{length-below}
use Rattle.text_write.specs.Place.{Lays}
use Rattle.text_write.proofs.WriterLaws.{lays_room}
use Rattle.triples.specs.Triples.{refusal_of}
use Rattle.listing.proofs.ListingLines.{long-line, triple-length, lays_triple}
use Rattle.listing.proofs.head.put_triple.Goals as goal
use Rattle.listing.proofs.head.put_triple.Goals.{After-number}

pub number-requires : goal.number-requires
number-requires c =
    let a = c.args in
    rw c.from.ensures (omega (arith, length-below 2 a.p.number (omega arith), c.text.ensures.place, lays_room _ c.text.ensures))

-- the digits of its number
number : (c : After-number) → Lays (decimal c.args.p.number) c.text.new.self c.number.new.self
number c = rw c.from.ensures at c.number.ensures

-- the comma behind it begins where its digits end
comma-at : (c : After-number) →
    let w = c.number.new.self in
    (w.at ≤ c.args.w.now.at + length c.args.key.now + 3) × (length w.out.now ≡ length c.args.w.now.out.now)
comma-at c =
    let n = number c in (
      omega (arith, length-below 2 c.args.p.number (omega arith), c.text.ensures.place, n.place),
      lays_room _ n ∙ lays_room _ c.text.ensures,
    )

pub text-requires-2 : goal.text-requires-2
text-requires-2 c = let k = comma-at (goal.at.text-requires-2 c).After-number in omega (arith, k.0, k.1, c.requires)

pub number-requires-2 : goal.number-requires-2
number-requires-2 c =
    let k = comma-at (goal.at.number-requires-2 c).After-number in
    let t = c.text-2.ensures in
    omega (arith, k.0, k.1, t.place, lays_room _ t, length-below 19 c.args.p.beside (omega arith), c.requires)

pub number_line-requires : goal.number_line-requires
number_line-requires c =
    let k = comma-at (goal.at.number_line-requires c).After-number in
    let t = c.text-2.ensures in
    let b = c.number-2.ensures in
    omega (
      arith,
      k.0,
      k.1,
      t.place,
      lays_room _ t,
      b.place,
      lays_room _ b,
      length-below 19 c.args.p.beside (omega arith),
      long-line (bytes ",") c.args.p.column (omega arith),
      c.requires,
    )

pub returns : goal.returns
returns c =
    let a = c.args in
    let r = refusal_of a.p in
    let l = lays_triple a.key.now r c.text.ensures (number (goal.at.returns c).After-number) c.text-2.ensures c.number-2.ensures c.number_line.ensures in
    (l, omega (arith, l.place, triple-length a.key.now r (omega arith) (omega arith) (omega arith)))
