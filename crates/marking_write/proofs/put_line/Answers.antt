-- `put_line` meets its contract: the parts of a line, one after the other.
use Prim.Native.Nat.{◌+◌, ◌≤◌}
use mathlib.Core.Path.{◌≡◌, ap, ◌∙◌}
use mathlib.Core.List.{[], ◌∷◌, ◌++◌}
use native.Mathlib.Omega.{arith}
use lib.ListN.{length, take}
use Rattle.text.specs.Bytes.{bytes, colon}
use Rattle.text.specs.Printed.{decimal, counts_text}
use Rattle.text_write.specs.Place.{Lays}
use Rattle.text_write.proofs.WriterLaws.{lays_room, lays_both}
use Rattle.marking.specs.Held.{as_sizes}
use Rattle.marking.proofs.LinesLaid.{held_line, held_length}
use Rattle.marking_write.proofs.put_line.Goals as goal
use Rattle.marking_write.proofs.put_line.Goals.{After-size_at, After-number}

-- the line fits
room : (c : After-size_at) → let e = c.args.e.now in
    let w = c.args.w.now in
    (w.at + (7 + length (decimal e.token.place) + length (counts_text (take c.size_at.result e.token.counts) e.times)) ≤ length w.out.now)
room c =
    let e = c.args.e.now in
    let counts = ap (λ n. length (counts_text (take n e.token.counts) e.times)) c.size_at.ensures in
    omega (arith, held_length (as_sizes c.args.z.now) e, counts, c.requires.1)

-- the digits of its place
place : (c : After-number) → Lays (decimal c.args.e.now.token.place) c.text.new.self c.number.new.self
place c = rw c.from.ensures at c.number.ensures

pub text-requires : goal.text-requires
text-requires c = omega (arith, room (goal.at.text-requires c).After-size_at)

pub number-requires : goal.number-requires
number-requires c =
    rw c.from.ensures (omega (arith, room (goal.at.number-requires c).After-size_at, c.text.ensures.place, lays_room _ c.text.ensures))

-- the place behind the digits, in as many bytes as before
behind : (c : After-number) →
    let w = c.args.w.now in
    let digits = length (decimal c.args.e.now.token.place) in
    (c.number.new.self.at ≡ w.at + 6 + digits) × (length c.number.new.self.out.now ≡ length w.out.now)
behind c =
    let p = place c in
    (omega (arith, p.place, c.text.ensures.place), lays_room _ p ∙ lays_room _ c.text.ensures)

pub text-requires-2 : goal.text-requires-2
text-requires-2 c =
    let n = behind (goal.at.text-requires-2 c).After-number in
    omega (arith, room (goal.at.text-requires-2 c).After-size_at, n.0, n.1)

pub put_counts-requires : goal.put_counts-requires
put_counts-requires c =
    let n = behind (goal.at.put_counts-requires c).After-number in
    omega (arith, room (goal.at.put_counts-requires c).After-size_at, n.0, n.1, c.text-2.ensures.place, lays_room _ c.text-2.ensures)

pub returns : goal.returns
returns c =
    let e = c.args.e.now in
    let counts = take c.size_at.result e.token.counts in
    rw (held_line (as_sizes c.args.z.now) e, ← c.size_at.ensures)
    (lays_both (bytes "token=") ((decimal e.token.place ++ (colon ∷ [])) ++ counts_text counts e.times) c.text.ensures
    (lays_both (decimal e.token.place ++ (colon ∷ [])) (counts_text counts e.times)
    (lays_both (decimal e.token.place) (colon ∷ []) (place (goal.at.returns c).After-number) c.text-2.ensures) c.put_counts.ensures))
