-- `put_counts` meets its contract: the list, and `*n` behind it.
use mathlib.Core.Path.{ap}
use mathlib.Core.List.{[], ◌∷◌, ◌++◌}
use native.Mathlib.Omega.{arith}
use lib.ListN.{length}
use Rattle.text.specs.Bytes.{lf, star}
use Rattle.text.specs.Printed.{decimal, end_text}
use Rattle.text_write.specs.Place.{Lays}
use Rattle.text_write.proofs.WriterLaws.{lays_room, lays_both}
use Rattle.marking.proofs.LinesLaid.{counts_one, counts_many, length_many, end_alike}
use Rattle.marking_write.proofs.put_counts.Goals as goal
use Rattle.marking_write.proofs.put_counts.Goals.{After-number}

-- the digits behind the star
laid : (c : After-number) → Lays (decimal c.args.times) c.list-2.new.self c.number.new.self
laid c = rw c.from.ensures at c.number.ensures

pub list-requires : goal.list-requires
list-requires c = omega (arith, c.requires, ap length (counts_one c.args.counts.now c.args.times c.if-times-eq1.true))

pub returns-then-times-eq1 : goal.returns-then-times-eq1
returns-then-times-eq1 c = rw (counts_one c.args.counts.now c.args.times c.if-times-eq1.true) c.list.ensures

pub list-requires-2 : goal.list-requires-2
list-requires-2 c =
    let a = c.args in
    omega (arith, c.requires, length_many a.counts.now a.times c.if-times-eq1.false, end_alike star lf a.counts.now)

pub number-requires : goal.number-requires
number-requires c =
    let a = c.args in
    rw c.from.ensures
    (omega (arith, c.requires, length_many a.counts.now a.times c.if-times-eq1.false, end_alike star lf a.counts.now, c.list-2.ensures.place, lays_room _ c.list-2.ensures))

pub text-requires : goal.text-requires
text-requires c =
    let a = c.args in
    let n = laid (goal.at.text-requires c).After-number in
    omega (
      arith,
      c.requires,
      length_many a.counts.now a.times c.if-times-eq1.false,
      end_alike star lf a.counts.now,
      c.list-2.ensures.place,
      lays_room _ c.list-2.ensures,
      n.place,
      lays_room _ n,
    )

pub returns : goal.returns
returns c =
    let a = c.args in
    rw (counts_many a.counts.now a.times c.if-times-eq1.false)
    (lays_both (end_text decimal star a.counts.now) (decimal a.times ++ (lf ∷ [])) c.list-2.ensures
    (lays_both (decimal a.times) (lf ∷ []) (laid (goal.at.returns c).After-number) c.text.ensures))
