use mathlib.Core.Path.{ap, ◌∙◌}
use native.Mathlib.Omega.{arith}
use lib.ListN.{length}
use Rattle.text_write.proofs.WriterLaws.{lays_room, laid_by}
use Rattle.marking.specs.Held.{as_sizes}
use Rattle.marking.specs.Printed.{held_text}
use Rattle.marking.proofs.LinesLaid.{past}
use Rattle.marking.proofs.LinesLaid.{texts_end, length_next, lay_next}
use Rattle.marking_write.proofs.put_lines.Goals as goal

pub put_line-requires : goal.put_line-requires
put_line-requires c =
    let e = length_next (held_text (as_sizes c.args.z.now)) c.args.entries.now c.loop-e.e-index past c.loop-e-test.true in
    (c.requires.0, omega (arith, e, c.requires.1, c.loop-e.invariant.0, c.loop-e.invariant.1))

pub loop-e-preserved : goal.loop-e-preserved
loop-e-preserved c =
    let f = held_text (as_sizes c.args.z.now) in
    let es = c.args.entries.now in
    let l = c.loop-e in
    let laid = c.put_line.ensures in
    let e = length_next f es l.e-index past c.loop-e-test.true in (
      omega (arith, e, laid.place, l.invariant.0),
      lays_room _ laid ∙ l.invariant.1,
      lay_next f es l.e-index past c.loop-e-test.true l.w.out.now l.w.at (laid_by _ laid) ∙ l.invariant.2,
      laid.lent ∙ l.invariant.3,
    )

pub returns : goal.returns
returns c =
    let l = c.loop-e in
    let e = texts_end (held_text (as_sizes c.args.z.now)) c.args.entries.now l.e-index c.loop-e-test.false in
    record { place = omega (arith, ap length e, l.invariant.0); bytes = rw e at l.invariant.2; lent = l.invariant.3 }
