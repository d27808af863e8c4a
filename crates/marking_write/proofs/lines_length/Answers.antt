use mathlib.Core.Path.{ap}
use native.Mathlib.Omega.{arith}
use lib.ListN.{length}
use Rattle.marking.specs.Held.{as_sizes}
use Rattle.marking.specs.Printed.{held_text}
use Rattle.marking.proofs.LinesLaid.{past}
use Rattle.marking.proofs.LinesLaid.{texts_end, length_next}
use Rattle.marking_write.proofs.lines_length.Goals as goal

pub loop-e-preserved : goal.loop-e-preserved
loop-e-preserved c =
    let e = length_next (held_text (as_sizes c.args.z.now)) c.args.entries.now c.loop-e.e-index past c.loop-e-test.true in
    (omega (arith, c.line_length-bytes.ensures.1), omega (arith, e, c.line_length-bytes.ensures.0, c.loop-e.invariant.1))

pub returns : goal.returns
returns c =
    let e = ap length (texts_end (held_text (as_sizes c.args.z.now)) c.args.entries.now c.loop-e.e-index c.loop-e-test.false) in
    (omega (arith, e, c.loop-e.invariant.1), omega arith)
