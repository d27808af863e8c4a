-- `line_length` meets its contract: the bytes of a line, part by part.
use mathlib.Core.Path.{ap}
use native.Mathlib.Omega.{arith}
use lib.ListN.{length, take}
use Rattle.text.specs.Printed.{counts_text}
use Rattle.marking.specs.Held.{as_sizes}
use Rattle.marking.proofs.LinesLaid.{held_length}
use Rattle.marking_write.proofs.line_length.Goals as goal

pub overflow_add-result : goal.overflow_add-result
overflow_add-result c = omega (arith, c.digits.ensures.1)

pub overflow_add-result-2 : goal.overflow_add-result-2
overflow_add-result-2 c = omega (arith, c.digits.ensures.1, c.counts_length.ensures.1)

pub returns : goal.returns
returns c =
    let e = c.args.e.now in
    let counts = ap (λ n. length (counts_text (take n e.token.counts) e.times)) c.size_at.ensures in
    (omega (arith, held_length (as_sizes c.args.z.now) e, c.digits.ensures.0, c.counts_length.ensures.0, counts), omega (arith, c.digits.ensures.1, c.counts_length.ensures.1))
