-- `counts_length` meets its contract: the list, and `*n` behind it.
use mathlib.Core.Path.{ap}
use native.Mathlib.Omega.{arith}
use lib.ListN.{length}
use Rattle.marking.proofs.LinesLaid.{counts_one, length_many}
use Rattle.marking_write.proofs.counts_length.Goals as goal

pub overflow_add-result : goal.overflow_add-result
overflow_add-result c = omega (arith, c.list_length-list.ensures.1, c.digits.ensures.1)

pub overflow_add-result-2 : goal.overflow_add-result-2
overflow_add-result-2 c = omega (arith, c.list_length-list.ensures.1, c.digits.ensures.1)

pub returns-then-times-eq1 : goal.returns-then-times-eq1
returns-then-times-eq1 c =
    let a = c.args in
    (omega (arith, c.list_length-list.ensures.0, ap length (counts_one a.counts.now a.times c.if-times-eq1.true)), omega (arith, c.list_length-list.ensures.1))

pub returns : goal.returns
returns c =
    let a = c.args in (
      omega (arith, c.list_length-list.ensures.0, c.digits.ensures.0, length_many a.counts.now a.times c.if-times-eq1.false),
      omega (arith, c.list_length-list.ensures.1, c.digits.ensures.1),
    )
