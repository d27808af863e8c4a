use mathlib.Core.Path.{ap}
use native.Mathlib.Omega.{arith}
use borrow.Author.Rules.{rules}
use lib.ListN.{length}
use Rattle.text.specs.Bytes.{lf}
use Rattle.text.proofs.PrintedLaws.{length-items, items_over, end_none, end_some}
use Rattle.marking_write.proofs.list_length.Goals as goal

pub returns-then-is_empty : goal.returns-then-is_empty
returns-then-is_empty c = (omega (arith, ap length (end_none lf c.args.values.now (search (rules, c.if-is_empty.ensures)))), omega arith)

pub overflow_add-bytes : goal.overflow_add-bytes
overflow_add-bytes c = omega (arith, c.digits.ensures.1)

pub overflow_add-bytes-in-loop-value : goal.overflow_add-bytes-in-loop-value
overflow_add-bytes-in-loop-value c = omega (arith, c.digits.ensures.1)

pub loop-value-preserved : goal.loop-value-preserved
loop-value-preserved c =
    omega (arith, c.digits.ensures.1, c.digits.ensures.0, length-items lf c.args.values.now c.loop-value.value-index (omega arith))

pub returns : goal.returns
returns c =
    let a = c.args in
    let e = ap length (end_some lf a.values.now (search (rules, c.if-is_empty.ensures))) in
    (omega (arith, e, ap length (items_over lf a.values.now c.loop-value.value-index (omega arith))), omega arith)
