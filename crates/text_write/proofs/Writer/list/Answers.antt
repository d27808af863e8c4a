-- `list` meets its contract: its last byte for no number, else the numbers one after the other.
use mathlib.Core.Path.{ap}
use native.Mathlib.Omega.{arith}
use borrow.Author.Rules.{rules}
use lib.ListN.{length}
use Rattle.text.proofs.PrintedLaws.{end_none, end_some}
use Rattle.text_write.proofs.Writer.list.Goals as goal

pub text-requires : goal.text-requires
text-requires c =
    let a = c.args in
    omega (arith, ap length (end_none a.last a.values.now (search (rules, c.if-is_empty.ensures))))

pub returns-then-is_empty : goal.returns-then-is_empty
returns-then-is_empty c =
    let a = c.args in
    rw (end_none a.last a.values.now (search (rules, c.if-is_empty.ensures))) c.text.ensures

pub items-requires : goal.items-requires
items-requires c =
    let a = c.args in
    omega (arith, ap length (end_some a.last a.values.now (search (rules, c.if-is_empty.ensures))))

pub returns : goal.returns
returns c =
    let a = c.args in
    rw (end_some a.last a.values.now (search (rules, c.if-is_empty.ensures))) c.items.ensures
