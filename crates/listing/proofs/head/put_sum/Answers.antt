-- `put_sum` meets its contract: a sum below 0, or not.
use native.Mathlib.Omega.{arith}
use borrow.Author.Rules.{rules}
use mir.Syntax.{w64}
use Rattle.std.proofs.lemmas.Int.{ints, to_z-of_z}
use Rattle.text.specs.Bytes.{bytes}
use Rattle.listing.proofs.ListingLines.{long-line, lays_as, sum_below, sum-above}
use Rattle.listing.proofs.head.put_sum.Goals as goal

pub number_line-requires : goal.number_line-requires
number_line-requires c = omega (arith, long-line (bytes "sum=-") c.unsigned_abs.result (omega arith))

pub returns-then-sum-lt0 : goal.returns-then-sum-lt0
returns-then-sum-lt0 c =
    let a = c.args in
    let n = c.unsigned_abs.result in
    let value = rw (to_z-of_z w64 a.sum (search rules)) at c.unsigned_abs.ensures.value in
    lays_as _ _ 26 (sum_below a.sum n value (omega (arith, ints, c.if-sum-lt0.true))) (long-line (bytes "sum=-") n (omega arith))
    c.number_line.ensures

pub number_line-requires-2 : goal.number_line-requires-2
number_line-requires-2 c = omega (arith, long-line (bytes "sum=") c.unsigned_abs-2.result (omega arith))

pub returns : goal.returns
returns c =
    let a = c.args in
    let n = c.unsigned_abs-2.result in
    let long = long-line (bytes "sum=") n (omega arith) in
    let value = rw (to_z-of_z w64 a.sum (search rules)) at c.unsigned_abs-2.ensures.value in
    lays_as _ _ 26 (sum-above a.sum n value (omega (arith, ints, c.if-sum-lt0.false))) (omega (arith, long)) c.number_line-2.ensures
