-- `number_line` meets its contract: the parts of the line, one after the other.
use mathlib.Core.List.{[], ◌∷◌, ◌++◌}
use native.Mathlib.Omega.{arith}
use Rattle.text.specs.Bytes.{lf}
use Rattle.text.specs.Printed.{decimal, number_text}
use Rattle.text.proofs.LaidLaws.{number_line_length}
use Rattle.text_write.proofs.WriterLaws.{lays_room, lays_both}
use Rattle.text_write.proofs.Writer.number_line.Goals as goal

pub text-requires : goal.text-requires
text-requires c = let a = c.args in omega (arith, number_line_length a.key.now a.n)

pub number-requires : goal.number-requires
number-requires c =
    let a = c.args in
    let k = c.text.ensures in
    omega (arith, number_line_length a.key.now a.n, k.place, lays_room a.key.now k)

pub text-requires-2 : goal.text-requires-2
text-requires-2 c =
    let a = c.args in
    let k = c.text.ensures in
    let n = c.number.ensures in
    omega (arith, number_line_length a.key.now a.n, k.place, lays_room a.key.now k, n.place, lays_room (decimal a.n) n)

pub returns : goal.returns
unfolding number_text
returns c =
    let a = c.args in
    lays_both a.key.now (decimal a.n ++ (lf ∷ [])) c.text.ensures (lays_both (decimal a.n) (lf ∷ []) c.number.ensures c.text-2.ensures)
