use native.Mathlib.Omega.{arith}
use Rattle.marking.proofs.LinesLaid.{few-digits}
use Rattle.marking_write.proofs.digits.Goals as goal

pub returns : goal.returns
returns c = let w = rw c.from.ensures at c.width.ensures in (w, omega (arith, w, few-digits c.args.value (omega arith)))
