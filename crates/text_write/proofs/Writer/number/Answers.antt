-- `number` meets its contract: one digit is laid as it is, more are laid as `digits` lays them.
use mathlib.Core.Path.{refl}
use native.Mathlib.Omega.{arith}
use Rattle.text.proofs.DecimalLaws.{length-small}
use Rattle.text.proofs.PrintedLaws.{lay-one}
use Rattle.text_write.proofs.Writer.number.Goals as goal

pub bounds-self-self : goal.bounds-self-self
bounds-self-self c = let a = c.args in omega (arith, c.requires, length-small a.n (omega arith))

pub returns : goal.returns
returns c =
    let a = c.args in
    let w = a.self.now in
    record { place = omega (arith, length-small a.n (omega arith)); bytes = lay-one w.out.now w.at a.n (omega arith); lent = refl }
