-- `literal` meets its contract: t stands there if s goes with it to its end.
use Prim.Native.Nat.{◌+◌}
use mathlib.Core.Path.{◌≡◌, sym, ◌∙◌}
use native.Mathlib.Omega.{arith}
use lib.ListN.{length}
use Rattle.text.proofs.ByteLaws.{far_least}
use Rattle.text.proofs.ReadLaws.{literal_here, literal_other}
use Rattle.text_scan.proofs.literal.Goals as goal

pub overflow_sub-end : goal.overflow_sub-end
overflow_sub-end c = let a = c.args in omega (arith, c.far-end.ensures, far_least a.s.now a.at a.t.now)

pub returns-then-end-at : goal.returns-then-end-at
returns-then-end-at c =
    let a = c.args in
    rw (c.far-end.ensures, literal_other a.t.now a.s.now a.at (λ h. c.if-end-at.true (omega (arith, c.far-end.ensures, h))))

pub returns : goal.returns
returns c =
    let a = c.args in
    let e : c.far-end.result ≡ a.at + length a.t.now = omega (arith, far_least a.s.now a.at a.t.now, c.far-end.ensures, c.if-end-at.false) in
    rw (e, literal_here a.t.now a.s.now a.at (sym c.far-end.ensures ∙ e))
