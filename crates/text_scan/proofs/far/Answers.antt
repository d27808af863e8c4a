use Prim.Native.Nat.{◌-◌}
use mathlib.Core.Path.{◌∙◌}
use native.Mathlib.Omega.{arith}
use lib.ListN.{length, take, drop}
use Rattle.text.proofs.ByteLaws.{meet_more, meet_differs, meet_over, far_left}
use Rattle.text_scan.proofs.far.Goals as goal

pub returns-then-rest-i : goal.returns-then-rest-i
returns-then-rest-i c =
    let a = c.args in
    let z = meet_differs a.t.now _ c.loop-i.i (omega (arith, c.loop-i-test.true, c.min-most.ensures)) (omega (arith, c.loop-i-test.true, c.min-most.ensures)) c.if-rest-i.true in
    far_left a.s.now a.at _ _ a.t.now c.min.ensures (c.loop-i.invariant ∙ omega (arith, z))

pub loop-i-preserved : goal.loop-i-preserved
loop-i-preserved c =
    let a = c.args in
    let z = meet_more a.t.now _ c.loop-i.i (omega (arith, c.loop-i-test.true, c.min-most.ensures)) (omega (arith, c.loop-i-test.true, c.min-most.ensures)) c.if-rest-i.false in
    c.loop-i.invariant ∙ omega (arith, z)

pub returns : goal.returns
returns c =
    let a = c.args in
    let rest = take (length a.s.now - c.min.result) (drop c.min.result a.s.now) in
    let z = meet_over a.t.now rest c.loop-i.i (omega (arith, c.loop-i-test.false, c.min-most.ensures)) in
    far_left a.s.now a.at _ _ a.t.now c.min.ensures (c.loop-i.invariant ∙ omega (arith, z, c.loop-i-test.false, c.loop-i.auto.i-end))
