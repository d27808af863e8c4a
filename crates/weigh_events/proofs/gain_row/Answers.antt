use mathlib.Core.Path.{◌≡◌}
use native.Mathlib.Omega.{arith}
use mir.Syntax.{w64}
use mir.Val.{to_z, of_z}
use Rattle.std.proofs.lemmas.Int.{ints}
use Rattle.weigh.specs.Sums.{gain_of}
use Rattle.weigh.proofs.DotLaws.{between}
use Rattle.weigh.proofs.GainLaws.{gained_none, gained_next, gained_all}
use Rattle.weigh_events.proofs.gain_row.Goals as goal

pub loop-t-init : goal.loop-t-init
loop-t-init g c = gained_none _ _ _

pub loop-t-preserved : goal.loop-t-preserved
unfolding gain_of
loop-t-preserved g c =
    let r = c.gain.result in
    let e = c.gain.ensures in
    let held : to_z w64 (of_z w64 r) ≡ r = omega (arith, ints, e.low, e.high) in
    rw held (gained_next _ _ _ _ _ r c.loop-t.invariant c.loop-t-test.true (between r 1069531200 e.low e.high) e.value)

pub returns : goal.returns
returns g c =
    let l = c.loop-t in
    let e : l.t ≡ 32 = omega arith in
    gained_all _ _ _ _ (rw e at l.invariant)
