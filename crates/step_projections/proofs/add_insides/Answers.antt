use native.Mathlib.Omega.{arith}
use Rattle.marking.proofs.KeptLaws.{place_at}
use Rattle.step.proofs.TokenSums.{beyond}
use Rattle.step.proofs.InsideLaws.{rowed_none, none-small, inner_start, inner_turn, inner_end}
use Rattle.step_projections.proofs.add_insides.Goals as goal

pub loop-e-init : goal.loop-e-init
loop-e-init c =
    let a = c.args in
    rw c.requires.2 (rowed_none, (λ n k. omega (arith, none-small n k)), inner_start a.types.now a.entries.now)

pub add_inside-requires : goal.add_inside-requires
add_inside-requires c =
    let es = c.args.entries.now in
    let i = c.loop-e.e-index in
    let q = c.requires.0 in
    let p = place_at es i beyond q.places c.loop-e-test.true in
    (p.0, p.1, c.requires.1, c.loop-e.invariant.0, λ n k. omega (arith, q.few, c.loop-e.invariant.1 n k))

pub loop-e-preserved : goal.loop-e-preserved
loop-e-preserved c =
    let g = c.add_inside.ensures in (
      g.rowed,
      (λ n k. omega (arith, g.small n k, c.loop-e.invariant.1 n k)),
      inner_turn c.args.types.now c.args.entries.now c.loop-e.e-index _ _ beyond c.loop-e-test.true c.loop-e.invariant.2 g,
    )

pub returns : goal.returns
returns c =
    inner_end c.args.types.now c.args.entries.now c.loop-e.e-index c.loop-e.sums (omega (arith, c.requires.0.few)) c.loop-e-test.false c.loop-e.invariant.0 c.loop-e.invariant.1 c.loop-e.invariant.2
