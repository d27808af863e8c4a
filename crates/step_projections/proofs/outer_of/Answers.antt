use Prim.Native.Nat.{◌+◌, ◌-◌, ◌*◌, ◌≤◌, ◌<◌}
use mathlib.Core.Path.{refl, sym, ◌∙◌}
use native.Mathlib.Omega.{arith}
use lib.ListN.{length, get_or, length-set}
use Rattle.eos.proofs.VectorSums.{nth_zero}
use Rattle.marking.proofs.KeptLaws.{place_at}
use Rattle.model.specs.Limits.{alike_limit}
use Rattle.model.specs.Rules.{nth}
use Rattle.step.specs.Verdict.{outer_entries}
use Rattle.step.proofs.VectorArrays.{put_units, units_more}
use Rattle.step.proofs.TokenSums.{beyond, times_at, sum-start, sum_turn, sum_end, places_in, outer_none, outer_more}
use Rattle.step_projections.proofs.outer_of.Goals as goal
use Rattle.step_projections.proofs.outer_of.Goals.{In-loop-e}

-- the entry's place, and how many there are
module _ (c : In-loop-e) where
  place : (1 ≤ (get_or c.args.entries.now c.loop-e.e-index beyond).token.place) × ((get_or c.args.entries.now c.loop-e.e-index beyond).token.place ≤ 32)
  place = place_at c.args.entries.now c.loop-e.e-index beyond c.requires.places c.loop-e-test.true

  few : (1 ≤ (get_or c.args.entries.now c.loop-e.e-index beyond).times) × ((get_or c.args.entries.now c.loop-e.e-index beyond).times ≤ alike_limit)
  few = times_at alike_limit c.args.entries.now c.loop-e.e-index beyond c.requires.some c.requires.small c.loop-e-test.true

pub loop-e-init : goal.loop-e-init
loop-e-init c = (refl, (λ k. omega (arith, nth_zero 32 k)), sum-start places_in outer_entries outer_none outer_more c.args.entries.now)

pub overflow_sub-p : goal.overflow_sub-p
overflow_sub-p c = omega (arith, place (goal.at.overflow_sub-p c).In-loop-e)

pub bounds-sums-p : goal.bounds-sums-p
bounds-sums-p c = omega (arith, place (goal.at.bounds-sums-p c).In-loop-e)

pub overflow_add-sums : goal.overflow_add-sums
overflow_add-sums c =
    omega (arith, few (goal.at.overflow_add-sums c).In-loop-e, c.loop-e.invariant.1 (c.from-p.result - 1), c.requires.few)

pub bounds-sums-p-in-loop-e : goal.bounds-sums-p-in-loop-e
bounds-sums-p-in-loop-e c = omega (arith, place (goal.at.bounds-sums-p-in-loop-e c).In-loop-e)

pub loop-e-preserved : goal.loop-e-preserved
loop-e-preserved c =
    let es = c.args.entries.now in
    let i = c.loop-e.e-index in
    let s = c.loop-e.sums in
    let e = get_or es i beyond in
    let p = e.token.place - 1 in
    let l = (goal.at.loop-e-preserved c).In-loop-e in
    let h : p < length s = omega (arith, place l) in
    rw (c.from-p.ensures, c.from.ensures) (
      length-set s p (nth s p + e.times) ∙ c.loop-e.invariant.0,
      rw (put_units e.times s p h) (λ k. omega (arith, units_more e.times s p (i * alike_limit) c.loop-e.invariant.1 k, few l)),
      c.loop-e.invariant.2 ∙ rw (put_units e.times s p h) (sum_turn places_in outer_entries outer_none outer_more es i s beyond c.loop-e-test.true),
    )

pub returns : goal.returns
returns c =
    sym (c.loop-e.invariant.2
    ∙ sum_end places_in outer_entries outer_none outer_more c.args.entries.now c.loop-e.e-index c.loop-e.sums c.loop-e-test.false c.loop-e.invariant.0)
