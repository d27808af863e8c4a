use Prim.Native.Nat.{ℕ, ◌≤◌}
use mathlib.Core.Path.{◌≡◌, refl, ap, sym, ◌∙◌}
use native.Mathlib.Omega.{arith}
use native.Mathlib.Nat.{sub-zero}
use lib.ListN.{length}
use Rattle.model.specs.Rules.{nth}
use Rattle.model.specs.Held.{row_at, row_in}
use Rattle.std.proofs.lemmas.List.{take_all}
use Rattle.eos.specs.Vector.{◌⊕◌, times}
use borrow.Author.Rules.{rules}
use mathlib.Core.List.{List}
use Rattle.model.proofs.PaddedRows.{nth-zeros}
use Rattle.eos.proofs.VectorSums.{length-times}
use Rattle.step.proofs.VectorArrays.{at_least}
use Rattle.step.proofs.ArcSums.{sum_next, sum_done}
use Rattle.step_rule.proofs.summed.Goals as goal

pub loop-t-init : goal.loop-t-init
loop-t-init c = (omega arith, refl, (λ i. omega (arith, nth-zeros 32 i)), rw sub-zero)

pub loop-t-preserved : goal.loop-t-preserved
loop-t-preserved c =
    let a = c.args in
    let t = c.loop-t.t in
    let row : List ℕ = row_at a.table.now t in
    let count : ℕ = nth a.counts.now t in
    let long : length c.plus_times.new.sum ≡ 32 = search rules in
    let all = ap length c.plus_times.ensures.0 in
    let few : length row ≤ 32 = omega (arith, at_least c.loop-t.sum (times count row), length-times count row, all, long) in
    let same : row ≡ row_in 32 a.table.now t = sym (take_all 32 row few) in (
      omega arith,
      long,
      (λ i. omega (arith, c.loop-t.invariant.2 i, c.plus_times.ensures.1 i)),
      sum_next (nth a.counts.now) (row_in 32 a.table.now) t a.transitions c.loop-t.sum _ (omega arith) (c.plus_times.ensures.0 ∙ ap (λ (r : List ℕ). c.loop-t.sum ⊕ times count r) same)
          ∙ c.loop-t.invariant.3,
    )

pub returns : goal.returns
returns c =
    let a = c.args in
    sym (sum_done (nth a.counts.now) (row_in 32 a.table.now) c.loop-t.t a.transitions c.loop-t.sum (omega arith)) ∙ c.loop-t.invariant.3
