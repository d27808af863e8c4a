use Prim.Native.Nat.{ℕ, ◌*◌, ◌≤◌}
use mathlib.Core.Path.{◌≡◌, sym, ◌∙◌, ap}
use mathlib.Core.List.{List}
use native.Mathlib.Omega.{arith}
use native.Mathlib.Nat.{mul-le-mul}
use lib.ListN.{length-set}
use Rattle.model.specs.Rules.{nth}
use Rattle.step.proofs.VectorArrays.{sum_nil, add_at, add_turn, all_times}
use Rattle.step_projections.proofs.add_counts.Goals as goal

pub loop-k-init : goal.loop-k-init
loop-k-init c = (c.told-row, sym (sum_nil c.args.row.now), λ i. omega (arith, c.fits-counts i))

pub overflow_add-row : goal.overflow_add-row
overflow_add-row c =
    let a = c.args in
    let k = c.loop-k.k in
    let e : nth c.loop-k.row k ≡ nth a.row.now k =
    ap (λ (x : List ℕ). nth x k) c.loop-k.invariant.1 ∙ add_at a.n a.row.now a.counts.now k (omega arith) (omega arith) (omega arith) in
    let p : c.from.result * c.from-in-loop-k.result ≤ 65535 * 65535 =
    mul-le-mul {n₂ = 65535} {m₂ = 65535} (omega (arith, c.from.ensures)) (omega (arith, c.from-in-loop-k.ensures, c.loop-k.invariant.2 k)) in
    omega (arith, e, p, c.requires k)

pub loop-k-preserved : goal.loop-k-preserved
loop-k-preserved c =
    let a = c.args in
    let k = c.loop-k.k in (
      length-set c.loop-k.row k _ ∙ c.loop-k.invariant.0,
      rw (c.from.ensures, c.from-in-loop-k.ensures, c.loop-k.invariant.1) (add_turn a.n a.row.now a.counts.now k (omega arith) (omega arith) (omega arith)),
      c.loop-k.invariant.2,
    )

pub returns-clause-added : goal.returns-clause-added
returns-clause-added c =
    let a = c.args in
    c.loop-k.invariant.1 ∙ all_times a.n c.loop-k.k a.row.now a.counts.now (omega arith) (omega arith)
