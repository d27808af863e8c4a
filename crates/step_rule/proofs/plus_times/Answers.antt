use borrow.Author.Rules.{rules}
use Prim.Native.Nat.{◌≤◌, ◌+◌, ◌*◌}
use mathlib.Core.Path.{◌≡◌, sym, ◌∙◌}
use native.Mathlib.Omega.{arith}
use lib.ListN.{get_or}
use lib.Seq.{ext_get_or, get_or-set_other}
use Rattle.eos.specs.Vector.{◌⊕◌, times}
use Rattle.model.specs.Rules.{nth}
use Rattle.model.proofs.HeldTestLoops.{filled_turn}
use Rattle.step.proofs.ArcSums.{plus_at, plus_none, length_plus, bytes_product, set_below}
use Rattle.step_rule.proofs.plus_times.Goals as goal

pub returns-then-count-eq0 : goal.returns-then-count-eq0
returns-then-count-eq0 c =
    let a = c.args in
    (plus_none a.sum.now a.arcs.now a.count c.told-sum c.told-arcs c.if-count-eq0.true, λ i. omega arith)

pub loop-k-preserved : goal.loop-k-preserved
loop-k-preserved c =
    let a = c.args in
    let k = c.loop-k.k in
    let h : k + 1 ≤ 32 = omega arith in
    let p = c.loop-k.invariant.3 k (omega arith) in
    let few : a.count ≤ 255 = search rules in
    let arc = get_or a.arcs.now k 0 in
    let product : a.count * arc ≤ 65025 = bytes_product a.count arc few (search rules) in
    let e : nth c.loop-k.sum k + a.count * nth a.arcs.now k ≡ nth (a.sum.now ⊕ times a.count a.arcs.now) k =
    rw p (plus_at a.sum.now a.arcs.now a.count k) in (
      omega arith,
      search rules,
      rw (c.from.ensures, c.from-in-loop-k.ensures) (filled_turn (nth (a.sum.now ⊕ times a.count a.arcs.now)) c.loop-k.sum k _ (omega arith) c.loop-k.invariant.2 e),
      (λ i q. get_or-set_other c.loop-k.sum k i _ 0 (λ z. absurd (omega arith)) ∙ c.loop-k.invariant.3 i (omega arith)),
      rw (c.from.ensures, c.from-in-loop-k.ensures) (set_below (λ i. nth a.sum.now i + 65025) c.loop-k.sum k _ c.loop-k.invariant.4 (omega (arith, product, p))),
    )

pub returns : goal.returns
returns c =
    let a = c.args in
    let n = length_plus a.sum.now a.arcs.now a.count c.told-sum c.told-arcs in (
      ext_get_or 0 c.loop-k.sum (a.sum.now ⊕ times a.count a.arcs.now) (c.loop-k.invariant.1 ∙ sym n) (λ i p. c.loop-k.invariant.2 i (omega arith)),
      c.loop-k.invariant.4,
    )
