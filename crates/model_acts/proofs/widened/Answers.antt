use mathlib.Core.Path.{refl, sym, ◌∙◌}
use native.Mathlib.Omega.{arith}
use lib.ListN.{length-set}
use lib.Seq.{ext_get_or}
use Rattle.model.specs.Rules.{nth}
use Rattle.model.proofs.HeldTestLoops.{filled_turn}
use Rattle.model_acts.proofs.widened.Goals as goal

pub loop-k-init : goal.loop-k-init
loop-k-init c = (omega arith, refl, λ n h. absurd (omega arith))

pub loop-k-preserved : goal.loop-k-preserved
loop-k-preserved c =
    let a = c.args in
    let k = c.loop-k.k in (
      omega arith,
      length-set c.loop-k.row k _ ∙ c.loop-k.invariant.1,
      rw c.from.ensures (filled_turn (nth a.arcs.now) c.loop-k.row k _ (omega arith) c.loop-k.invariant.2 refl),
    )

pub returns : goal.returns
returns c =
    let a = c.args in
    ext_get_or 0 c.loop-k.row a.arcs.now (c.loop-k.invariant.1 ∙ sym c.told-arcs) (λ n h. c.loop-k.invariant.2 n (omega arith))
