-- `inner` reads a line for each net: one of them is refused, or they are held behind the outer weights.
use Prim.Native.Nat.{◌+◌}
use mathlib.Core.Path.{refl, ◌∙◌}
use native.Mathlib.Omega.{arith}
use lib.ListN.{length-set, set}
use Rattle.text.proofs.Basics.{handed_on}
use Rattle.text_reader.proofs.LoopLaws.{begins, ends, stops, turns}
use Rattle.model.proofs.HeldTests.{held-is, most-nets}
use Rattle.model.proofs.ModelSized.{told-sized}
use Rattle.keeper.specs.Held.{no_rows, weight_row}
use Rattle.keeper.specs.Parts.{put_next}
use Rattle.keeper.proofs.BlockLaws.{one, inner_line, nets_refused, nets_read}
use Rattle.keeper.proofs.weightfile.inner.Goals as goal

pub loop-n-init : goal.loop-n-init
loop-n-init c = let a = c.args in (refl, begins weight_row put_next (one a.m.now) a.m.now.nets a.r.now (set no_rows 0 a.outer))

pub offset_bounds-m-n : goal.offset_bounds-m-n
offset_bounds-m-n c = omega (arith, c.loop-n-test.true, most-nets _ (held-is _ c.requires))

pub bounds-m-n : goal.bounds-m-n
bounds-m-n c = omega (arith, c.loop-n-test.true, most-nets _ (held-is _ c.requires))

pub offset_bounds-rows-n : goal.offset_bounds-rows-n
offset_bounds-rows-n c = omega (arith, c.loop-n-test.true, most-nets _ (held-is _ c.requires))

pub bounds-rows-n : goal.bounds-rows-n
bounds-rows-n c = omega (arith, c.loop-n-test.true, most-nets _ (held-is _ c.requires))

pub returns-in_err-rows : goal.returns-in_err-rows
returns-in_err-rows c =
    let a = c.args in
    let m = a.m.now in
    let l = c.loop-n in
    rw (handed_on _ c.from_residual.ensures.1)
    (nets_refused m a.outer _ _
    (stops weight_row put_next (one m) m.nets a.r.now (set no_rows 0 a.outer) l.n l.rows l.r l.invariant.1 c.loop-n-test.true _ _
    (inner_line m (told-sized m c.type_inv.m).objects l.n c.loop-n-test.true (omega (arith, c.loop-n-test.true, most-nets _ (held-is _ c.requires))) l.r _ _ c.in_err-rows.ensures)))

pub loop-n-preserved : goal.loop-n-preserved
loop-n-preserved c =
    let a = c.args in
    let m = a.m.now in
    let l = c.loop-n in (
      length-set l.rows (l.n + 1) c.in_ok-rows.field-0 ∙ l.invariant.0,
      turns weight_row put_next (one m) m.nets a.r.now (set no_rows 0 a.outer) l.n l.rows l.r l.invariant.1 c.loop-n-test.true _ c.in_ok-rows.field-0 _
          (inner_line m (told-sized m c.type_inv.m).objects l.n c.loop-n-test.true (omega (arith, c.loop-n-test.true, most-nets _ (held-is _ c.requires))) l.r _ _ c.in_ok-rows.ensures) refl,
    )

pub returns : goal.returns
returns c =
    let a = c.args in
    let m = a.m.now in
    let l = c.loop-n in
    nets_read m a.outer _ l.rows (ends weight_row put_next (one m) m.nets a.r.now (set no_rows 0 a.outer) l.n l.rows l.r l.invariant.1 c.loop-n-test.false)
