use Rattle.std.proofs.Common.{rules}
use Prim.Native.Nat.{◌-◌}
use mathlib.Core.Path.{◌≡◌, refl, sym, ap, ◌∙◌}
use native.Mathlib.Omega.{arith}
use native.Mathlib.Nat.{sub-zero}
use mir.Syntax.{w32}
use mir.Val.{SFits, to_z, of_z}
use lib.IntN.{ℤ}
use lib.ListN.{set, length-set}
use lib.Seq.{set_out}
use Rattle.std.proofs.Math.Facts.{to_z-of_z}
use Rattle.text.specs.Number.{signed_if}
use Rattle.text.specs.Lists.{joined}
use Rattle.text.specs.Lines.{modest}
use Rattle.text.specs.Answers.{first_out}
use Rattle.text.specs.Capped.{cap_signed}
use Rattle.text.proofs.Basics.{handed_on}
use Rattle.text.proofs.NumberLaws.{missing_of, exact_of}
use Rattle.text.proofs.ListLaws.{going_start, turn_missing, turn_more, turn_done}
use Rattle.text_lists.proofs.values.Goals as goal
use Rattle.text_lists.proofs.values.Goals.{then-i-lt32, else-i-lt32}

pub loop-i-init : goal.loop-i-init
loop-i-init g c = (refl, rw (sub-zero, c.held-row.ensures) (going_start g.V.Value.held _ _ _))

pub returns-in_err-value : goal.returns-in_err-value
returns-in_err-value g c =
    let a = c.args in
    let l = c.loop-i in
    let none = missing_of cap_signed (joined (signed_if g.V.Value.SIGNED) (a.n - l.i - 1) a.s.now l.at) _ (rw c.SIGNED.ensures at c.in_err-value.ensures) in
    rw (handed_on _ c.from_residual.ensures.1)
    (sym (l.invariant.1 ∙ turn_missing g.V.Value.held a.hi g.V.Value.SIGNED a.s.now a.n l.at l.out l.i l.row c.loop-i-test.true _ none))

pub loop-i-preserved : goal.loop-i-preserved
loop-i-preserved g c =
    let a = c.args in
    let l = c.loop-i in
    let p = c.in_ok-value.field-0 in
    let f : SFits w32 p.value = search rules in
    let same : to_z w32 (of_z w32 p.value) ≡ p.value = to_z-of_z f in
    let read = exact_of cap_signed (joined (signed_if g.V.Value.SIGNED) (a.n - l.i - 1) a.s.now l.at) p (rw c.SIGNED.ensures at c.in_ok-value.ensures) in
    let o : c.first_out-out.result ≡ first_out l.out l.at (modest a.hi p.value) = c.first_out-out.ensures ∙ ap (λ (v : ℤ). first_out l.out l.at (modest a.hi v)) same in
    let k : c.if-i-lt32.row ≡ set l.row l.i (g.V.Value.held p.value) =
    elim c.if-i-lt32.branch [
      | then-i-lt32 w ↦ w.row-is ∙ ap (set l.row l.i) (w.held.ensures ∙ ap g.V.Value.held same)
      | else-i-lt32 w ↦ w.row-is ∙ sym (set_out l.row l.i (g.V.Value.held p.value) (omega (arith, l.invariant.0, w.if-i-lt32.false)))
    ] in (
      rw k (length-set l.row l.i (g.V.Value.held p.value) ∙ l.invariant.0),
      l.invariant.1
          ∙ turn_more g.V.Value.held a.hi g.V.Value.SIGNED a.s.now a.n l.at l.out l.i l.row c.ranges.hi.fits c.loop-i-test.true p.value _ read _ o _ k,
    )

pub returns-in-Some : goal.returns-in-Some
returns-in-Some g c =
    let l = c.loop-i in
    sym (l.invariant.1 ∙ turn_done g.V.Value.held _ _ _ _ _ _ _ _ c.loop-i-test.false ∙ rw c.in-Some.is)

pub returns-in-None : goal.returns-in-None
returns-in-None g c =
    let l = c.loop-i in
    sym (l.invariant.1 ∙ turn_done g.V.Value.held _ _ _ _ _ _ _ _ c.loop-i-test.false ∙ rw c.in-None.is)
