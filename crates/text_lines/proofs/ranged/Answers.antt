-- `ranged` meets its contract: the number is capped, and so is in the range where its capped value is.
use Prim.Native.Nat.{ℕ, ◌<◌}
use mathlib.Core.Path.{◌≡◌, ap, ◌∙◌}
use native.Mathlib.Omega.{arith}
use borrow.Author.Tests.{le-leb}
use Rattle.std.specs.declared.result.Result.TheVariants.{Ok, Err}
use Rattle.text.specs.Number.{Read}
use Rattle.text.specs.Capped.{cap, capped}
use Rattle.text.proofs.NumberLaws.{Exact, Capped, exact_of}
use Rattle.text.proofs.LineLaws.{within_low, within_low_not, within_high, line_out, line-value}
use Rattle.text_lines.proofs.ranged.Goals as goal
use Rattle.text_lines.proofs.ranged.Goals.{In-Ok}

-- the number, which has room
held : (c : In-Ok) (r : Read ℕ) → Ok c.args.read ≡ capped r → Exact r (Capped c.in-Ok.value) c.args.read.end
held c r e = rw c.in-Ok.ensures.1 (exact_of cap r _ e)

pub returns-in_default : goal.returns-in_default
returns-in_default c = λ r e.
    let f = c.ranges in
    let high : c.args.hi < c.args.read.value = omega (arith, f.hi.fits, c.in_default.ensures) in
    ap Err c.fault_at.ensures ∙ line_out _ _ _ _ f.lo.fits f.hi.fits r _ _ (exact_of cap r _ e) (within_high _ _ _ high)

pub returns-then-value-lo : goal.returns-then-value-lo
returns-then-value-lo c = λ r e.
    let f = c.ranges in
    ap Err c.fault_at-then-value-lo.ensures
    ∙ line_out _ _ _ _ f.lo.fits f.hi.fits r _ _ (held (goal.at.returns-then-value-lo c).In-Ok r e) (within_low _ _ _ c.if-value-lo.true)

pub returns-then-hi-value : goal.returns-then-hi-value
returns-then-hi-value c = λ r e.
    let f = c.ranges in
    ap Err c.fault_at-then-hi-value.ensures
    ∙ line_out _ _ _ _ f.lo.fits f.hi.fits r _ _ (held (goal.at.returns-then-hi-value c).In-Ok r e) (within_high _ _ _ c.if-hi-value.true)

pub returns : goal.returns
returns c = λ r e.
    let f = c.ranges in
    line-value _ _ _ _ f.lo.fits f.hi.fits r _ _ (held (goal.at.returns c).In-Ok r e) (within_low_not _ _ _ c.if-value-lo.false ∙ le-leb _ _ c.if-hi-value.false)
