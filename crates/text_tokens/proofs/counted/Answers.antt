-- `counted` meets its contract: the counts and then what stands behind them, each by what the callee ensures, and their ranges after both.
use Rattle.std.proofs.Common.{rules}
use mathlib.Core.Path.{◌≡◌, sym, ap, ◌∙◌}
use native.Mathlib.Omega.{arith}
use Rattle.std.specs.declared.result.Result.TheVariants.{Ok, Err}
use Rattle.text.specs.Capped.{cap}
use Rattle.text.specs.Answers.{counted}
use Rattle.text.proofs.NumberLaws.{Exact, Capped, missing_of, exact_of}
use Rattle.text.proofs.LineLaws.{kept_err, line_missing}
use Rattle.text_tokens.specs.Ends.{times_at}
use Rattle.text_tokens.proofs.EndLaws.{times_inside}
use Rattle.text_tokens.proofs.TokenLaws.{counts_answer, counts_missing, end_missing, counts_beyond, times_beyond, line_read}
use Rattle.text_tokens.proofs.counted.Goals as goal
use Rattle.text_tokens.proofs.counted.Goals.{In-Ok, In-Ok-last}

pub returns-in_default : goal.returns-in_default
returns-in_default c =
    let a = c.args in
    kept_err (λ l. counted a.place l.0 l.1) _ _
    (ap Err c.syntax_fault.ensures
    ∙ line_missing _ _ _ _ _ (λ b e. counts_missing a.hi a.most a.at a.place a.n a.s.now a.x b (e ∙ c.values-read.ensures)) c.in_default.not-Ok)

-- the counts
read : (c : In-Ok) → let a = c.args in Ok c.in-Ok.field-0 ≡ counts_answer a.hi a.n a.s.now a.x
read c = sym c.in-Ok.is ∙ c.values-read.ensures

-- and how many net-tokens
end : (c : In-Ok-last) → Exact (times_at c.args.s.now c.in-Ok.field-0.end) (Capped c.in-Ok-last.field-0.value) c.in-Ok-last.field-0.end
end c = exact_of cap _ _ (sym c.in-Ok-last.is ∙ c.times_at-last.ensures)

pub returns-in_default-last : goal.returns-in_default-last
returns-in_default-last c =
    let a = c.args in
    let r = read (goal.at.returns-in_default-last c).In-Ok in
    kept_err (λ l. counted a.place l.0 l.1) _ _
    (ap Err c.syntax_fault-in_default-last.ensures
    ∙ line_missing _ _ _ _ _
    (λ b e. end_missing a.hi a.most a.at a.place a.n a.s.now a.x _ r b (missing_of cap (times_at a.s.now c.in-Ok.field-0.end) b (e ∙ c.times_at-last.ensures)))
    c.in_default-last.not-Ok)

pub returns-in-Err : goal.returns-in-Err
returns-in-Err c =
    let a = c.args in
    let r = read (goal.at.returns-in-Err c).In-Ok in
    let t = end (goal.at.returns-in-Err c).In-Ok-last in
    ap Err c.fault_at.ensures
    ∙ counts_beyond a.hi a.most a.at a.place a.n a.s.now a.x _ r (omega (arith, c.ranges.hi.fits)) _ _ t _ c.in-Err.is

pub overflow_add-end : goal.overflow_add-end
overflow_add-end c =
    let t = end (goal.at.overflow_add-end c).In-Ok-last in
    let h = times_inside c.args.s.now c.in-Ok.field-0.end t.value _ t.is in
    search rules

pub returns-then-from-told : goal.returns-then-from-told
returns-then-from-told c =
    let a = c.args in
    let r = read (goal.at.returns-then-from-told c).In-Ok in
    let t = end (goal.at.returns-then-from-told c).In-Ok-last in
    let f = c.ranges in
    ap Err c.fault_at-then-from-told.ensures
    ∙ times_beyond a.hi a.most a.at a.place a.n a.s.now a.x _ r (omega (arith, f.hi.fits)) _ _ t f.most.fits _ c.in-Ok-value.is
    (omega (arith, c.from.ensures, c.if-from-told.true))

pub returns : goal.returns
returns c =
    let a = c.args in
    let r = read (goal.at.returns c).In-Ok in
    let t = end (goal.at.returns c).In-Ok-last in
    let f = c.ranges in
    line_read a.hi a.most a.at a.place a.n a.s.now a.x _ r (omega (arith, f.hi.fits)) _ _ t f.most.fits _ c.in-Ok-value.is
    (omega (arith, c.from.ensures, c.if-from-told.false))
