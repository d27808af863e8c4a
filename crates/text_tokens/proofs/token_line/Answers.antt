-- `token_line` meets its contract: the place with its colon behind the key, and then its range, each from what the callee ensures.
use Rattle.std.proofs.Common.{rules}
use Prim.Native.Nat.{◌<◌}
use mathlib.Core.Path.{sym, ap, ◌∙◌}
use native.Mathlib.Omega.{arith}
use Rattle.std.specs.declared.result.Result.TheVariants.{Err}
use Rattle.text.specs.Bytes.{colon}
use Rattle.text.specs.Number.{number, item}
use Rattle.text.specs.Capped.{cap}
use Rattle.text.specs.Lines.{behind}
use Rattle.text.specs.TokenLine.{read_token}
use Rattle.text.specs.Answers.{parsed, token_line}
use Rattle.text.proofs.NumberLaws.{Exact, Capped, missing_of, exact_of}
use Rattle.text.proofs.LineLaws.{key_inside, kept_err, line_missing}
use Rattle.text_tokens.proofs.TokenLaws.{token_missing, token_low, token_high, token_in}
use Rattle.text_tokens.proofs.token_line.Goals as goal
use Rattle.text_tokens.proofs.token_line.Goals.{In-Ok, In-Ok-try_from}

pub returns-in_default : goal.returns-in_default
unfolding read_token
returns-in_default c =
    kept_err token_line _ _
    (ap Err c.syntax_fault.ensures
    ∙ line_missing _ _ _ _ _ (λ b e. token_missing _ _ _ _ _ b (missing_of cap _ b (e ∙ c.key_item-read.ensures))) c.in_default.not-Ok)

-- the place behind the key
read : (c : In-Ok) →
    let a = c.args in
    Exact (behind a.key.now (item number colon) a.s.now a.at) (Capped c.in-Ok.field-0.value) c.in-Ok.field-0.end
read c = exact_of cap _ _ (sym c.in-Ok.is ∙ c.key_item-read.ensures)

-- the same, which has room
held : (c : In-Ok-try_from) →
    let a = c.args in
    Exact (behind a.key.now (item number colon) a.s.now a.at) (Capped c.in-Ok-try_from.place) c.in-Ok.field-0.end
held c = rw c.in-Ok-try_from.ensures.1 (exact_of cap _ _ (sym c.in-Ok.is ∙ c.key_item-read.ensures))

pub overflow_add-from : goal.overflow_add-from
overflow_add-from c =
    let a = c.args in
    let h = key_inside a.key.now colon a.s.now a.at _ _ (read (goal.at.overflow_add-from c).In-Ok).is in
    search rules

pub returns-in_default-try_from : goal.returns-in_default-try_from
returns-in_default-try_from c =
    let f = c.ranges in
    let high : c.args.places < c.in-Ok.field-0.value = omega (arith, f.places.fits, c.in_default-try_from.ensures) in
    token_high _ _ _ _ _ _ _ f.places.fits _ _ (read (goal.at.returns-in_default-try_from c).In-Ok) high _ c.out_of_range.ensures

pub returns-then-place-eq0 : goal.returns-then-place-eq0
returns-then-place-eq0 c =
    token_low _ _ _ _ _ _ _ c.ranges.places.fits _ _ (held (goal.at.returns-then-place-eq0 c).In-Ok-try_from) c.if-place-eq0.true _ c.out_of_range-then-place-eq0.ensures

pub returns-then-places-place : goal.returns-then-places-place
returns-then-places-place c =
    token_high _ _ _ _ _ _ _ c.ranges.places.fits _ _ (held (goal.at.returns-then-places-place c).In-Ok-try_from) c.if-places-place.true _
    c.out_of_range-then-places-place.ensures

pub returns : goal.returns
returns c =
    (rw (c.from-2.ensures, c.byte_at-n.ensures, c.from.ensures) at c.counted.ensures)
    ∙ ap parsed (token_in _ _ _ _ _ _ _ c.ranges.places.fits _ _ (held (goal.at.returns c).In-Ok-try_from) c.if-place-eq0.false c.if-places-place.false)
