use mathlib.Core.Path.{◌≡◌, sym, ◌∙◌}
use native.Mathlib.Omega.{arith}
use Rattle.text.specs.Bytes.{lf, comma, star}
use lib.ListN.{get_or}
use Rattle.text.specs.Number.{number}
use Rattle.text.specs.Capped.{cap}
use Rattle.text.proofs.NumberLaws.{Exact, Capped, missing_of, exact_of, number_forward}
use Rattle.text.proofs.LineParts.{lf_closes, star_closes}
use Rattle.text_tokens.proofs.AnyLaws.{any_empty, any_start, any_missing, turn_inside, any_last, any_more}
use Rattle.text_tokens.proofs.any_values.Goals as goal
use Rattle.text_tokens.proofs.any_values.Goals.{In-Ok}

-- what `number` read in a turn
read : (c : In-Ok) → Exact (number c.args.s.now c.loop-end.at) (Capped c.in-Ok.field-0.value) c.in-Ok.field-0.end
read c = exact_of cap _ _ c.in-Ok.ensures

pub returns-then-not-digit : goal.returns-then-not-digit
returns-then-not-digit c =
    let d = sym (rw c.byte_at.ensures at c.digit.ensures) ∙ c.if-not-digit.true in
    (any_empty lf lf_closes _ _ d, any_empty star star_closes _ _ d)

pub loop-end-init : goal.loop-end-init
loop-end-init c =
    let d = sym (rw c.byte_at.ensures at c.digit.ensures) ∙ c.if-not-digit.false in
    (any_start lf lf_closes _ _ d, any_start star star_closes _ _ d)

pub returns-then-byte_at-ne44 : goal.returns-then-byte_at-ne44
returns-then-byte_at-ne44 c =
    let r = read (goal.at.returns-then-byte_at-ne44 c).In-Ok in
    let n : get_or c.args.s.now c.in-Ok.field-0.end 0 ≡ comma → ⊥ = λ e. c.if-byte_at-ne44.true (c.byte_at-in-Ok.ensures ∙ e) in
    let i = c.loop-end.invariant in
    (i.0 ∙ any_last lf lf_closes _ _ _ _ r.is n, i.1 ∙ any_last star star_closes _ _ _ _ r.is n)

pub loop-end-smaller : goal.loop-end-smaller
loop-end-smaller c =
    let r = read (goal.at.loop-end-smaller c).In-Ok in
    omega (arith, turn_inside c.args.s.now c.loop-end.at r.value _ r.is, number_forward c.args.s.now c.loop-end.at r.value _ r.is)

pub loop-end-preserved : goal.loop-end-preserved
loop-end-preserved c =
    let r = read (goal.at.loop-end-preserved c).In-Ok in
    let e = sym c.byte_at-in-Ok.ensures ∙ c.if-byte_at-ne44.false in
    let i = c.loop-end.invariant in
    (i.0 ∙ any_more lf lf_closes _ _ _ _ r.is e, i.1 ∙ any_more star star_closes _ _ _ _ r.is e)

pub returns : goal.returns
returns c =
    let m = missing_of cap (number c.args.s.now c.loop-end.at) _ c.in_default.ensures in
    let i = c.loop-end.invariant in
    (i.0 ∙ any_missing lf lf_closes _ _ _ m, i.1 ∙ any_missing star star_closes _ _ _ m)
