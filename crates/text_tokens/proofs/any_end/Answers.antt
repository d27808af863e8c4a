-- `any_end` meets its contract: what stands behind the values, where they are right.
use mathlib.Core.Path.{sym, ap, ◌∙◌}
use Rattle.text.specs.Number.{number}
use Rattle.text.specs.Capped.{cap, passed}
use Rattle.text.specs.Lists.{any_list}
use Rattle.text.proofs.Basics.{handed_on}
use Rattle.text.proofs.NumberLaws.{missing_of, exact_of}
use Rattle.text_tokens.specs.Ends.{times_at}
use Rattle.text_tokens.proofs.EndLaws.{end_missing, end_at}
use Rattle.text_tokens.proofs.any_end.Goals as goal

pub returns-in_err-end : goal.returns-in_err-end
returns-in_err-end c = rw (handed_on _ c.from_residual.ensures.1) (end_missing c.args.s.now (any_list number) c.args.x _ c.in_err-end.ensures)

pub returns-in_err-end-2 : goal.returns-in_err-end-2
returns-in_err-end-2 c =
    let s = c.args.s.now in
    let m = missing_of cap (times_at s c.in_ok-end.end) _ c.in_err-end-2.ensures in
    rw (handed_on _ c.from_residual-in_err-end-2.ensures.1) (sym (end_at s (any_list number) c.args.x _ c.in_ok-end.ensures ∙ ap passed m))

pub returns : goal.returns
returns c =
    let s = c.args.s.now in
    let r = exact_of cap (times_at s c.in_ok-end.end) _ c.in_ok-end-2.ensures in
    sym (end_at s (any_list number) c.args.x _ c.in_ok-end.ensures ∙ ap passed r.is)
