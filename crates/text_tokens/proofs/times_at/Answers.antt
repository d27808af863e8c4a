-- `times_at` meets its contract, by the byte behind the counts.
use mathlib.Core.Path.{sym, ap, ◌∙◌}
use Rattle.text.specs.Capped.{capped}
use Rattle.text_tokens.proofs.EndLaws.{times_one, times_star, times_other}
use Rattle.text_tokens.proofs.times_at.Goals as goal

pub returns-then-next-eq10 : goal.returns-then-next-eq10
returns-then-next-eq10 c = sym (ap capped (times_one _ _ (sym c.byte_at-next.ensures ∙ c.if-next-eq10.true)))

pub returns-then-next-ne42 : goal.returns-then-next-ne42
returns-then-next-ne42 c =
    sym (ap capped (times_other _ _ (λ e. c.if-next-eq10.false (c.byte_at-next.ensures ∙ e)) (λ e. c.if-next-ne42.true (c.byte_at-next.ensures ∙ e))))

pub returns : goal.returns
returns c =
    c.several.ensures
    ∙ sym (ap capped (times_star _ _ (λ e. c.if-next-eq10.false (c.byte_at-next.ensures ∙ e)) (sym c.byte_at-next.ensures ∙ c.if-next-ne42.false)))
