-- `fire` meets its contract: it is turned down for its lines, or else it is for its change to say.
use mathlib.Core.Path.{◌≡◌, ap, sym, ◌∙◌}
use Rattle.text.proofs.Basics.{handed_on}
use lib.ListN.{length}
use Rattle.eos.specs.Causes.{first}
use Rattle.marking.specs.Tokens.{tokens_in}
use Rattle.step.specs.Verdict.{left_held, causes_in}
use Rattle.step.specs.Changing.{changed_or, changing}
use Rattle.step.proofs.FiresLaws.{by_lines, by_marking}
use Rattle.runner.proofs.StepAnswers.{turned_lines, turned_change, fired_change}
use Rattle.runner.proofs.lent.fire.Goals as goal
use Rattle.runner.proofs.lent.fire.Goals.{In_ok-verdict}

pub verdict-requires : goal.verdict-requires
verdict-requires c = (c.requires.2, c.requires.3, c.requires.4)

pub returns-in_err-verdict : goal.returns-in_err-verdict
returns-in_err-verdict c =
    let a = c.args in
    rw (handed_on _ c.from_residual.ensures.1)
    (turned_lines _ _ _ _ _ _ (by_lines a.room (length a.taken.now) a.rule.now a.taken.now a.given.now (tokens_in a.k.now) _ c.in_err-verdict.ensures))

pub change-requires : goal.change-requires
change-requires c = (c.requires.0, c.requires.1, c.requires.5, c.requires.3, c.requires.4)

-- what its change answers is by its causes, where its lines meet none
whole : (c : In_ok-verdict) → let a = c.args in
    changing a.room a.k.now a.taken.now a.given.now
    ≡ changed_or (length a.taken.now) a.k.now (left_held (tokens_in a.k.now) a.taken.now a.given.now) (first (causes_in a.room a.rule.now a.taken.now a.given.now (tokens_in a.k.now)))
unfolding changing
whole c =
    let a = c.args in
    ap (changed_or (length a.taken.now) a.k.now (left_held (tokens_in a.k.now) a.taken.now a.given.now))
    (sym (by_marking a.room (length a.taken.now) a.rule.now a.taken.now a.given.now (tokens_in a.k.now) c.in_ok-verdict.ensures))

pub returns-in_err-change : goal.returns-in_err-change
returns-in_err-change c =
    rw (handed_on _ c.from_residual-in_err-change.ensures.1)
    (turned_change _ _ _ _ _ _ _ (c.in_err-change.ensures ∙ whole (goal.at.returns-in_err-change c).In_ok-verdict))

pub returns : goal.returns
returns c = fired_change _ _ _ _ _ _ (c.in_ok-change.ensures ∙ whole (goal.at.returns c).In_ok-verdict)
