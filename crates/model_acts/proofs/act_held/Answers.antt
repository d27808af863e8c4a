-- `act_held` is `held_act`, case by case of the act.
use mathlib.Core.Path.{ap, sym, ◌∙◌}
use Rattle.model.specs.Rules.{right_act}
use Rattle.model.specs.Acts.{as_act}
use Rattle.model.specs.Test.{frame_with}
use Rattle.model.proofs.HeldActs.{held_no, held_yes}
use Rattle.model_acts.proofs.act_held.Goals as goal

pub returns-then-not-is_act : goal.returns-then-not-is_act
returns-then-not-is_act c = λ steps. let a = c.args in held_no _ _ _ (sym c.is_act.ensures ∙ c.if-not-is_act.true)

pub returns-in-Move : goal.returns-in-Move
unfolding right_act
returns-in-Move c = λ steps. let a = c.args in held_yes (frame_with a.m.now steps) _ _ _ (sym c.is_act.ensures ∙ c.if-not-is_act.false) (ap as_act (sym c.in-Move.is) ∙ c.act.ensures)

pub returns-in-Idle : goal.returns-in-Idle
unfolding right_act
returns-in-Idle c = λ steps. let a = c.args in rw c.typed.ensures (held_yes (frame_with a.m.now steps) _ _ _ (sym c.is_act.ensures ∙ c.if-not-is_act.false) (ap as_act (sym c.in-Idle.is) ∙ c.act.ensures))

pub returns-in-Alone : goal.returns-in-Alone
unfolding right_act
returns-in-Alone c = λ steps. let a = c.args in held_yes (frame_with a.m.now steps) _ _ _ (sym c.is_act.ensures ∙ c.if-not-is_act.false) (ap as_act (sym c.in-Alone.is) ∙ c.act.ensures)
