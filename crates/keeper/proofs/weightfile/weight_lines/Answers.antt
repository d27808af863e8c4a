-- `weight_lines` reads the lines and the end of the text: a line is refused, bytes stand behind them, or nothing does.
use mathlib.Core.Path.{ap, ◌∙◌}
use Rattle.text.proofs.Basics.{handed_on}
use Rattle.text.specs.Lines.{Outcome}
use Rattle.text.specs.Answers.{kept, accepted}
use Rattle.eos.specs.Weights.{Weights}
use Rattle.model.specs.Held.{model_of}
use Rattle.keeper.specs.Held.{hold_weights}
use Rattle.keeper.specs.Parts.{read_weight_lines}
use Rattle.keeper.proofs.ChainLaws.{blocks_are_lines, lines_refused, lines_end}
use Rattle.keeper.proofs.weightfile.weight_lines.Goals as goal

pub returns-in_err-weights : goal.returns-in_err-weights
returns-in_err-weights c =
    let m = model_of c.args.m.now in
    rw (handed_on _ c.from_residual.ensures.1)
    (lines_refused (read_weight_lines m c.args.s.now 0) (record { src = c.args.s; at = 0 }) _ _ c.in_err-weights.ensures
    ∙ ap (λ (o : Outcome Weights). accepted (kept hold_weights o)) (blocks_are_lines m c.args.s.now 0))

pub returns-in_err-close : goal.returns-in_err-close
returns-in_err-close c =
    let m = model_of c.args.m.now in
    rw (handed_on _ c.from_residual-in_err-close.ensures.1)
    (lines_end (read_weight_lines m c.args.s.now 0) (record { src = c.args.s; at = 0 }) _ _ c.in_ok-weights.ensures _ c.in_err-close.ensures
    ∙ ap (λ (o : Outcome Weights). accepted (kept hold_weights o)) (blocks_are_lines m c.args.s.now 0))

pub returns : goal.returns
returns c =
    let m = model_of c.args.m.now in
    lines_end (read_weight_lines m c.args.s.now 0) (record { src = c.args.s; at = 0 }) _ _ c.in_ok-weights.ensures _ c.in_ok-close.ensures
    ∙ ap (λ (o : Outcome Weights). accepted (kept hold_weights o)) (blocks_are_lines m c.args.s.now 0)
