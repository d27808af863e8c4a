-- `start_lines` reads net-tokens to the end of the text: a line is refused, bytes stand behind them, or nothing does.
use mathlib.Core.Path.{refl}
use Rattle.text.proofs.Basics.{handed_on}
use Rattle.reader.proofs.LineLaws.{tokens-to_end}
use Rattle.reader.proofs.lines.start_lines.Goals as goal

pub returns-in_err-start : goal.returns-in_err-start
returns-in_err-start c =
    rw (handed_on _ c.from_residual.ensures.1) (tokens-to_end _ c.args.r.now _ _ c.in_err-start.ensures.read _ refl)

pub returns : goal.returns
returns c = tokens-to_end _ c.args.r.now _ _ c.in_ok-start.ensures.read _ c.close.ensures
