-- `read_model` meets its contract: a text that is too long, a line that is refused, or a model with its start.
use mathlib.Core.Path.{ap, ◌∙◌}
use Rattle.text.proofs.Basics.{handed_on}
use Rattle.std.specs.Prelude.{Err}
use Rattle.reader.proofs.ReadingLaws.{short_ok, model-long, model_refused, model_accepted, named_ok, named_err}
use Rattle.reader.proofs.read_model.Goals as goal

pub returns-in_err-short : goal.returns-in_err-short
returns-in_err-short c =
    rw (handed_on _ c.from_residual.ensures.1) (model-long _ _ c.in_err-short.ensures)

pub returns-in_err-named : goal.returns-in_err-named
returns-in_err-named c =
    rw (handed_on _ c.from_residual-in_err-named.ensures.1)
    (named_err _ _ c.in_err-named.ensures (λ d is e. ap Err e ∙ model_refused _ (short_ok _ _ c.in_ok-short.ensures) d (rw is at c.model_lines.ensures.read)))

pub returns : goal.returns
returns c = model_accepted _ (short_ok _ _ c.in_ok-short.ensures) _ _ (rw (named_ok _ _ c.in_ok-named.ensures) at c.model_lines.ensures.read)
