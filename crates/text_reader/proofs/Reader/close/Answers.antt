use Rattle.text_reader.specs.Place.{closed}
use Rattle.text.specs.Answers.{accepted}
use Rattle.text.specs.Lines.{need}
use Rattle.std.specs.declared.result.Result.TheVariants.{Err}
use mathlib.Core.Path.{ap, ◌∙◌}
use borrow.Author.Tests.{le-leb, lt-leb}
use Rattle.text_reader.proofs.Reader.close.Goals as goal

pub returns-then-self : goal.returns-then-self
unfolding closed accepted need
returns-then-self c = ap Err c.fault_at.ensures ∙ rw (lt-leb _ _ c.if-self.true)

pub returns : goal.returns
unfolding closed accepted need
returns c = rw (le-leb _ _ c.if-self.false)
