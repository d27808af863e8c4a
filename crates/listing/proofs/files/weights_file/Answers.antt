-- `weights_file` meets its contract: too long, or read by the call that it is for.
use mathlib.Core.Path.{◌∙◌}
use Rattle.text.proofs.Basics.{handed_on}
use Rattle.reader.proofs.ReadingLaws.{short_ok}
use Rattle.listing.proofs.ThreeFiles.{weights-long, weights-short}
use Rattle.listing.proofs.files.weights_file.Goals as goal

pub returns-in_err-short : goal.returns-in_err-short
returns-in_err-short c =
    rw (handed_on _ c.from_residual.ensures.1) (weights-long _ _ _ _ c.in_err-short.ensures)

pub returns : goal.returns
returns c = c.check_weights.ensures ∙ weights-short _ _ _ (short_ok _ _ c.in_ok-short.ensures)
