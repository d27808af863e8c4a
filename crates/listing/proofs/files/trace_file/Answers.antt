-- `trace_file` meets its contract: too long, or read by the call that it is for.
use mathlib.Core.Path.{ap, ◌∙◌}
use Rattle.reader.proofs.ReadingLaws.{short_ok}
use Rattle.runner_trace.specs.Running.{ran_to}
use Rattle.runner_trace.specs.declared.RunEnd.{RunEnd}
use Rattle.listing.proofs.ThreeFiles.{trace_long, trace_short}
use Rattle.listing.proofs.files.trace_file.Goals as goal

pub returns-in-Err : goal.returns-in-Err
returns-in-Err c = ap (λ (r : RunEnd). ran_to r c.args.k.now) c.run_refused.ensures ∙ trace_long _ _ _ _ c.in-Err.ensures

pub returns : goal.returns
returns c = c.run.ensures ∙ trace_short _ _ _ (short_ok _ _ c.in_default.ensures)
