-- `take` meets its contract: behind a value the reader stands behind it, and where there is none at the line at fault.
use Rattle.text_reader.proofs.ReadsLaws.{take_refused, take_read}
use Rattle.text_reader.proofs.Reader.take.Goals as goal

pub returns-in-Ok : goal.returns-in-Ok
returns-in-Ok g c = λ o e. take_read o c.args.read c.in-Ok.parsed e c.in-Ok.is

pub returns-in-Err : goal.returns-in-Err
returns-in-Err g c = λ o e. take_refused o c.args.read _ e c.in-Err.is
