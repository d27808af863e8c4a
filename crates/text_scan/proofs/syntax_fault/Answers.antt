-- `syntax_fault` meets its contract.
use Rattle.text.specs.Answers.{syntax_fault}
use Rattle.text_scan.proofs.syntax_fault.Goals as goal

pub returns-in-Ok : goal.returns-in-Ok
unfolding syntax_fault
returns-in-Ok g c = rw c.in-Ok.is c.fault_at.ensures

pub returns-in-Err : goal.returns-in-Err
unfolding syntax_fault
returns-in-Err g c = rw c.in-Err.is c.fault_at-in-Err.ensures
