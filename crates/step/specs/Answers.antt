-- How what is read of a step's lines is held: its event, and the entries in the order of their lines, which are lent.
use Rattle.std.specs.Prelude.{ℕ, List, map, Result}
use Rattle.std.specs.Borrow.{Bor}
use Rattle.std.specs.declared.result.Result.TheVariants.{Ok, Err}
use Rattle.text.specs.declared.Fault.{Fault}
use Rattle.eos.specs.Firing.{Written}
use Rattle.marking.specs.declared.Entry.{Entry}
use Rattle.marking.specs.Held.{hold_line}
use Rattle.step.specs.Reading.{Taking}
use Rattle.step.specs.declared.TakeLines.{TakeLines}
use Rattle.step.specs.declared.StepLines.{StepLines}

-- entries that are lent
abbrev pub entries_lent : Result (Bor (List Entry)) Fault → Result (List Entry) Fault
entries_lent (Ok ts) = Ok ts.now
entries_lent (Err e) = Err e

-- what a step's lines say up to those that it takes
pub record TakeRows : Type 0 where
  pub event : ℕ
  pub taken : List Entry

abbrev pub hold_taking : Taking → TakeRows
hold_taking t = record { event = t.event; taken = map hold_line t.taken }

abbrev pub taking_lent : Result TakeLines Fault → Result TakeRows Fault
taking_lent (Ok t) = Ok (record { event = t.event; taken = t.taken.now })
taking_lent (Err e) = Err e

-- what a step's lines say
pub record StepRows : Type 0 where
  pub event : ℕ
  pub taken : List Entry
  pub given : List Entry

abbrev pub hold_step : Written → StepRows
hold_step t = record { event = t.event; taken = map hold_line t.taken; given = map hold_line t.given }

abbrev pub step_lent : Result StepLines Fault → Result StepRows Fault
step_lent (Ok t) = Ok (record { event = t.event; taken = t.taken.now; given = t.given.now })
step_lent (Err e) = Err e
