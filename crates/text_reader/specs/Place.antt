-- The place that the reader of a file has reached (01, "Files": "the reader of a file holds the lent bytes and the place it has reached").
use Rattle.std.specs.Prelude.{ℕ, ◌≡◌, leb, length, Result}
use Rattle.text.specs.Bytes.{Text}
use Rattle.text.specs.Lines.{Outcome, got, bad, need}
use Rattle.text.specs.Answers.{accepted}
use Rattle.text.specs.declared.Cause.TheVariants.{Syntax}
use Rattle.text.specs.declared.Fault.{Fault}
use Rattle.std.specs.declared.result.Result.TheVariants.{Ok, Err}
use Rattle.text_reader.specs.declared.Reader.{Reader}

-- the reader of the same bytes at another place
abbrev pub placed : Reader → ℕ → Reader
placed r at = record { src = r.src; at = at }

-- where the reader stands after a reading: behind what was read, or at the line at fault
abbrev pub Stands : {A : Type 0} → Outcome A → Reader → Reader → Type 0
Stands (got a next) old new = new ≡ placed old next
Stands (bad e) old new = new ≡ placed old e.at

-- what a reading answers, and where the reader stands after it
pub record Reads {A : Type 0} (o : Outcome A) (old new : Reader) (answer : Result A Fault) : Type 0 where
  pub answers : answer ≡ accepted o
  pub stands : Stands o old new

-- the same of a reading into lent memory: it answers whether it was read, beside what is held there
abbrev pub lent : {B : Type 0} → B → Result (Unit {0}) Fault → Result B Fault
lent b (Ok _) = Ok b
lent b (Err e) = Err e

-- the end of a text: 01 has "bytes after the last line" as a fault
unfoldable pub closed : Text → ℕ → Outcome (Unit {0})
closed s at = need (leb (length s) at) Syntax at (got tt at)
