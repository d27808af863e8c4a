-- What the calls of this crate answer and leave in lent memory, for every input; and the numbers of 01's table for each answer.
use Rattle.std.specs.Prelude.{ℕ, Bool, true, false, ◌&&◌, List, leb, length, Result, Ok, Err}
use Rattle.text.specs.Bytes.{Text}
use Rattle.text.specs.Lines.{Outcome, got, bad, spot_of, cause_number}
use Rattle.text.specs.Writing.{lay}
use Rattle.text.specs.declared.Fault.{Fault}
use Rattle.text.specs.declared.TooSmall as small
use Rattle.eos.specs.Counted.{spelt}
use Rattle.eos.specs.Model as eos
use Rattle.eos.specs.Causes.{Refusal}
use Rattle.model.specs.Limits.{room_limit, longest}
use Rattle.model.specs.Held.{hold_plant, no_model}
use Rattle.model.specs.Test.{held_model}
use Rattle.model.specs.declared.Model.{Model}
use Rattle.marking.specs.Held.{hold_marking, no_marking, tokens_of, held_marking}
use Rattle.marking.specs.Printed.{marking_text}
use Rattle.marking.specs.declared.Marking.{Marking}
use Rattle.reader.specs.Reading.{Loaded, read_model, read_marking}
use Rattle.marking.specs.Sizes.{sizes_for}
use Rattle.reader.specs.declared.ReadRefusal.{ReadRefusal}
use Rattle.reader.specs.declared.ReadRefusal.TheVariants.{TooLong, NotHeld, Faulty}
use Rattle.reader.specs.declared.ModelReading.{ModelReading}
use Rattle.reader.specs.declared.WriteRefusal.{WriteRefusal}
use Rattle.reader.specs.declared.WriteRefusal.TheVariants.{Unheld, TooSmall}

-- ---- 01's table: the number, what stands beside it, and 02's column (K5)

abbrev pub triple : ℕ → ℕ → ℕ → Refusal
triple n b c = record { number = n; beside = b; column = c }

-- without a column
abbrev pub pair : ℕ → ℕ → Refusal
pair n b = triple n b 0

-- what is answered is 0, and what is refused has its refusal's triple
abbrev pub triple_of : {A E : Type 0} → (E → Refusal) → Result A E → Refusal
triple_of refused (Ok a) = pair 0 0
triple_of refused (Err e) = refused e

abbrev pub unread_triple : ReadRefusal → Refusal
unread_triple TooLong = pair 1 0
unread_triple NotHeld = pair 14 0
unread_triple (Faulty e) = triple (cause_number e.cause) e.line e.column

abbrev pub read_triple : {A : Type 0} → Result A ReadRefusal → Refusal
read_triple r = triple_of unread_triple r

abbrev pub unwritten_triple : WriteRefusal → Refusal
unwritten_triple Unheld = pair 14 0
unwritten_triple (TooSmall n) = pair 13 n

abbrev pub write_triple : Result ℕ WriteRefusal → Refusal
write_triple r = triple_of unwritten_triple r

-- ---- reading

-- a fault as its line and its column
abbrev pub faulty : Text → Fault → ReadRefusal
faulty s e = Faulty (spot_of s e)

-- what was read of a text, where a fault is named by its line and its column
abbrev pub named : {A : Type 0} → Text → Result A Fault → Result A ReadRefusal
named s (Ok a) = Ok a
named s (Err e) = Err (faulty s e)

-- a text has at most so many bytes
unfoldable pub short : ℕ → Text → Result (Unit {0}) ReadRefusal
short most s = elim (leb (length s) most) [ true ↦ Ok tt | false ↦ Err TooLong ]

unfoldable pub loaded : Text → Outcome Loaded → Result ModelReading ReadRefusal
loaded s (got l x) = Ok (record { model = hold_plant l.plant; start = hold_marking (eos.canonical (spelt l.start)) })
loaded s (bad e) = Err (faulty s e)

-- reading a model: 1, then its lines
unfoldable pub model_reading : Text → Result ModelReading ReadRefusal
model_reading s = elim (leb (length s) longest) [ true ↦ loaded s (read_model s) | false ↦ Err TooLong ]

-- what a reading gives: refused, the empty model and no net-token
abbrev pub model_given : Result ModelReading ReadRefusal → ModelReading
model_given (Ok r) = r
model_given (Err e) = record { model = no_model; start = no_marking }

unfoldable pub restored : Text → Outcome eos.Lines → Result Marking ReadRefusal
restored s (got ls x) = Ok (hold_marking (eos.canonical (spelt ls)))
restored s (bad e) = Err (faulty s e)

unfoldable pub marking_or : Bool → Model → Text → Result Marking ReadRefusal
marking_or true m s = restored s (read_marking (sizes_for m) s)
marking_or false m s = Err NotHeld

-- reading a marking for a held model: 1, 14, then its lines
unfoldable pub marking_reading : Model → Text → Result Marking ReadRefusal
marking_reading m s = elim (leb (length s) longest) [ true ↦ marking_or (held_model m) m s | false ↦ Err TooLong ]

-- and what it gives: refused, no net-token
abbrev pub marking_given : Result Marking ReadRefusal → Marking
marking_given (Ok k) = k
marking_given (Err e) = no_marking

-- ---- the held test of a marking, with its room, for a model

unfoldable pub held_in : ℕ → Model → Marking → Bool
held_in room m k = held_model m && held_marking room (sizes_for m) k

abbrev pub held_both : Model → Marking → Bool
held_both m k = held_in room_limit m k

-- a model, a marking of it and a text for them: 1, then 14
unfoldable pub admitted : Model → Marking → Text → Result (Unit {0}) ReadRefusal
admitted m k s = elim (leb (length s) longest) [ true ↦ elim (held_both m k) [ true ↦ Ok tt | false ↦ Err NotHeld ] | false ↦ Err TooLong ]

-- ---- writing

-- what the writer answers, the bytes written or why not, and the lent bytes after it
pub record Answered : Type 0 where
  pub answer : Result ℕ WriteRefusal
  pub bytes : List ℕ

-- a text that does not fit
abbrev pub too_small : small.TooSmall → WriteRefusal
too_small e = TooSmall e.needed

-- how the writing of a text ended
abbrev pub written_as : Result ℕ small.TooSmall → Result ℕ WriteRefusal
written_as (Ok n) = Ok n
written_as (Err e) = Err (too_small e)

-- a text laid over the lent bytes from the first on: whole, or no byte of it
unfoldable pub lay_whole : Text → List ℕ → Answered
lay_whole text out = record { answer = written_as (lay text out 0).answer; bytes = (lay text out 0).bytes }

-- writing a marking: 14, then 13
unfoldable pub marking_writing : Model → Marking → List ℕ → Answered
marking_writing m k out =
    elim (held_both m k) [
      | true ↦ lay_whole (marking_text (tokens_of (sizes_for m) k)) out
      | false ↦ record { answer = Err Unheld; bytes = out }
    ]
