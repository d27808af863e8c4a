-- Block by block is the whole step: what is taken, and what is given behind it.
use Prim.Native.Nat.{ℕ}
use mathlib.Core.Path.{◌≡◌, refl, sym, subst}
use mathlib.Core.List.{List, map}
use Rattle.std.specs.Prelude.{Result}
use Rattle.std.specs.declared.result.Result.TheVariants.{Ok, Err}
use Rattle.text.specs.Bytes.{bytes}
use Rattle.text.specs.Answers.{kept}
use Rattle.text.specs.declared.Fault.{Fault}
use Rattle.text_reader.specs.Place.{Reads}
use Rattle.text_reader.specs.declared.Reader.{Reader}
use Rattle.marking.specs.Held.{Sizes, hold_line}
use Rattle.marking.specs.declared.Entry.{Entry}
use Rattle.marking.specs.Reading.{Limits, read_block}
use Rattle.step.specs.Reading.{read_taking, read_step}
use Rattle.step.specs.Answers.{TakeRows, hold_taking, StepRows, hold_step}
use Rattle.step.proofs.StepReading.{untaken, ungiven, step_read}

-- what was read of a step up to what it takes, and what is given or refused behind it; a take that was refused is handed on
abbrev pub giving : Result TakeRows Fault → Result (List Entry) Fault → Result StepRows Fault
giving (Ok t) (Ok given) = Ok (record { event = t.event; taken = t.taken; given = given })
giving (Ok t) (Err e) = Err e
giving (Err e) given = Err e

module _ (lim : Limits) (z : Sizes) (events : ℕ) (old mid new : Reader) where
  -- behind a take that was read, what is given is read; behind one that was refused the reader stays
  abbrev pub Behind : Result TakeRows Fault → Result (List Entry) Fault → Type 0
  Behind (Ok t) given = Reads (kept (map hold_line) (read_block (bytes "give=") lim z mid.src.now mid.at)) mid new given
  Behind (Err e) given = new ≡ mid

  pub step-joined : (take : Result TakeRows Fault) (given : Result (List Entry) Fault)
      → Reads (kept hold_taking (read_taking lim z events old.src.now old.at)) old mid take → Behind take given
      → Reads (kept hold_step (read_step lim z events old.src.now old.at)) old new (giving take given)
  step-joined (Ok t) (Ok given) first second = step_read lim z events old t first given second
  step-joined (Ok t) (Err e) first second = ungiven lim z events old t first e second
  step-joined (Err e) given first second = subst (λ (r : Reader). Reads (kept hold_step (read_step lim z events old.src.now old.at)) old r (Err e)) (sym second) (untaken lim z events old e first)

-- a take that is refused ends the step
pub step_untaken : (lim : Limits) (z : Sizes) (events : ℕ) (old new : Reader) (e : Fault) → Reads (kept hold_taking (read_taking lim z events old.src.now old.at)) old new (Err e)
    → Reads (kept hold_step (read_step lim z events old.src.now old.at)) old new (Err e)
step_untaken lim z events old new e taken = step-joined lim z events old new new (Err e) (Err e) taken refl
