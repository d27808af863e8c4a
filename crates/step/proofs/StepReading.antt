-- The lines of a step read one after the other: its event, what it takes, and what it gives.
use Prim.Native.Nat.{ℕ, ◌-◌, ◌≤◌}
use mathlib.Core.Path.{◌≡◌, refl}
use mathlib.Core.List.{List, map}
use native.Mathlib.Omega.{arith}
use Rattle.std.specs.Prelude.{Result}
use Rattle.std.specs.declared.result.Result.TheVariants.{Ok, Err}
use Rattle.text.specs.Bytes.{Text, bytes}
use Rattle.text.specs.Lines.{Outcome, got, then, in_range, read_number}
use Rattle.text.specs.Answers.{kept}
use Rattle.text.specs.declared.Fault.{Fault}
use Rattle.text.proofs.TestLaws.{within-is}
use Rattle.text.proofs.LinesExactly.{number_exactly}
use Rattle.text_reader.specs.Place.{Reads}
use Rattle.text_reader.specs.declared.Reader.{Reader}
use Rattle.text_reader.proofs.ReadsLaws.{itself, plainly, read_of, first_refused, followed, passes}
use Rattle.eos.specs.Model as eos
use Rattle.eos.specs.Firing.{Written}
use Rattle.marking.specs.Held.{Sizes, hold_line}
use Rattle.marking.specs.Reading.{Limits, read_block}
use Rattle.marking.specs.declared.Entry.{Entry}
use Rattle.step.specs.Reading.{Taking, read_taking, read_step}
use Rattle.step.specs.Answers.{TakeRows, hold_taking, StepRows, hold_step}

module _ (lim : Limits) (z : Sizes) (events : ℕ) (old : Reader) where
  -- ---- up to what is taken

  abbrev fire : Outcome ℕ
  fire = read_number (bytes "fire=") (in_range 1 events) old.src.now old.at

  abbrev make_taking : ℕ → eos.Lines → ℕ → Outcome Taking
  make_taking e taken x₂ = got (record { event = e - 1; taken = taken }) x₂

  abbrev behind_fire : Text → ℕ → ℕ → Outcome Taking
  behind_fire s e x₁ = then (read_block (bytes "take=") lim z s x₁) (make_taking e)

  abbrev taking : Outcome Taking
  taking = read_taking lim z events old.src.now old.at

  pub fire_refused : {new : Reader} (e : Fault) → Reads fire old new (Err e) → Reads (kept hold_taking taking) old new (Err e)
  unfolding read_taking
  fire_refused e k = first_refused itself hold_taking fire behind_fire e (plainly k)

  module _ {a : Reader} (event : ℕ) (first : Reads fire old a (Ok event)) where
    -- an event is numbered from 1
    pub event_from-one : 1 ≤ event
    event_from-one =
        let q = read_of itself fire event (plainly first) in
        omega (arith, q.held, (within-is 1 events q.value ((number_exactly (bytes "fire=") (in_range 1 events) old.src.now).back old.at q.value a.at q.is).fine-is).0)

    abbrev take_lines : Outcome eos.Lines
    take_lines = read_block (bytes "take=") lim z a.src.now a.at

    at_fire : {new : Reader} (r : Result TakeRows Fault) → Reads (kept hold_taking (behind_fire a.src.now event a.at)) a new r → Reads (kept hold_taking taking) old new r
    unfolding read_taking
    at_fire r k = followed itself hold_taking fire behind_fire event r (plainly first) (λ v is same. rw (← same) k)

    pub take_refused : {new : Reader} (e : Fault) → Reads (kept (map hold_line) take_lines) a new (Err e) → Reads (kept hold_taking taking) old new (Err e)
    take_refused e k = at_fire (Err e) (first_refused (map hold_line) hold_taking take_lines (λ _. make_taking event) e k)

    pub taking_read : {new : Reader} (taken : List Entry) → Reads (kept (map hold_line) take_lines) a new (Ok taken)
        → Reads (kept hold_taking taking) old new (Ok (record { event = event - 1; taken = taken }))
    taking_read {new} taken k =
        at_fire _
        (followed (map hold_line) hold_taking take_lines (λ _. make_taking event) taken _ k
        (λ ts is held. rw held (passes hold_taking (make_taking event ts new.at) (record { event = event - 1; taken = ts }) refl refl)))

  -- ---- a whole step

  abbrev make_step : Taking → eos.Lines → ℕ → Outcome Written
  make_step t given x₂ = got (record { event = t.event; taken = t.taken; given = given }) x₂

  abbrev behind_taking : Text → Taking → ℕ → Outcome Written
  behind_taking s t x₁ = then (read_block (bytes "give=") lim z s x₁) (make_step t)

  abbrev whole : Outcome Written
  whole = read_step lim z events old.src.now old.at

  pub untaken : {new : Reader} (e : Fault) → Reads (kept hold_taking taking) old new (Err e) → Reads (kept hold_step whole) old new (Err e)
  unfolding read_step
  untaken e k = first_refused hold_taking hold_step taking behind_taking e k

  module _ {mid : Reader} (t : TakeRows) (first : Reads (kept hold_taking taking) old mid (Ok t)) where
    abbrev give_lines : Outcome eos.Lines
    give_lines = read_block (bytes "give=") lim z mid.src.now mid.at

    at_taking : {new : Reader} (r : Result StepRows Fault)
        → ((v : Taking) → t ≡ hold_taking v → Reads (kept hold_step (then give_lines (make_step v))) mid new r) → Reads (kept hold_step whole) old new r
    unfolding read_step
    at_taking r next = followed hold_taking hold_step taking behind_taking t r first (λ v is held. next v held)

    pub ungiven : {new : Reader} (e : Fault) → Reads (kept (map hold_line) give_lines) mid new (Err e) → Reads (kept hold_step whole) old new (Err e)
    ungiven e k = at_taking (Err e) (λ v held. first_refused (map hold_line) hold_step give_lines (λ _. make_step v) e k)

    pub step_read : {new : Reader} (given : List Entry) → Reads (kept (map hold_line) give_lines) mid new (Ok given)
        → Reads (kept hold_step whole) old new (Ok (record { event = t.event; taken = t.taken; given = given }))
    step_read {new} given k =
        at_taking _
        (λ v held.
        followed (map hold_line) hold_step give_lines (λ _. make_step v) given _ k
        (λ ts is held'. rw (held, held') (passes hold_step (make_step v ts new.at) (record { event = v.event; taken = v.taken; given = ts }) refl refl)))
