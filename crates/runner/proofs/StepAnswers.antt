-- What a step on a lent marking and the step call answer, by how their parts ended.
use Prim.Native.Nat.{ℕ, ◌≤◌, ◌<◌}
use mathlib.Core.Path.{◌≡◌, ap, sym, ◌∙◌}
use mathlib.Core.List.{List}
use mathlib.Core.Bool.{true, false}
use mathlib.Core.Option.{Option, none, some}
use lib.ListN.{length, length-map}
use borrow.Author.Tests.{le-leb, lt-leb}
use Rattle.text.specs.Bytes.{Text}
use Rattle.text.proofs.Basics.{and_true}
use Rattle.text.specs.Lines.{Outcome, bad}
use Rattle.text.specs.declared.Fault.{Fault}
use Rattle.text.specs.declared.Fault.{Fault}
use Rattle.std.specs.Prelude.{Result, Ok, Err}
use Rattle.eos.specs.Firing.{Written}
use Rattle.eos.specs.Causes.{Cause, first}
use Rattle.model.specs.Limits.{longest, room_limit}
use Rattle.marking.specs.Tokens.{tokens_in}
use Rattle.marking.specs.declared.NetToken.{NetToken}
use Rattle.marking.specs.declared.PlaceSizes.{PlaceSizes}
use Rattle.model.specs.Held.{SizedModel, model_of}
use Rattle.model.specs.Test.{held_model}
use Rattle.model.specs.declared.Model.{Model}
use Rattle.model.proofs.SlotLaws.{length-listed}
use Rattle.marking.specs.Held.{as_sizes, hold_line, tokens_of}
use Rattle.marking.specs.declared.Marking.{Marking}
use Rattle.reader.specs.Reading.{bounds}
use Rattle.marking.specs.Sizes.{place_sizes, sizes_for}
use Rattle.reader.specs.Answers.{held_both, held_in, admitted, faulty}
use Rattle.marking.proofs.HoldMarking.{held_few}
use Rattle.marking.proofs.SizeLaws.{held_roomy}
use Rattle.step.specs.Rule.{hold_rule}
use Rattle.step.specs.declared.Rule.{Rule}
use Rattle.step.specs.Reading.{read_step}
use Rattle.step.specs.declared.StepLines.{StepLines}
use Rattle.step.specs.declared.Refusal.{Refusal}
use Rattle.step.specs.Changing.{Changed, changed_or}
use Rattle.step.specs.Verdict.{left_held, causes_in, turned_by, verdict_of}
use Rattle.step.proofs.VerdictLaws.{never}
use Rattle.runner.specs.Answers.{read_then, tried, stays, stepped, held_step, where_held, stepping, stepping_in}
use Rattle.runner.specs.Parts.{ruled}
use Rattle.runner.proofs.StandsLaws.{Stands, held_stands}
use Rattle.runner.proofs.ReadLaws.{ReadLines}
use Rattle.runner.proofs.RuledLaws.{read_right, ruled_same}
use Rattle.reader.specs.declared.ReadRefusal.{ReadRefusal}
use Rattle.runner.specs.declared.StepRefusal.TheVariants.{Turned, Unread}
use Rattle.reader.specs.declared.ReadRefusal.TheVariants.{NotHeld, TooLong}
use Rattle.reader.proofs.ReadingLaws.{admitted_err}

-- ---- a step that was judged

refusal-is : {r s : Refusal} → ◌≡◌ {A = Result (Unit {0}) Refusal} (Err r) (Err s) → r ≡ s
refusal-is e = cc

module _ (next : ℕ) (k : Marking) (lines : ℕ) (ts : List NetToken) where
  -- for its lines
  pub turned_lines : (o : Option Cause) (r : Refusal) → Err r ≡ verdict_of lines o → stays (Turned r) k ≡ ruled next k lines ts o
  unfolding verdict_of ruled
  turned_lines none r e = never r e
  turned_lines (some c) r e = ap (λ (x : Refusal). stays (Turned x) k) (refusal-is e)

  -- by its change
  pub turned_change : (o : Option Cause) (r : Refusal) (after : Marking) → record { answer = Err r; marking = after } ≡ changed_or lines k ts o
      → record { answer = Err (Turned r); marking = after } ≡ ruled next k lines ts o
  unfolding changed_or ruled
  turned_change none r after e = never r (ap (λ (c : Changed). c.answer) e)
  turned_change (some c) r after e =
      let p : r ≡ turned_by lines c = refusal-is (ap (λ (c : Changed). c.answer) e) in
      let q : after ≡ k = ap (λ (c : Changed). c.marking) e in
      rw (p, q)

  pub fired_change : (o : Option Cause) (after : Marking) → record { answer = Ok tt; marking = after } ≡ changed_or lines k ts o
      → record { answer = Ok next; marking = after } ≡ ruled next k lines ts o
  unfolding changed_or ruled
  fired_change none after e = ap (λ (c : Changed). record { answer = Ok next; marking = c.marking }) e
  fired_change (some c) after e = never (turned_by lines c) (sym (ap (λ (c : Changed). c.answer) e))

-- ---- a step on a held marking

-- a held marking stands for net-tokens
pub both_stands : (m : Model) (k : Marking) → length k.entries ≡ room_limit → held_both m k ≡ true → Stands (sizes_for m) k
unfolding held_in
both_stands m k long h = let p = and_true (held_model m) _ h in held_stands (sizes_for m) (held_roomy m p.0) k long p.1

-- and has no more entries than there is room for
pub both_few : (m : Model) (k : Marking) → held_both m k ≡ true → k.len ≤ room_limit
unfolding held_in
both_few m k h = held_few room_limit (sizes_for m) k (and_true (held_model m) _ h).1

module _ (m : Model) (k : Marking) (s : Text) where
  -- what is read is what the definition reads
  abbrev pub reading : Outcome Written
  reading = read_step bounds (sizes_for m) m.listed s 0

  pub reading_is : (z : PlaceSizes) → z ≡ place_sizes m → read_step bounds (as_sizes z) m.listed s 0 ≡ reading
  reading_is z e = ap (λ (z : PlaceSizes). read_step bounds (as_sizes z) m.listed s 0) e

  pub tried_reads : (room : ℕ) → tried room (model_of m) (sizes_for m) (tokens_of (sizes_for m) k) s ≡ read_then room (model_of m) (tokens_of (sizes_for m) k) s reading
  unfolding tried model_of
  tried_reads room = rw (length-listed _ 0 m.listed)

  pub held_reads : (room : ℕ) → held_step room m k s ≡ stepped k (read_then room (model_of m) (tokens_of (sizes_for m) k) s reading)
  unfolding held_step
  held_reads room = ap (stepped k) (tried_reads room)

  -- its lines are refused
  pub step-refused : (room : ℕ) (e : Fault) → reading ≡ bad e → stays (Unread (faulty s e)) k ≡ held_step room m k s
  unfolding read_then stepped
  step-refused room e f = sym (held_reads room ∙ rw f)

  -- its lines are read, and it is judged
  pub step-ruled : (room : ℕ) → SizedModel m → held_model m ≡ true → Stands (sizes_for m) k → (next : ℕ) (lines : StepLines)
      → ReadLines lines reading next → (q : Rule) → q ≡ hold_rule (model_of m) lines.event
      → let taken = lines.taken.now in let given = lines.given.now in
      ruled next k (length taken) (left_held (tokens_in k) taken given) (first (causes_in room q taken given (tokens_in k))) ≡ held_step room m k s
  unfolding read_then
  step-ruled room sized held st next lines g q e =
      let t = g.step in
      let r = read_right (sizes_for m) m.listed s t next g.is in
      rw (e, g.event-is, g.taken_are, g.given_are, length-map t.taken hold_line)
      (ruled_same m sized held t r room k st next
      ∙ sym (held_reads room ∙ ap (λ (o : Outcome Written). stepped k (read_then room (model_of m) (tokens_of (sizes_for m) k) s o)) g.is))

  -- ---- the step call

  -- the call is refused before its step
  pub step-unread : (e : ReadRefusal) → Err e ≡ admitted m k s → stays (Unread e) k ≡ stepping m k s
  unfolding stepping_in where_held
  step-unread e h =
      admitted_err m k s e h
      (λ p long. rw (p, lt-leb (length s) longest long, stepping_in))
      (λ p few unheld. rw (p, le-leb (length s) longest few, stepping_in, unheld))

  pub step-long : longest < length s → stays (Unread TooLong) k ≡ stepping m k s
  unfolding stepping_in
  step-long h = rw (lt-leb (length s) longest h, stepping_in)

  module _ (few : length s ≤ longest) where
    pub step-unheld : held_both m k ≡ false → stays (Unread NotHeld) k ≡ stepping m k s
    unfolding stepping_in where_held
    step-unheld h = rw (le-leb (length s) longest few, stepping_in, h)

    pub step-held : held_both m k ≡ true → held_step room_limit m k s ≡ stepping m k s
    unfolding stepping_in where_held
    step-held h = rw (le-leb (length s) longest few, stepping_in, h)
