-- With which faults the lines of an event are refused.
use Prim.Native.Nat.{ℕ, pred, ◌+◌, ◌<◌}
use mathlib.Core.Path.{◌≡◌, refl, sym, ◌∙◌}
use mathlib.Core.Bool.{Bool, true, false, cond, true≢false}
use mathlib.Core.Logic.{◌↔◌, ◌⊎◌, inl, inr, ⊎_elim}
use mathlib.Core.List.{List}
use native.Mathlib.Omega.{arith}
use native.Mathlib.Nat.{zero-add}
use borrow.Author.Tests.{leb-false}
use lib.Dec.{eqb, leb, lit<}
use lib.ListN.{length}
use Rattle.text.specs.Bytes.{Text, bytes}
use Rattle.text.specs.Lines.{bad, fault_at, fault, every, in_range, out_at}
use Rattle.text.specs.Keyed.{keyed_text, keyed_out, read_keyed}
use Rattle.text.specs.declared.Keyed.{Keyed}
use Rattle.text.specs.declared.Keyed.TheVariants.{Former, Latter}
use Rattle.text.specs.Repeat.{every_at}
use Rattle.text.specs.Printed.{decimal, number_text, list_text, texts}
use Rattle.text.specs.declared.Fault.{Fault}
use Rattle.text.proofs.Standing.{Stands, stands_left, stands_right, stands_join, ends_join}
use Rattle.text.proofs.LinesExactly.{list_exactly}
use Rattle.text.proofs.Refusals.{Refuses, Failing, Wrong, Beyond, LineFaults, RuledFaults, ThenFaults, ManyFaults, one_place, no_line_cause, made_refuses, ruled_refuses, then_refuses, many_at_refuses, ruled_two, ruled_three, ruled_why}
use Rattle.text.proofs.LinesRefused.{ListFaults, KeyedFaults, keyed_refuses, list_refuses}
use Rattle.eos.specs.Model.{Act, Event}
use Rattle.model.specs.Rules.{byte, list_of, Frame, own_net, takes_part, right_act, right_sync}
use Rattle.model.proofs.RuleFails.{PartFails, wrong_part}
use Rattle.model_text.specs.Reading.{idle_key, idle_most, act_of_line, idles_well, read_act, read_sync, read_event}
use Rattle.model_text.specs.Printed.{act_text, event_text}
use Rattle.model_text.proofs.EventExactly.{unlike_idle, unlike_alone, act_ranged, act_line, act_exactly, sync_exactly}
use Rattle.text.specs.declared.Cause.TheVariants.{Syntax, Idling, Range}

-- ---- the first line of an event

-- as it is written: `event=` and a move, or under header 2 `alone=` and a net, else `idle=` and a place, by numbers of any size
abbrev pub act_line_text : Frame → Keyed → Text
act_line_text f = keyed_text (bytes "event=") (idle_key f.alone)

-- where its number begins
abbrev pub act_out : Frame → ℕ → Keyed → ℕ
act_out f = keyed_out (bytes "event=") (idle_key f.alone)

-- the faults of the first line of an event
abbrev pub ActFaults : Text → Frame → ℕ → Fault → Type 0
ActFaults s f = RuledFaults s (act_line_text f) (LineFaults s (act_line_text f) (λ a. true) (act_ranged f s) (act_out f)) (act_ranged f s) (idles_well f) Idling

keys_refuses : (b : Bool) (range₁ range₂ : ℕ → Bool) (s : Text)
    → Refuses (read_keyed (bytes "event=") (idle_key b) range₁ range₂ s) (KeyedFaults s (bytes "event=") (idle_key b) range₁ range₂)
keys_refuses true range₁ range₂ s = keyed_refuses 101 97 (bytes "vent=") (bytes "lone=") unlike_alone range₁ range₂ s
keys_refuses false range₁ range₂ s = keyed_refuses 101 105 (bytes "vent=") (bytes "dle=") unlike_idle range₁ range₂ s

module _ (f : Frame) (s : Text) where
  pub act_refuses : Refuses (read_act f s) (ActFaults s f)
  unfolding read_act
  act_refuses =
      ruled_refuses (act_line f s) (keys_refuses f.alone (in_range 1 f.moves) (in_range 1 (idle_most f)) s) (idles_well f) Idling (act_of_line f.alone)

-- ---- the counts of a net, and the event

module _ (s : Text) (f : Frame) where
  -- the faults of the counts of net n, in an event that idles in the net own
  abbrev pub SyncFaults : ℕ → ℕ → ℕ → Fault → Type 0
  SyncFaults own n = RuledFaults s (list_text (bytes "sync=")) (ListFaults s (bytes "sync=") (f.steps n) byte) (list_of (f.steps n) byte) (takes_part own n) Idling

  -- of the lines of an event
  abbrev pub EventFaults : ℕ → Fault → Type 0
  EventFaults =
      ThenFaults s act_text (ActFaults s f) (right_act f) λ a.
      ManyFaults s (list_text (bytes "sync=")) (SyncFaults (own_net f.type a)) (right_sync f (own_net f.type a)) 0 f.nets

module _ (f : Frame) (s : Text) where
  pub sync_refuses : (own n : ℕ) → Refuses (read_sync f own s n) (SyncFaults s f own n)
  unfolding read_sync
  sync_refuses own n =
      ruled_refuses (list_exactly (bytes "sync=") (f.steps n) byte s) (list_refuses (bytes "sync=") (f.steps n) byte s) (takes_part own n) Idling (λ v. v)

  pub event_refuses : Refuses (read_event f s) (EventFaults s f)
  unfolding read_event
  event_refuses =
      then_refuses (act_exactly f s) (act_refuses f s) (λ a.
      made_refuses (many_at_refuses (sync_exactly f s (own_net f.type a)) (sync_refuses (own_net f.type a)) 0 f.nets)
      (λ v. record { act = a; sync = v }))

-- ---- a cause by its number

module _ (f : Frame) (s : Text) (at : ℕ) where
  -- the first line of an event is 2 at b exactly where no such line stands there, whatever its number, and b is the byte at fault
  pub act_two : (b : ℕ) → (read_act f s at ≡ bad (fault_at Syntax at b)) ↔ Wrong s (act_line_text f) (λ a. true) at b
  act_two = ruled_two s (read_act f s) (act_line_text f) (λ a. true) (act_ranged f s) (act_out f) (act_ranged f s) (idles_well f) Idling (lit< tt) (act_refuses f s) at

  -- 3 at b exactly where one does whose number, which begins at b, is that of no move, or of no net or place
  pub act_three : (b : ℕ) → (read_act f s at ≡ bad (fault_at Range at b)) ↔ Beyond s (act_line_text f) (λ a. true) (act_ranged f s) (act_out f) at b
  act_three = ruled_three s (read_act f s) (act_line_text f) (λ a. true) (act_ranged f s) (act_out f) (act_ranged f s) (idles_well f) Idling (lit< tt) (act_refuses f s) at

  -- 5 exactly where one in range idles at a place of black tokens
  pub act_five : (read_act f s at ≡ bad (fault Idling at)) ↔ Failing s (act_line_text f) (act_ranged f s) (idles_well f) at
  act_five = ruled_why s (read_act f s) (act_line_text f) (λ a. true) (act_ranged f s) (act_out f) (act_ranged f s) (idles_well f) Idling (lit< tt) (act_refuses f s) at

  module _ (own n : ℕ) where
    abbrev sync_out : ℕ → List ℕ → ℕ
    sync_out at = out_at decimal byte (at + length (bytes "sync="))

    -- the counts of net n are 2 at b exactly where no list of as many numbers stands there as the net has transitions, and b is the byte at fault
    pub sync_two : (b : ℕ) → (read_sync f own s n at ≡ bad (fault_at Syntax at b)) ↔ Wrong s (list_text (bytes "sync=")) (λ v. eqb (length v) (f.steps n)) at b
    sync_two = ruled_two s (read_sync f own s n) (list_text (bytes "sync=")) _ (every byte) sync_out (list_of (f.steps n) byte) (takes_part own n) Idling (lit< tt) (sync_refuses f s own n) at

    -- 3 at b exactly where one does whose first number over 255 begins at b
    pub sync_three : (b : ℕ) → (read_sync f own s n at ≡ bad (fault_at Range at b)) ↔ Beyond s (list_text (bytes "sync=")) (λ v. eqb (length v) (f.steps n)) (every byte) sync_out at b
    sync_three = ruled_three s (read_sync f own s n) (list_text (bytes "sync=")) _ (every byte) sync_out (list_of (f.steps n) byte) (takes_part own n) Idling (lit< tt) (sync_refuses f s own n) at

    -- 5 exactly where one in range takes part and should not, or should and does not
    pub sync_five : (read_sync f own s n at ≡ bad (fault Idling at)) ↔ Failing s (list_text (bytes "sync=")) (list_of (f.steps n) byte) (takes_part own n) at
    sync_five = ruled_why s (read_sync f own s n) (list_text (bytes "sync=")) _ (every byte) sync_out (list_of (f.steps n) byte) (takes_part own n) Idling (lit< tt) (sync_refuses f s own n) at

-- an event that idles at a place of black tokens stands there, under header 1
pub record IdlesBlack (f : Frame) (s : Text) (at : ℕ) : Type 0 where
  pub at_places : f.alone ≡ false
  pub place : ℕ
  pub stands : Stands s at (number_text (bytes "idle=") place)
  pub in-range : in_range 1 f.places place ≡ true
  pub black : f.type (pred place) ≡ 0

-- an event stands there and is right as far as the counts of its first nets; those of the next net stand at x, in range, but are all 0 where
-- the event idles in that net, or not all 0 where it idles in another
pub record WrongPart (f : Frame) (s : Text) (at x : ℕ) : Type 0 where
  pub event : Event
  pub stands : Stands s at (event_text event)
  pub act_right : right_act f event.act ≡ true
  pub nets-left : length event.sync < f.nets
  pub sync_right : every_at (right_sync f (own_net f.type event.act)) 0 event.sync ≡ true
  pub next_is : x ≡ at + length (event_text event)
  pub counts : List ℕ
  pub counts_stand : Stands s x (list_text (bytes "sync=") counts)
  pub counts_right : list_of (f.steps (length event.sync)) byte counts ≡ true
  pub wrong : PartFails (own_net f.type event.act) (length event.sync) counts

-- a rule is broken at places alone
not_alone : (b typed : Bool) → cond b true typed ≡ false → (b ≡ false) × (typed ≡ false)
not_alone true typed e = absurd (true≢false e)
not_alone false typed e = (refl, e)

module _ (f : Frame) (s : Text) (at x : ℕ) where
  act_part : Failing s (act_line_text f) (act_ranged f s) (idles_well f) at → IdlesBlack f s at
  act_part (Former n, st, li, ty) = absurd (true≢false ty)
  act_part (Latter n, st, li, ty) =
      let q = not_alone f.alone (leb 1 (f.type (pred n))) ty in
      let b = leb-false 1 (f.type (pred n)) q.1 in
      record { at_places = q.0; place = n; stands = rw q.0 at st; in-range = rw q.0 at li; black = omega (arith, b) }

  sync_part : (a : Act) → Stands s at (act_text a) → right_act f a ≡ true
      → ManyFaults s (list_text (bytes "sync=")) (SyncFaults s f (own_net f.type a)) (right_sync f (own_net f.type a)) 0 f.nets (at + length (act_text a)) (fault Idling x)
      → WrongPart f s at x
  unfolding event_text
  sync_part a st ri (l, lt, sts, ev, inl k) = absurd (no_line_cause (lit< tt) k)
  sync_part a st ri (l, lt, sts, ev, inr (q, (v, stv, ok, part))) =
      let t = texts (list_text (bytes "sync=")) l in
      record {
        event = record { act = a; sync = l };
        stands = stands_join s at (act_text a) t st sts;
        act_right = ri;
        nets-left = lt;
        sync_right = ev;
        next_is = one_place q ∙ ends_join at (act_text a) t;
        counts = v;
        counts_stand = rw (one_place q) stv;
        counts_right = rw (zero-add (length l)) at ok;
        wrong = (wrong_part (own_net f.type a) (length l) v).0 (rw (zero-add (length l)) at part);
      }

  -- the lines of an event are 5 exactly where it idles at a place of black tokens, there, or has the wrong part, at x
  pub event_five : (read_event f s at ≡ bad (fault Idling x)) ↔ (((x ≡ at) × IdlesBlack f s at) ⊎ WrongPart f s at x)
  unfolding event_text
  event_five = (
    λ h.
        ⊎_elim
        (⊎_elim (λ k. absurd (no_line_cause (lit< tt) k)) (λ k. inl (one_place k.0, act_part k.1)))
        (λ k. inr (sync_part k.0 k.1 k.2 k.3))
        ((event_refuses f s).back at (fault Idling x) h),
    λ h.
        (event_refuses f s).forth at (fault Idling x)
        (⊎_elim
        (λ k.
        let b = k.1 in
        inl (inr (rw k.0, (Latter b.place, rw b.at_places b.stands, rw b.at_places b.in-range, rw (b.at_places, b.black)))))
        (λ w.
        let a = w.event.act in
        let l = w.event.sync in
        let t = texts (list_text (bytes "sync=")) l in
        let e : x ≡ at + length (act_text a) + length t = w.next_is ∙ sym (ends_join at (act_text a) t) in
        let st : Stands s (at + length (act_text a) + length t) (list_text (bytes "sync=") w.counts) = rw (← e) w.counts_stand in
        inr (
          a,
          stands_left s at (act_text a) t w.stands,
          w.act_right,
          (
            l,
            w.nets-left,
            stands_right s at (act_text a) t w.stands,
            w.sync_right,
            inr (rw e, (w.counts, st, rw (zero-add (length l)) w.counts_right, rw (zero-add (length l)) ((wrong_part (own_net f.type a) (length l) w.counts).1 w.wrong))),
          ),
        ))
        h),
  )
