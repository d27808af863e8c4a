-- The lines of an event are accepted exactly where they are printed and right.
use Prim.Native.Nat.{ℕ, suc, pred}
use mathlib.Core.Path.{◌≡◌, refl, ap, ◌∙◌}
use mathlib.Core.Bool.{Bool, true, false, cond, not, ◌&&◌, false≢true}
use native.Mathlib.Omega.{arith}
use lib.Dec.{leb, ltb}
use borrow.Author.Tests.{ltb-true}
use Rattle.text.specs.Bytes.{Text, bytes}
use Rattle.text.proofs.Basics.{and_true}
use Rattle.text.specs.Lines.{need, in_range}
use Rattle.text.specs.Printed.{list_text}
use Rattle.text.specs.Keyed.{by_key, keyed_text, read_keyed}
use Rattle.text.specs.declared.Keyed.{Keyed}
use Rattle.text.specs.declared.Keyed.TheVariants.{Former, Latter}
use Rattle.text.proofs.TestLaws.{and_both, within-is, is_within}
use Rattle.text.proofs.Exactly.{Exactly, needed_exactly}
use Rattle.text.proofs.ManyExactly.{many_at_exactly}
use Rattle.text.proofs.LinesExactly.{list_exactly, keyed_exactly}
use Rattle.text.proofs.ChainExactly.{Makes, made_as, exactly_by, first_makes, last_makes}
use Rattle.eos.specs.Model.{Act, move, idle, alone, Event}
use Rattle.model.specs.Rules.{byte, list_of, Frame, own_net, takes_part, right_act, right_sync, right_event}
use Rattle.model_text.specs.Reading.{idle_key, idle_most, act_of_line, idles_well, read_act_line, read_act, read_sync, read_event}
use Rattle.model_text.specs.Printed.{act_text, event_text}
use Rattle.text.specs.declared.Cause.TheVariants.{Syntax, Idling}

-- a number from 1 by its index
suc_pred : (n k : ℕ) → in_range 1 n k ≡ true → suc (pred k) ≡ k
suc_pred n k h = let p = (within-is 1 n k h).0 in omega arith

-- the number, from 1, of an index below n, and back
numbered : (n k : ℕ) → ltb k n ≡ true → in_range 1 n (suc k) ≡ true
numbered n k h = is_within 1 n (suc k) (omega arith) (ltb-true k n h)

-- the line that says an act
abbrev line_of : Act → Keyed
line_of (move k) = Former (suc k)
line_of (idle p) = Latter (suc p)
line_of (alone n) = Latter (suc n)

-- the keys of the first line of an event begin with unlike bytes
pub unlike_idle : ◌≡◌ {A = ℕ} 101 105 → ⊥
unlike_idle e = omega (arith, e)

pub unlike_alone : ◌≡◌ {A = ℕ} 101 97 → ⊥
unlike_alone e = omega (arith, e)

-- such a line is accepted exactly where it is printed and in range
keys_exactly : (b : Bool) (range₁ range₂ : ℕ → Bool) (s : Text)
    → Exactly s (read_keyed (bytes "event=") (idle_key b) range₁ range₂ s) (keyed_text (bytes "event=") (idle_key b)) (by_key range₁ range₂)
keys_exactly true range₁ range₂ s = keyed_exactly 101 97 (bytes "vent=") (bytes "lone=") unlike_alone range₁ range₂ s
keys_exactly false range₁ range₂ s = keyed_exactly 101 105 (bytes "vent=") (bytes "dle=") unlike_idle range₁ range₂ s

-- ---- what the line of an act says is that act, under the header that has such a line

abbrev Said : Bool → Act → Type 0
Said b a = act_of_line b (line_of a) ≡ a

idle_not_alone : {p n : ℕ} → idle p ≡ alone n → ⊥
idle_not_alone e = let z : ◌≡◌ {A = ℕ} 0 1 = cc in omega (arith, z)

alone_not_idle : {n p : ℕ} → alone n ≡ idle p → ⊥
alone_not_idle e = let z : ◌≡◌ {A = ℕ} 0 1 = cc in omega (arith, z)

line_text : (b : Bool) (a : Act) → Said b a → keyed_text (bytes "event=") (idle_key b) (line_of a) ≡ act_text a
unfolding act_text
line_text b (move k) h = refl
line_text true (idle p) h = absurd (alone_not_idle h)
line_text false (idle p) h = refl
line_text true (alone n) h = refl
line_text false (alone n) h = absurd (idle_not_alone h)

-- a place, or a net, by the rules on the line and by the rules on the act
idle_to : (b typed : Bool) (nets places p : ℕ) → in_range 1 (cond b nets places) (suc p) ≡ true → cond b true typed ≡ true → Said b (idle p)
    → (not b && (ltb p places && typed)) ≡ true
idle_to true typed nets places p r w h = absurd (alone_not_idle h)
idle_to false typed nets places p r w h = and_both (ltb p places) typed (and_true (leb 1 (suc p)) (leb (suc p) places) r).1 w

idle_from : (b typed : Bool) (nets places p : ℕ) → (not b && (ltb p places && typed)) ≡ true
    → (in_range 1 (cond b nets places) (suc p) ≡ true) × (cond b true typed ≡ true) × Said b (idle p)
idle_from true typed nets places p h = absurd (false≢true h)
idle_from false typed nets places p h = let q = and_true (ltb p places) typed h in (numbered places p q.0, q.1, refl)

alone_to : (b typed : Bool) (nets places n : ℕ) → in_range 1 (cond b nets places) (suc n) ≡ true → Said b (alone n) → (b && ltb n nets) ≡ true
alone_to true typed nets places n r h = (and_true (leb 1 (suc n)) (leb (suc n) nets) r).1
alone_to false typed nets places n r h = absurd (idle_not_alone h)

alone_from : (b typed : Bool) (nets places n : ℕ) → (b && ltb n nets) ≡ true
    → (in_range 1 (cond b nets places) (suc n) ≡ true) × (cond b true typed ≡ true) × Said b (alone n)
alone_from true typed nets places n h = (numbered nets n h, refl, refl)
alone_from false typed nets places n h = absurd (false≢true h)

-- ---- the lines

module _ (f : Frame) (s : Text) where
  -- its range: the moves, or the nets or places, from 1
  abbrev pub act_ranged : Keyed → Bool
  act_ranged = by_key (in_range 1 f.moves) (in_range 1 (idle_most f))

  -- the line is accepted exactly where it is printed and in range
  pub act_line : Exactly s (read_act_line f s) (keyed_text (bytes "event=") (idle_key f.alone)) act_ranged
  act_line = keys_exactly f.alone (in_range 1 f.moves) (in_range 1 (idle_most f)) s

  -- an act says again the line that it was made of
  again : (a : Keyed) → act_ranged a ≡ true → line_of (act_of_line f.alone a) ≡ a
  again (Former k) h = ap Former (suc_pred f.moves k h)
  again (Latter n) h = by_header f.alone ∙ ap Latter (suc_pred (idle_most f) n h)
    where
      by_header : (b : Bool) → line_of (act_of_line b (Latter n)) ≡ Latter (suc (pred n))
      by_header true = refl
      by_header false = refl

  abbrev Fine : Act → Type 0
  Fine a = (act_ranged (line_of a) ≡ true) × (idles_well f (line_of a) ≡ true) × Said f.alone a

  act_makes : Makes s (read_act f s) act_text Fine
  unfolding read_act
  act_makes = made_as (last_makes act_line (idles_well f) Idling (act_of_line f.alone) line_of again) (λ a h. line_text f.alone a h.2)

  right_to : (a : Act) → Fine a → right_act f a ≡ true
  unfolding right_act
  right_to (move k) h = (and_true (leb 1 (suc k)) (leb (suc k) f.moves) h.0).1
  right_to (idle p) h = idle_to f.alone (leb 1 (f.type p)) f.nets f.places p h.0 h.1 h.2
  right_to (alone n) h = alone_to f.alone (leb 1 (f.type n)) f.nets f.places n h.0 h.2

  right_from : (a : Act) → right_act f a ≡ true → Fine a
  unfolding right_act
  right_from (move k) h = (numbered f.moves k h, refl, refl)
  right_from (idle p) h = idle_from f.alone (leb 1 (f.type p)) f.nets f.places p h
  right_from (alone n) h = alone_from f.alone (leb 1 (f.type n)) f.nets f.places n h

  -- the first line of an event
  pub act_exactly : Exactly s (read_act f s) act_text (right_act f)
  act_exactly = exactly_by act_makes right_to right_from

  -- the counts of a net
  pub sync_exactly : (own n : ℕ) → Exactly s (read_sync f own s n) (list_text (bytes "sync=")) (right_sync f own n)
  unfolding read_sync right_sync
  sync_exactly own n =
      needed_exactly s _ (list_text (bytes "sync=")) (list_of (f.steps n) byte) (list_exactly (bytes "sync=") (f.steps n) byte s) (takes_part own n) Idling

  -- the lines of an event
  pub event_exactly : Exactly s (read_event f s) event_text (right_event f)
  unfolding read_event event_text right_event need
  event_exactly =
      exactly_by (first_makes act_exactly
      (λ a. last_makes (many_at_exactly s (read_sync f (own_net f.type a) s) (list_text (bytes "sync=")) (right_sync f (own_net f.type a)) (sync_exactly (own_net f.type a)) 0 f.nets)
      (λ v. true) Syntax (λ v. record { act = a; sync = v }) (λ e. e.sync) (λ v h. refl))
      (λ e. e.act) (λ a e h r. ap (λ (e : Event). e.act) r.2))
      (λ e h. rw h.0 h.1.0)
      (λ e h. let p = and_true (right_act f e.act) _ h in (p.0, (p.1, refl, refl)))
