-- What a held model uses: the types of its places, its object nets, its events.
use Prim.Native.Nat.{ℕ, ◌+◌, ◌<◌}
use mathlib.Core.Path.{◌≡◌, ◌∙◌}
use mathlib.Core.Bool.{true, ◌&&◌}
use native.Mathlib.Omega.{arith}
use lib.Dec.{leb, eqb}
use borrow.Author.Tests.{eqb-true}
use lib.ListN.{length, drop, get_or, get_or-eq_default}
use lib.Seq.{get_or-drop}
use Rattle.text.proofs.Basics.{and_true}
use Rattle.text.specs.Lines.{in_range}
use Rattle.model.specs.declared.ObjectNet.{ObjectNet}
use Rattle.model.specs.declared.Event.{Event}
use Rattle.model.specs.declared.Model.{Model}
use Rattle.model.specs.Rules.{nth}
use Rattle.model.specs.Held.{no_net, no_event}
use Rattle.model.specs.Test.{empty, held_net, held_event, empty_event, frame_in}
use Rattle.model.proofs.PaddedRows.{empty_of}
use Rattle.model.proofs.SlotLaws.{cond_below, cond_from, by_index}
use Rattle.model.proofs.HeldTests.{Held, EventIn, event_in, most-nets, most-places, most-events, count_test, types-at, nets-at, events-at}

module _ (m : Model) (held : Held m) where
  -- a type that is used is a net's or 0
  pub type-below : (p : ℕ) → p < m.places → leb (nth m.types p) m.nets ≡ true
  type-below p h =
      let t = types-at m held.types p (omega (arith, most-places m held)) in
      rw (cond_below m.places p (leb (nth m.types p) m.nets) (eqb (nth m.types p) 0) h) at t

  -- behind the types that are used there is nothing but 0
  pub types-empty : length m.types ≡ 32 → empty (drop m.places m.types) ≡ true
  types-empty long =
      empty_of (drop m.places m.types) λ i.
      let p = m.places + i in
      get_or-drop m.places m.types i 0
      ∙ by_index 32 p
      (λ q.
      let t = types-at m held.types p q in
      eqb-true (nth m.types p) 0 (rw (cond_from m.places p (leb (nth m.types p) m.nets) (eqb (nth m.types p) 0) (omega arith)) at t))
      (λ q. get_or-eq_default m.types 0 (omega (arith, long)))

  abbrev net : ℕ → ObjectNet
  net k = get_or m.objects k no_net

  -- the counts of a net, used or not
  pub count-is : (k : ℕ) → k < 8 → count_test m.nets k (net k) ≡ true
  count-is k h = (and_true (count_test m.nets k (net k)) (held_net (net k)) (nets-at m held.nets k h)).0

  -- the counts of a net that is used
  pub net_used : (k : ℕ) → k < m.nets → (in_range 1 32 (net k).places ≡ true) × (in_range 0 32 (net k).transitions ≡ true)
  net_used k h =
      let size = in_range 1 32 (net k).places in
      let few = in_range 0 32 (net k).transitions in
      let t = rw (cond_below m.nets k (size && few) (eqb (net k).places 0 && eqb (net k).transitions 0) h) at (count-is k (omega (arith, most-nets m held))) in
      and_true size few t

  pub net-held : (k : ℕ) → k < 8 → held_net (net k) ≡ true
  net-held k h = (and_true (count_test m.nets k (net k)) (held_net (net k)) (nets-at m held.nets k h)).1

  abbrev event : ℕ → Event
  event k = get_or m.events k no_event

  -- an event that is used
  pub event_used : (k : ℕ) → k < m.listed → EventIn (frame_in m) (event k)
  event_used k h =
      let few = most-events m held in
      event_in (frame_in m) (event k)
      (rw (cond_below m.listed k (held_event (frame_in m) (event k)) (empty_event (event k)) h) at (events-at m held.events k (omega arith)))
