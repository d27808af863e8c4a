-- What passes the test of a held model is what the model that it stands for is held as.
use Prim.Native.Nat.{ℕ, ◌≤◌, ◌<◌}
use mathlib.Core.Path.{◌≡◌, refl, ap, sym, ◌∙◌}
use mathlib.Core.List.{List, []}
use mathlib.Core.Bool.{true, ◌&&◌}
use native.Mathlib.Omega.{arith}
use lib.Dec.{eqb}
use borrow.Author.Tests.{eqb-true}
use lib.ListN.{length, take, get_or}
use lib.Seq.{ext_get_or, length-take-le}
use Rattle.text.specs.Lines.{in_range, every}
use Rattle.text.specs.Repeat.{fill}
use Rattle.text.specs.Answers.{padded}
use Rattle.text.proofs.Basics.{and_true}
use Rattle.text.proofs.TestLaws.{within-is, eqb_and}
use Rattle.eos.specs.Model as eos
use Rattle.model.specs.Held.{pre_of, post_of, row, tabled, hold_net, hold_event, no_net, no_event, hold_nets, hold_events, hold_plant, Bytes, SizedNet, SizedModel, row_in, listed, sides_in, net_of, sync_in, event_of, model_of, plant_of}
use Rattle.model.specs.Test.{empty, empty_past, used_of, held_net, frame_in, held_event, empty_event}
use Rattle.model.specs.declared.ObjectNet.{ObjectNet}
use Rattle.model.specs.declared.Event.{Event}
use Rattle.model.specs.declared.Model.{Model}
use Rattle.model.proofs.PaddedRows.{padded-take}
use Rattle.model.proofs.SlotLaws.{cond_from, by_index, listed_at, length-listed}
use Rattle.model.proofs.TableLaws.{empty_rows, table_is}
use Rattle.model.proofs.HoldModel.{net-at, net_past, event-at, event_past, nets-long, events-long}
use Rattle.model.proofs.HeldTests.{Held, most-nets, most-places, most-moves, most-events, events-at, moves_are, EventIn}
use Rattle.model.proofs.HeldActs.{act-is}
use Rattle.model.proofs.UsedLaws.{types-empty, count-is, net_used, net-held, event_used}

-- a table of n transitions between `size` places
sides_table : (f : eos.Transition → List ℕ) → f eos.no_transition ≡ [] → (n size : ℕ) (t : List (List ℕ)) (g : ℕ → eos.Transition) → Bytes 32 t
    → n ≤ 32 → ((i : ℕ) → f (g i) ≡ row_in size t i) → empty_past 32 (used_of n size) t ≡ true → t ≡ tabled f 32 (listed g 0 n)
sides_table f nothing n size t g b few is h = table_is f eos.no_transition nothing 32 (λ i. size) n t g b few is h

-- a net
pub net_again : (n : ObjectNet) → SizedNet n → n.transitions ≤ 32 → held_net n ≡ true → n ≡ hold_net (net_of n)
unfolding held_net hold_net net_of
net_again n s few h =
    let used = used_of n.transitions n.places in
    let g = sides_in n.places n.pre n.post in
    let e = and_true (empty_past 32 used n.pre) (empty_past 32 used n.post) h in
    let p = sides_table pre_of refl n.transitions n.places n.pre g s.pre few (λ i. refl) e.0 in
    let q = sides_table post_of refl n.transitions n.places n.post g s.post few (λ i. refl) e.1 in
    let k = length-listed g 0 n.transitions in
    λ i. record { places = n.places; transitions = sym k i; pre = p i; post = q i }

net_none : (n : ObjectNet) → n.places ≡ 0 → n.transitions ≡ 0 → n ≡ hold_net (net_of n) → n ≡ no_net
unfolding hold_net net_of tabled fill
net_none n p q e =
    let g = sides_in n.places n.pre n.post in
    let k = length-listed g 0 n.transitions ∙ q in
    let a = ap (λ (k : ℕ). tabled pre_of 32 (listed g 0 k)) q in
    let b = ap (λ (k : ℕ). tabled post_of 32 (listed g 0 k)) q in
    e ∙ λ i. record { places = p i; transitions = k i; pre = a i; post = b i }

event_none : (e : Event) → Bytes 8 e.sync → empty_event e ≡ true → e ≡ no_event
unfolding empty_event
event_none e w h =
    let a = eqb_and e.kind 0 _ h in
    let b = eqb_and e.index 0 (every empty e.sync) a.1 in
    let s = empty_rows e.sync 8 w.long w.wide b.1 in
    λ i. record { kind = a.0 i; index = b.0 i; sync = s i }

module _ (m : Model) (sized : SizedModel m) (held : Held m) where
  nets : m.nets ≤ 8
  nets = most-nets m held

  places : m.places ≤ 32
  places = most-places m held

  -- ---- types

  types_again : m.types ≡ padded (take m.places m.types)
  types_again = sym (padded-take m.places m.types sized.types (types-empty m held sized.types))

  -- ---- nets

  abbrev net : ℕ → ObjectNet
  net k = get_or m.objects k no_net

  net-free : (k : ℕ) → k < 8 → m.nets ≤ k → ((net k).places ≡ 0) × ((net k).transitions ≡ 0)
  net-free k p h =
      let used = in_range 1 32 (net k).places && in_range 0 32 (net k).transitions in
      let t = rw (cond_from m.nets k used (eqb (net k).places 0 && eqb (net k).transitions 0) h) at (count-is m held k p) in
      let u = eqb_and (net k).places 0 (eqb (net k).transitions 0) t in
      (u.0, eqb-true (net k).transitions 0 u.1)

  abbrev nets_in : List eos.ObjectNet
  nets_in = listed (λ i. net_of (net i)) 0 m.nets

  nets_again : m.objects ≡ hold_nets nets_in
  nets_again =
      ext_get_or no_net m.objects (hold_nets nets_in) (sized.objects ∙ sym (nets-long nets_in)) λ k b.
      let q : k < 8 = omega (arith, sized.objects) in
      let long = length-listed (λ i. net_of (net i)) 0 m.nets in
      let few : length nets_in ≤ 8 = omega (arith, nets) in
      by_index m.nets k
      (λ p.
      let c = net_used m held k p in
      let e = net_again (net k) (sized.nets k q) (within-is 0 32 (net k).transitions c.1).1 (net-held m held k q) in
      e ∙ sym (net-at nets_in k few (omega arith) ∙ ap hold_net (listed_at (λ i. net_of (net i)) m.nets k eos.no_net p)))
      (λ p.
      let c = net-free k q p in
      let e = net_again (net k) (sized.nets k q) (omega (arith, c.1)) (net-held m held k q) in
      net_none (net k) c.0 c.1 e ∙ sym (net_past nets_in k few (omega arith)))

  -- ---- events

  abbrev event : ℕ → Event
  event k = get_or m.events k no_event

  event_again : (e : Event) → Bytes 8 e.sync → EventIn (frame_in m) e → e ≡ hold_event (event_of m.nets m.objects e)
  unfolding hold_event event_of
  event_again e long h =
      let a = act-is (frame_in m) e.kind e.index h.act in
      let s = table_is row [] refl 8 (frame_in m).steps m.nets e.sync (sync_in m.objects e.sync) long nets (λ i. refl) h.past in
      λ i. record { kind = sym a.same_kind i; index = sym a.same_index i; sync = s i }

  abbrev events_in : List eos.Event
  events_in = listed (λ i. event_of m.nets m.objects (event i)) 0 m.listed

  events_again : m.events ≡ hold_events events_in
  events_again =
      ext_get_or no_event m.events (hold_events events_in) (sized.events ∙ sym (events-long events_in)) λ k b.
      let q : k < 64 = omega (arith, sized.events) in
      let long = length-listed (λ i. event_of m.nets m.objects (event i)) 0 m.listed in
      let few : length events_in ≤ 64 = omega (arith, most-events m held) in
      by_index m.listed k
      (λ p.
      event_again (event k) (sized.sync k q) (event_used m held k p)
      ∙ sym (event-at events_in k few (omega arith) ∙ ap hold_event (listed_at (λ i. event_of m.nets m.objects (event i)) m.listed k eos.no_event p)))
      (λ p.
      let t = rw (cond_from m.listed k (held_event (frame_in m) (event k)) (empty_event (event k)) p) at (events-at m held.events k q) in
      event_none (event k) (sized.sync k q) t ∙ sym (event_past events_in k few (omega arith)))

  -- ---- all of it
  pub held_again : m ≡ hold_plant (plant_of m)
  unfolding hold_plant model_of
  held_again =
      let moves = moves_are m held.moves in
      let few = most-moves m held in
      let g = sides_in m.places m.pre m.post in
      let a = length-listed (λ i. net_of (net i)) 0 m.nets in
      let b = length-take-le m.places m.types (omega (arith, places, sized.types)) in
      let c = length-listed g 0 m.moves in
      let d = length-listed (λ i. event_of m.nets m.objects (event i)) 0 m.listed in
      let p = sides_table pre_of refl m.moves m.places m.pre g sized.pre few (λ i. refl) moves.pre in
      let q = sides_table post_of refl m.moves m.places m.post g sized.post few (λ i. refl) moves.post in
      λ i. record {
        header = m.header;
        nets = sym a i;
        places = sym b i;
        moves = sym c i;
        listed = sym d i;
        types = types_again i;
        pre = p i;
        post = q i;
        objects = nets_again i;
        events = events_again i;
      }
