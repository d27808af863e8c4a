-- What passes the test of a held model stands for a right model.
use Prim.Native.Nat.{ℕ, ◌≤◌, ◌<◌}
use mathlib.Core.Path.{◌≡◌, ap, ◌∙◌}
use mathlib.Core.List.{List, []}
use mathlib.Core.Bool.{true}
use native.Mathlib.Omega.{arith}
use native.Mathlib.Nat.{zero-add}
use lib.Dec.{leb}
use borrow.Author.Tests.{le-leb}
use lib.ListN.{length, take, get_or}
use lib.Seq.{get_or-take, length-take-le}
use Rattle.text.specs.Lines.{in_range, every}
use Rattle.text.proofs.TestLaws.{and_both, and_eqb, within-is, every_of, every_at_of}
use Rattle.eos.specs.Model as eos
use Rattle.model.specs.Rules.{nth, byte, list_of, frame_of, right_sides, own_net, takes_part, right_net, right_sync, right_event, right_plant}
use Rattle.model.specs.Acts.{act_of}
use Rattle.model.specs.Held.{no_net, no_event, Bytes, SizedNet, SizedModel, row_at, row_in, listed, sides_in, net_of, sync_in, event_of, model_of, plant_of}
use Rattle.model.specs.Test.{frame_in}
use Rattle.model.specs.declared.ObjectNet.{ObjectNet}
use Rattle.model.specs.declared.Event.{Event}
use Rattle.model.specs.declared.Model.{Model}
use Rattle.model.proofs.RuleLaws.{is-net, is-event, Right, is_right}
use Rattle.model.proofs.SlotLaws.{listed_at, length-listed}
use Rattle.model.proofs.TableLaws.{length-row, empty-row}
use Rattle.model.proofs.HoldHeld.{frame_same}
use Rattle.model.proofs.UsedLaws.{type-below, net_used, event_used}
use Rattle.model.proofs.HeldBack.{held_again}
use Rattle.model.proofs.HeldTests.{Held, most-nets, most-places, most-moves, most-events, EventIn, part_same}
use Rattle.model.proofs.HeldActs.{act-is}

-- n numbers of a row of bytes
row_right : (rows : ℕ) (t : List (List ℕ)) → Bytes rows t → (i n : ℕ) → i < rows → n ≤ 32 → list_of n byte (row_in n t i) ≡ true
row_right rows t b i n h small =
    let long = length-row t i n (omega (arith, b.wide i h)) in
    and_eqb (length (row_in n t i)) n (every byte (row_in n t i)) long
    (every_of byte (row_in n t i) 0 (λ c p.
    rw (get_or-take n (row_at t i) c 0 (omega arith)) (le-leb (nth (row_at t i) c) 255 (b.small i c))))

-- the transitions of a table
sides_right : (size : ℕ) (pre post : List (List ℕ)) → Bytes 32 pre → Bytes 32 post → size ≤ 32 → (i : ℕ) → i < 32 → right_sides size (sides_in size pre post i) ≡ true
unfolding right_sides
sides_right size pre post a b small i h =
    and_both (list_of size byte (row_in size pre i)) (list_of size byte (row_in size post i)) (row_right 32 pre a i size h small) (row_right 32 post b i size h small)

-- a net
net_right : (n : ObjectNet) → SizedNet n → in_range 1 32 n.places ≡ true → in_range 0 32 n.transitions ≡ true → right_net (net_of n) ≡ true
unfolding net_of
net_right n s size few =
    let g = sides_in n.places n.pre n.post in
    let long = length-listed g 0 n.transitions in
    let small = (within-is 1 32 n.places size).1 in
    let most = (within-is 0 32 n.transitions few).1 in
    is-net (net_of n) (record {
      size = size;
      few = rw long few;
      sides = every_of (right_sides n.places) (listed g 0 n.transitions) eos.no_transition (λ i p.
          let q : i < n.transitions = omega (arith, long) in
          rw (listed_at g n.transitions i eos.no_transition q) (sides_right n.places n.pre n.post s.pre s.post small i (omega arith)));
    })

module _ (m : Model) (sized : SizedModel m) (held : Held m) where
  places : m.places ≤ 32
  places = most-places m held

  nets : m.nets ≤ 8
  nets = most-nets m held

  abbrev types_in : List ℕ
  types_in = take m.places m.types

  abbrev side : ℕ → eos.Transition
  side = sides_in m.places m.pre m.post

  abbrev net : ℕ → ObjectNet
  net k = get_or m.objects k no_net

  abbrev event : ℕ → eos.Event
  event k = event_of m.nets m.objects (get_or m.events k no_event)

  types_long : length types_in ≡ m.places
  types_long = length-take-le m.places m.types (omega (arith, places, sized.types))

  -- ---- moves
  move_right : (i : ℕ) → i < m.moves → right_sides (length types_in) (side i) ≡ true
  move_right i p = rw types_long (sides_right m.places m.pre m.post sized.pre sized.post places i (omega (arith, most-moves m held)))

  -- ---- events
  steps : (i : ℕ) → i < m.nets → (net i).transitions ≤ 32
  steps i p = (within-is 0 32 (net i).transitions (net_used m held i p).1).1

  event_right : (e : Event) → Bytes 8 e.sync → EventIn (frame_in m) e → right_event (frame_in m) (event_of m.nets m.objects e) ≡ true
  unfolding event_of right_sync
  event_right e b h =
      let f = frame_in m in
      let a = act_of e.kind e.index in
      let g = sync_in m.objects e.sync in
      let long = length-listed g 0 m.nets in
      is-event f (event_of m.nets m.objects e) (record {
        act = (act-is f e.kind e.index h.act).right;
        long = long;
        sync = every_at_of (right_sync f (own_net f.type a)) (listed g 0 m.nets) 0 [] (λ i p.
            let q : i < m.nets = omega (arith, long) in
            let w = (net i).transitions in
            let v = row_in w e.sync i in
            let same = empty-row 8 m.nets f.steps e.sync h.past nets i q in
            let part : takes_part (own_net f.type a) i v ≡ true = part_same _ i v (row_at e.sync i) same ∙ h.part i q in
            rw (zero-add i, listed_at g m.nets i [] q)
            (and_both (list_of w byte v) (takes_part (own_net f.type a) i v) (row_right 8 e.sync b i w (omega (arith, nets)) (steps i q)) part));
      })

  -- ---- all of it
  right : Right (plant_of m)
  unfolding model_of
  right =
      let few = most-events m held in
      let a = length-listed (λ i. net_of (net i)) 0 m.nets in
      let b = length-listed side 0 m.moves in
      let c = length-listed event 0 m.listed in
      let frame : frame_in m ≡ frame_of (plant_of m) =
      ap frame_in (held_again m sized held) ∙ frame_same (plant_of m) (omega (arith, types_long, places)) (omega (arith, a, nets)) in
      record {
        header = held.header;
        nets-few = rw a held.nets-few;
        places-few = rw types_long held.places-few;
        types = rw a (every_of (λ t. leb t m.nets) types_in 0 (λ i p.
            let q : i < m.places = omega (arith, types_long) in
            rw (get_or-take m.places m.types i 0 q) (type-below m held i q)));
        moves-few = rw b held.moves-few;
        moves = every_of (right_sides (length types_in)) (listed side 0 m.moves) eos.no_transition (λ i p.
            let q : i < m.moves = omega (arith, b) in
            rw (listed_at side m.moves i eos.no_transition q) (move_right i q));
        nets = every_of right_net (listed (λ i. net_of (net i)) 0 m.nets) eos.no_net (λ i p.
            let q : i < m.nets = omega (arith, a) in
            let u = net_used m held i q in
            rw (listed_at (λ i. net_of (net i)) m.nets i eos.no_net q) (net_right (net i) (sized.nets i (omega (arith, nets))) u.0 u.1));
        events-few = rw c held.events-few;
        events = every_of (right_event (frame_of (plant_of m))) (listed event 0 m.listed) eos.no_event (λ i p.
            let q : i < m.listed = omega (arith, c) in
            rw (listed_at event m.listed i eos.no_event q, ← frame)
            (event_right (get_or m.events i no_event) (sized.sync i (omega arith)) (event_used m held i q)));
      }

-- the model that a held model stands for is right
pub held_right : (m : Model) → SizedModel m → Held m → right_plant (plant_of m) ≡ true
held_right m sized held = is_right (plant_of m) (right m sized held)
