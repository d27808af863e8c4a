-- A right model is read back from what it is held as; how it is held has the room and the bytes of the structs.
use Prim.Native.Nat.{ℕ, ◌≤◌, ◌<◌}
use mathlib.Core.Path.{◌≡◌, refl, ap, ap₂, ◌∙◌}
use mathlib.Core.List.{List, []}
use mathlib.Core.Bool.{true}
use native.Mathlib.Omega.{arith}
use lib.ListN.{length, get_or, get_or-eq_default}
use Rattle.text.specs.Lines.{every}
use Rattle.text.proofs.TestLaws.{and_eqb, within-is, every-at}
use Rattle.eos.specs.Model as eos
use Rattle.model.specs.Rules.{byte, list_of, Plant, frame_of, right_sides, right_net, right_plant}
use Rattle.model.specs.Held.{pre_of, post_of, row, tabled, hold_net, hold_event, no_net, no_event, hold_nets, hold_events, hold_plant, Bytes, SizedNet, SizedModel, listed, sides_in, net_of, sync_in, event_of, model_of, plant_of}
use Rattle.model.specs.declared.ObjectNet.{ObjectNet}
use Rattle.model.proofs.RuleLaws.{list_is, sides_are, sides_long, RightNet, net-is, RightEvent, sync_at, Right, right_is, few-nets, few-places, few-moves, few-events, few-steps, right_move_lem, right_net_lem, right_event_lem}
use Rattle.text.proofs.PaddedLaws.{take-padded, length-padded}
use Rattle.model.proofs.PaddedRows.{small_at}
use Rattle.model.proofs.HeldActs.{act-back}
use Rattle.model.proofs.SlotLaws.{by_index, listed-is, length-held, held_at, held_past}
use Rattle.model.proofs.TableLaws.{tabled_part, tabled-bytes, zero_bytes}

-- ---- what is looked up where it is held

-- a net at its index
pub net-at : (l : List eos.ObjectNet) (i : ℕ) → length l ≤ 8 → i < length l → get_or (hold_nets l) i no_net ≡ hold_net (get_or l i eos.no_net)
unfolding hold_nets
net-at l i h p = held_at hold_net no_net l 8 i eos.no_net h p

-- no net past the last
pub net_past : (l : List eos.ObjectNet) (i : ℕ) → length l ≤ 8 → length l ≤ i → get_or (hold_nets l) i no_net ≡ no_net
unfolding hold_nets
net_past l i h p = held_past hold_net no_net l 8 i h p

-- an event at its index
pub event-at : (l : List eos.Event) (i : ℕ) → length l ≤ 64 → i < length l → get_or (hold_events l) i no_event ≡ hold_event (get_or l i eos.no_event)
unfolding hold_events
event-at l i h p = held_at hold_event no_event l 64 i eos.no_event h p

-- no event past the last
pub event_past : (l : List eos.Event) (i : ℕ) → length l ≤ 64 → length l ≤ i → get_or (hold_events l) i no_event ≡ no_event
unfolding hold_events
event_past l i h p = held_past hold_event no_event l 64 i h p

-- the array of nets has room for 8
pub nets-long : (l : List eos.ObjectNet) → length (hold_nets l) ≡ 8
unfolding hold_nets
nets-long l = length-held hold_net no_net l 8

-- and that of events for 64
pub events-long : (l : List eos.Event) → length (hold_events l) ≡ 64
unfolding hold_events
events-long l = length-held hold_event no_event l 64

-- how many transitions a net has, of which none has any past the last net
pub steps-at : (l : List eos.ObjectNet) (i : ℕ) → length l ≤ 8 → (get_or (hold_nets l) i no_net).transitions ≡ length (get_or l i eos.no_net).transitions
unfolding hold_net
steps-at l i h =
    by_index (length l) i
    (λ p. ap (λ (n : ObjectNet). n.transitions) (net-at l i h p))
    (λ p. rw (net_past l i h p, get_or-eq_default l eos.no_net p))

-- ---- read back

-- transitions
sides_back : (size : ℕ) (l : List eos.Transition) → size ≤ 32 → length l ≤ 32
    → ((i : ℕ) → i < length l → right_sides size (get_or l i eos.no_transition) ≡ true)
    → listed (sides_in size (tabled pre_of 32 l) (tabled post_of 32 l)) 0 (length l) ≡ l
sides_back size l few h right =
    listed-is (sides_in size (tabled pre_of 32 l) (tabled post_of 32 l)) l eos.no_transition λ i p.
    let s = sides_long size (get_or l i eos.no_transition) (right i p) in
    ap₂ {C = eos.Transition} (λ a b. record { pre = a; post = b })
    (tabled_part pre_of eos.no_transition refl 32 l h i size p few s.0)
    (tabled_part post_of eos.no_transition refl 32 l h i size p few s.1)

-- an object net
pub net_of_hold : (n : eos.ObjectNet) → right_net n ≡ true → net_of (hold_net n) ≡ n
unfolding net_of hold_net
net_of_hold n h =
    let r = net-is n h in
    let few = within-is 1 32 n.size r.size in
    let some = within-is 0 32 (length n.transitions) r.few in
    let b = sides_back n.size n.transitions few.1 some.1 (λ i p. every-at (right_sides n.size) n.transitions i eos.no_transition r.sides p) in
    rw b

module _ (d : Plant) (right : Right d) where
  -- an event
  event_of_hold : (e : eos.Event) → RightEvent (frame_of d) e → event_of (length d.model.nets) (hold_nets d.model.nets) (hold_event e) ≡ e
  unfolding event_of hold_event
  event_of_hold e r =
      let nets = few-nets d right in
      let b : listed (sync_in (hold_nets d.model.nets) (tabled row 8 e.sync)) 0 (length e.sync) ≡ e.sync =
      listed-is (sync_in (hold_nets d.model.nets) (tabled row 8 e.sync)) e.sync [] (λ i p.
      let few = few-steps d right i (omega (arith, r.long)) in
      rw (steps-at d.model.nets i nets) (tabled_part row [] refl 8 e.sync (omega (arith, r.long)) i _ p few (sync_at (frame_of d) e r i p).long)) in
      ap₂ {C = eos.Event} (λ a s. record { act = a; sync = s }) (act-back e.act) (rw r.long at b)

  model-back : model_of (hold_plant d) ≡ d.model
  unfolding model_of hold_plant
  model-back =
      let nets = few-nets d right in
      let places = few-places d right in
      let p = take-padded d.model.types places in
      let q = sides_back (length d.model.types) d.model.moves places (few-moves d right) (right_move_lem d right) in
      let r = listed-is (λ i. net_of (get_or (hold_nets d.model.nets) i no_net)) d.model.nets eos.no_net (λ i h.
      ap net_of (net-at d.model.nets i nets h) ∙ net_of_hold (get_or d.model.nets i eos.no_net) (right_net_lem d right i h)) in
      let s = listed-is (λ i. event_of (length d.model.nets) (hold_nets d.model.nets) (get_or (hold_events d.model.events) i no_event)) d.model.events eos.no_event (λ i h.
      ap (event_of (length d.model.nets) (hold_nets d.model.nets)) (event-at d.model.events i (few-events d right) h)
      ∙ event_of_hold (get_or d.model.events i eos.no_event) (right_event_lem d right i h)) in
      λ i. record { types = p i; moves = q i; nets = r i; events = s i }

-- a right model is what it is held as stands for
pub model_of_hold : (d : Plant) → right_plant d ≡ true → model_of (hold_plant d) ≡ d.model
model_of_hold d h = model-back d (right_is d h)

-- and so it is with its header
pub plant_of_hold : (d : Plant) → right_plant d ≡ true → plant_of (hold_plant d) ≡ d
unfolding hold_plant
plant_of_hold d h = let p = model_of_hold d h in λ i. record { header = d.header; model = p i }

-- ---- room and bytes

-- a table of at most 32 numbers to a row
table_bytes : {A : Type 0} (f : A → List ℕ) (none : A) → f none ≡ [] → (rows : ℕ) (l : List A) → length l ≤ rows
    → ((i : ℕ) → i < length l → (n : ℕ) × (n ≤ 32) × (list_of n byte (f (get_or l i none)) ≡ true)) → Bytes rows (tabled f rows l)
table_bytes f none nothing rows l few h =
    tabled-bytes f none nothing rows l few (λ i p.
    let b = h i p in
    let w = list_is b.0 byte (f (get_or l i none)) b.2 in
    (omega (arith, b.1, w.0), small_at (f (get_or l i none)) w.1))

net-sized : (n : eos.ObjectNet) → RightNet n → SizedNet (hold_net n)
unfolding hold_net
net-sized n r =
    let size = (within-is 1 32 n.size r.size).1 in
    let few = (within-is 0 32 (length n.transitions) r.few).1 in
    let s : (i : ℕ) → i < length n.transitions → right_sides n.size (get_or n.transitions i eos.no_transition) ≡ true =
    λ i p. every-at (right_sides n.size) n.transitions i eos.no_transition r.sides p in
    record {
      pre = table_bytes pre_of eos.no_transition refl 32 n.transitions few (λ i p. (n.size, size, (sides_are n.size _ (s i p)).0));
      post = table_bytes post_of eos.no_transition refl 32 n.transitions few (λ i p. (n.size, size, (sides_are n.size _ (s i p)).1));
    }

module _ (d : Plant) (right : Right d) where
  event-sized : (e : eos.Event) → RightEvent (frame_of d) e → Bytes 8 (hold_event e).sync
  unfolding hold_event
  event-sized e r =
      let nets = few-nets d right in
      table_bytes row [] refl 8 e.sync (omega (arith, r.long)) λ i p.
      let s = sync_at (frame_of d) e r i p in
      let v = get_or e.sync i [] in
      ((frame_of d).steps i, few-steps d right i (omega (arith, r.long)), and_eqb (length v) ((frame_of d).steps i) (every byte v) s.long s.bytes)

  sized : SizedModel (hold_plant d)
  unfolding hold_plant
  sized =
      let n = length d.model.types in
      let places = few-places d right in
      let moves = few-moves d right in
      let nets = few-nets d right in
      let events = few-events d right in
      record {
        types = length-padded d.model.types;
        pre = table_bytes pre_of eos.no_transition refl 32 d.model.moves moves (λ i p. (n, places, (sides_are n _ (right_move_lem d right i p)).0));
        post = table_bytes post_of eos.no_transition refl 32 d.model.moves moves (λ i p. (n, places, (sides_are n _ (right_move_lem d right i p)).1));
        objects = nets-long d.model.nets;
        nets = λ i p.
            by_index (length d.model.nets) i
            (λ q. rw (net-at d.model.nets i nets q) (net-sized (get_or d.model.nets i eos.no_net) (net-is _ (right_net_lem d right i q))))
            (λ q. rw (net_past d.model.nets i nets q) (record { pre = zero_bytes 32; post = zero_bytes 32 }));
        events = events-long d.model.events;
        sync = λ i p.
            by_index (length d.model.events) i
            (λ q. rw (event-at d.model.events i events q) (event-sized (get_or d.model.events i eos.no_event) (right_event_lem d right i q)))
            (λ q. rw (event_past d.model.events i events q) (zero_bytes 8));
      }

-- what a right model is held as has the room and the bytes of the structs
pub hold_sized : (d : Plant) → right_plant d ≡ true → SizedModel (hold_plant d)
hold_sized d h = sized d (right_is d h)
