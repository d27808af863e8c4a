-- The rules for a model, taken apart and put together.
use Prim.Native.Nat.{ℕ, ◌≤◌, ◌<◌}
use mathlib.Core.Path.{◌≡◌}
use mathlib.Core.List.{List, []}
use mathlib.Core.Bool.{Bool, true}
use native.Mathlib.Nat.{zero-add}
use lib.Dec.{leb}
use borrow.Author.Tests.{leb-true}
use lib.ListN.{length, get_or}
use Rattle.text.specs.Lines.{in_range, every}
use Rattle.text.specs.Repeat.{every_at}
use Rattle.text.proofs.Basics.{and_true}
use Rattle.text.proofs.TestLaws.{eqb_and, and_eqb, within-is, every-at, every_at-at}
use Rattle.eos.specs.Model.{Transition, ObjectNet, Event, places, no_transition, no_net, no_event}
use Rattle.model.specs.Rules.{byte, list_of, Plant, frame_of, Frame, own_net, takes_part, right_sides, right_net, right_act, right_sync, right_event, right_plant}

-- n numbers, each in the range
pub list_is : (n : ℕ) (range : ℕ → Bool) (l : List ℕ) → list_of n range l ≡ true → (length l ≡ n) × (every range l ≡ true)
list_is n range l h = eqb_and (length l) n (every range l) h

-- the sides of a transition
pub sides_are : (size : ℕ) (t : Transition) → right_sides size t ≡ true → (list_of size byte t.pre ≡ true) × (list_of size byte t.post ≡ true)
unfolding right_sides
sides_are size t h = and_true (list_of size byte t.pre) (list_of size byte t.post) h

-- and how long they are
pub sides_long : (size : ℕ) (t : Transition) → right_sides size t ≡ true → (length t.pre ≡ size) × (length t.post ≡ size)
sides_long size t h = let s = sides_are size t h in ((list_is size byte t.pre s.0).0, (list_is size byte t.post s.1).0)

pub record RightNet (n : ObjectNet) : Type 0 where
  pub size : in_range 1 32 n.size ≡ true
  pub few : in_range 0 32 (length n.transitions) ≡ true
  pub sides : every (right_sides n.size) n.transitions ≡ true

-- an object net by its rules
pub net-is : (n : ObjectNet) → right_net n ≡ true → RightNet n
unfolding right_net
net-is n h =
    let p = and_true (in_range 1 32 n.size) _ h in
    let q = and_true (in_range 0 32 (length n.transitions)) _ p.1 in
    record { size = p.0; few = q.0; sides = q.1 }

-- and from them
pub is-net : (n : ObjectNet) → RightNet n → right_net n ≡ true
unfolding right_net
is-net n r = rw (r.size, r.few) r.sides

pub record RightSync (f : Frame) (own n : ℕ) (v : List ℕ) : Type 0 where
  pub long : length v ≡ f.steps n
  pub bytes : every byte v ≡ true
  pub part : takes_part own n v ≡ true

-- the counts of a net by their rules
pub sync-is : (f : Frame) (own n : ℕ) (v : List ℕ) → right_sync f own n v ≡ true → RightSync f own n v
unfolding right_sync
sync-is f own n v h =
    let p = and_true (list_of (f.steps n) byte v) (takes_part own n v) h in
    let q = list_is (f.steps n) byte v p.0 in
    record { long = q.0; bytes = q.1; part = p.1 }

pub record RightEvent (f : Frame) (e : Event) : Type 0 where
  pub act : right_act f e.act ≡ true
  pub long : length e.sync ≡ f.nets
  pub sync : every_at (right_sync f (own_net f.type e.act)) 0 e.sync ≡ true

-- the counts of net i
pub sync_at : (f : Frame) (e : Event) → RightEvent f e → (i : ℕ) → i < length e.sync → RightSync f (own_net f.type e.act) i (get_or e.sync i [])
sync_at f e r i h =
    let own = own_net f.type e.act in
    sync-is f own i (get_or e.sync i []) (rw (zero-add i) at (every_at-at (right_sync f own) e.sync 0 i [] r.sync h))

-- an event by its rules
pub event-is : (f : Frame) (e : Event) → right_event f e ≡ true → RightEvent f e
unfolding right_event
event-is f e h =
    let p = and_true (right_act f e.act) _ h in
    let q = eqb_and (length e.sync) f.nets _ p.1 in
    record { act = p.0; long = q.0; sync = q.1 }

-- and from them
pub is-event : (f : Frame) (e : Event) → RightEvent f e → right_event f e ≡ true
unfolding right_event
is-event f e r = rw r.act (and_eqb (length e.sync) f.nets _ r.long r.sync)

pub record Right (p : Plant) : Type 0 where
  pub header : in_range 1 2 p.header ≡ true
  pub nets-few : in_range 0 8 (length p.model.nets) ≡ true
  pub places-few : in_range 1 32 (places p.model) ≡ true
  pub types : every (λ d. leb d (length p.model.nets)) p.model.types ≡ true
  pub moves-few : in_range 0 32 (length p.model.moves) ≡ true
  pub moves : every (right_sides (places p.model)) p.model.moves ≡ true
  pub nets : every right_net p.model.nets ≡ true
  pub events-few : in_range 0 64 (length p.model.events) ≡ true
  pub events : every (right_event (frame_of p)) p.model.events ≡ true

-- a model by its rules
pub right_is : (p : Plant) → right_plant p ≡ true → Right p
unfolding right_plant
right_is p h =
    let t = and_true (in_range 1 2 p.header) _ h in
    let a = and_true (in_range 0 8 (length p.model.nets)) _ t.1 in
    let b = and_true (in_range 1 32 (places p.model)) _ a.1 in
    let c = and_true (every (λ d. leb d (length p.model.nets)) p.model.types) _ b.1 in
    let d = and_true (in_range 0 32 (length p.model.moves)) _ c.1 in
    let e = and_true (every (right_sides (places p.model)) p.model.moves) _ d.1 in
    let f = and_true (every right_net p.model.nets) _ e.1 in
    let g = and_true (in_range 0 64 (length p.model.events)) _ f.1 in
    record { header = t.0; nets-few = a.0; places-few = b.0; types = c.0; moves-few = d.0; moves = e.0; nets = f.0; events-few = g.0; events = g.1 }

-- and from them
pub is_right : (p : Plant) → Right p → right_plant p ≡ true
unfolding right_plant
is_right p r = rw (r.header, r.nets-few, r.places-few, r.types, r.moves-few, r.moves, r.nets, r.events-few) r.events

-- ---- the parts of a right model, by index
module _ (p : Plant) (right : Right p) where
  -- how many nets
  pub few-nets : length p.model.nets ≤ 8
  few-nets = (within-is 0 8 (length p.model.nets) right.nets-few).1

  -- how many places
  pub few-places : places p.model ≤ 32
  few-places = (within-is 1 32 (places p.model) right.places-few).1

  -- how many moves
  pub few-moves : length p.model.moves ≤ 32
  few-moves = (within-is 0 32 (length p.model.moves) right.moves-few).1

  -- how many events
  pub few-events : length p.model.events ≤ 64
  few-events = (within-is 0 64 (length p.model.events) right.events-few).1

  -- the type of a place
  pub right_type : (i : ℕ) → i < places p.model → get_or p.model.types i 0 ≤ length p.model.nets
  right_type i h = leb-true (get_or p.model.types i 0) (length p.model.nets) (every-at (λ d. leb d (length p.model.nets)) p.model.types i 0 right.types h)

  -- a move
  pub right_move_lem : (i : ℕ) → i < length p.model.moves → right_sides (places p.model) (get_or p.model.moves i no_transition) ≡ true
  right_move_lem i h = every-at (right_sides (places p.model)) p.model.moves i no_transition right.moves h

  -- a net
  pub right_net_lem : (i : ℕ) → i < length p.model.nets → right_net (get_or p.model.nets i no_net) ≡ true
  right_net_lem i h = every-at right_net p.model.nets i no_net right.nets h

  -- an event
  pub right_event_lem : (i : ℕ) → i < length p.model.events → RightEvent (frame_of p) (get_or p.model.events i no_event)
  right_event_lem i h =
      event-is (frame_of p) (get_or p.model.events i no_event) (every-at (right_event (frame_of p)) p.model.events i no_event right.events h)

  -- how many transitions a net has
  pub few-steps : (i : ℕ) → i < length p.model.nets → (frame_of p).steps i ≤ 32
  few-steps i h = (within-is 0 32 ((frame_of p).steps i) (net-is (get_or p.model.nets i no_net) (right_net_lem i h)).few).1
