-- The test of a held model, taken apart; what it and the rules say of who takes part.
use Prim.Native.Nat.{ℕ, zero, suc, ◌≤◌, ◌<◌}
use mathlib.Core.Path.{◌≡◌, refl, ap}
use mathlib.Core.List.{List}
use mathlib.Core.Bool.{Bool, true, cond, not, beq}
use lib.Dec.{ltb, eqb}
use lib.ListN.{length}
use Rattle.text.specs.Lines.{in_range}
use Rattle.text.proofs.Basics.{and_true}
use Rattle.text.proofs.TestLaws.{within-is}
use Rattle.text.specs.Answers.{padded}
use Rattle.model.specs.Rules.{Frame, takes_part}
use Rattle.model.specs.Acts.{held_act, own_in}
use Rattle.model.specs.Held.{row_at}
use Rattle.model.specs.Test.{empty, empty_past, used_of, held_types, held_moves, held_nets, frame_in, held_event, held_events, held_model, counts_are, type_at, sizes_are, net_at, event_at}
use Rattle.model.specs.declared.ObjectNet.{ObjectNet}
use Rattle.model.specs.declared.Event.{Event}
use Rattle.model.specs.declared.Model.{Model}
use Rattle.model.proofs.SlotLaws.{below_at, below_of}
use Rattle.model.proofs.PaddedRows.{empty-padded}

-- the parts of the test
pub record Held (m : Model) : Type 0 where
  pub header : in_range 1 2 m.header ≡ true
  pub nets-few : in_range 0 8 m.nets ≡ true
  pub places-few : in_range 1 32 m.places ≡ true
  pub moves-few : in_range 0 32 m.moves ≡ true
  pub events-few : in_range 0 64 m.listed ≡ true
  pub types : held_types m ≡ true
  pub moves : held_moves m ≡ true
  pub nets : held_nets m ≡ true
  pub events : held_events m ≡ true

-- a held model by its test
pub held-is : (m : Model) → held_model m ≡ true → Held m
unfolding held_model
held-is m h =
    let t = and_true (counts_are m.header m.nets m.places m.moves m.listed) _ h in
    let o = and_true (in_range 1 2 m.header) _ t.0 in
    let a = and_true (in_range 0 8 m.nets) _ o.1 in
    let b = and_true (in_range 1 32 m.places) _ a.1 in
    let c = and_true (in_range 0 32 m.moves) (in_range 0 64 m.listed) b.1 in
    let e = and_true (held_types m) _ t.1 in
    let f = and_true (held_moves m) _ e.1 in
    let g = and_true (held_nets m) (held_events m) f.1 in
    record { header = o.0; nets-few = a.0; places-few = b.0; moves-few = c.0; events-few = c.1; types = e.0; moves = f.0; nets = g.0; events = g.1 }

-- and from its parts
pub is_held : (m : Model) → Held m → held_model m ≡ true
unfolding held_model
is_held m h = rw (h.header, h.nets-few, h.places-few, h.moves-few, h.events-few, h.types, h.moves, h.nets) h.events

module _ (m : Model) (held : Held m) where
  -- how many nets
  pub most-nets : m.nets ≤ 8
  most-nets = (within-is 0 8 m.nets held.nets-few).1

  -- how many places
  pub most-places : m.places ≤ 32
  most-places = (within-is 1 32 m.places held.places-few).1

  -- how many moves
  pub most-moves : m.moves ≤ 32
  most-moves = (within-is 0 32 m.moves held.moves-few).1

  -- how many events
  pub most-events : m.listed ≤ 64
  most-events = (within-is 0 64 m.listed held.events-few).1

-- ---- the tests at each index

-- the test of a place's type
abbrev pub type_test : Model → ℕ → Bool
type_test m = type_at m.nets m.places m.types

-- it holds at each place
pub types-at : (m : Model) → held_types m ≡ true → (p : ℕ) → p < 32 → type_test m p ≡ true
unfolding held_types
types-at m h p q = below_at 32 (type_test m) h p q

-- and from each place
pub types_of : (m : Model) → ((p : ℕ) → p < 32 → type_test m p ≡ true) → held_types m ≡ true
unfolding held_types
types_of m h = below_of 32 (type_test m) h

-- the counts of a net, used or not
abbrev pub count_test : ℕ → ℕ → ObjectNet → Bool
count_test nets k n = sizes_are nets k n.places n.transitions

-- the test of a net
abbrev pub net_test : Model → ℕ → Bool
net_test m = net_at m.nets m.objects

-- it holds at each net
pub nets-at : (m : Model) → held_nets m ≡ true → (k : ℕ) → k < 8 → net_test m k ≡ true
unfolding held_nets
nets-at m h k q = below_at 8 (net_test m) h k q

-- and from each net
pub nets_of_lem : (m : Model) → ((k : ℕ) → k < 8 → net_test m k ≡ true) → held_nets m ≡ true
unfolding held_nets
nets_of_lem m h = below_of 8 (net_test m) h

-- the test of an event
abbrev pub event_test : Model → ℕ → Bool
event_test m = event_at (frame_in m) m.listed m.events

-- it holds at each event
pub events-at : (m : Model) → held_events m ≡ true → (k : ℕ) → k < 64 → event_test m k ≡ true
unfolding held_events
events-at m h k q = below_at 64 (event_test m) h k q

-- and from each event
pub events_of_lem : (m : Model) → ((k : ℕ) → k < 64 → event_test m k ≡ true) → held_events m ≡ true
unfolding held_events
events_of_lem m h = below_of 64 (event_test m) h

-- the parts of the test of moves
pub record Moves (m : Model) : Type 0 where
  pub pre : empty_past 32 (used_of m.moves m.places) m.pre ≡ true
  pub post : empty_past 32 (used_of m.moves m.places) m.post ≡ true

-- the moves pass by the parts of their test
pub are_moves : (m : Model) → Moves m → held_moves m ≡ true
unfolding held_moves
are_moves m h = rw h.pre h.post

-- and the parts by the test
pub moves_are : (m : Model) → held_moves m ≡ true → Moves m
unfolding held_moves
moves_are m h = let a = and_true (empty_past 32 (used_of m.moves m.places) m.pre) _ h in record { pre = a.0; post = a.1 }

-- whether net n takes part as it has to
abbrev pub part_test : Frame → Event → ℕ → Bool
part_test f e n = takes_part (own_in f.type e.kind e.index) n (row_at e.sync n)

-- the parts of the test of an event
pub record EventIn (f : Frame) (e : Event) : Type 0 where
  pub act : held_act f e.kind e.index ≡ true
  pub past : empty_past 8 (λ n. cond (ltb n f.nets) (f.steps n) 0) e.sync ≡ true
  pub part : (n : ℕ) → n < f.nets → part_test f e n ≡ true

-- an event by its test
pub event_in : (f : Frame) (e : Event) → held_event f e ≡ true → EventIn f e
unfolding held_event
event_in f e h =
    let a = and_true (held_act f e.kind e.index) _ h in
    let b = and_true (empty_past 8 (λ n. cond (ltb n f.nets) (f.steps n) 0) e.sync) _ a.1 in
    record { act = a.0; past = b.0; part = below_at f.nets (part_test f e) b.1 }

-- and from its parts
pub in_event : (f : Frame) (e : Event) → EventIn f e → held_event f e ≡ true
unfolding held_event
in_event f e h = rw (h.act, h.past) (below_of f.nets (part_test f e) h.part)

-- ---- who takes part

-- who takes part is seen by whether all counts are 0
pub part_same : (own n : ℕ) (v w : List ℕ) → empty v ≡ empty w → takes_part own n v ≡ takes_part own n w
unfolding takes_part
part_same zero n v w e = refl
part_same (suc own) n v w e = ap (λ (b : Bool). beq (eqb own n) (not b)) e

-- padding does not show in who takes part
pub part_padded : (own n : ℕ) (l : List ℕ) → length l ≤ 32 → takes_part own n (padded l) ≡ takes_part own n l
part_padded own n l h = part_same own n (padded l) l (empty-padded l h)
