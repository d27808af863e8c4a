-- A model's arrays have their room, and bytes in it, from what owning it tells.
use Prim.Native.Nat.{ℕ, zero, suc, ◌≤◌, ◌<◌}
use mathlib.Core.List.{List, [], ◌∷◌}
use native.Mathlib.Omega.{arith}
use mathlib.Core.Path.{◌≡◌}
use lib.ListN.{length, get_or, get_or-eq_default}
use Rattle.model.proofs.SlotLaws.{by_index}
use mir.Val.{Val}
use mir.Syntax.{w8}
use denote.Laws.{Is}
use denote.Shadow.{shadow}
use denote.Plain.{UInt}
use denote.Array.{Array, each}
use denote.Struct.Loose.{Facts}
use Rattle.model.specs.Held.{Bytes, row_at, SizedNet, SizedModel, no_net, no_event}
use Rattle.model.specs.declared.ObjectNet.{ObjectNet}
use Rattle.model.specs.declared.Event.{Event}
use Rattle.model.specs.declared.Model.{Model}
use Rattle.model.specs.contracts.ObjectNet as net
use Rattle.model.specs.contracts.Event as event
use Rattle.model.specs.contracts.Model as model
use Rattle.model.proofs.Model.TheLaws.{the_maybe}
use Rattle.model.proofs.RoomLaws.{objects-room, events-room, types-room}

-- an array of bytes
each-small : (l : List ℕ) (us : List Val) → shadow (each ℕ (UInt w8).own_val l us) → (i : ℕ) → get_or l i 0 ≤ 255
each-small [] us s i = omega arith
each-small (v ∷ l) [] s i = absurd s
each-small (v ∷ l) (u ∷ us) s zero = omega (arith, s.0.1)
each-small (v ∷ l) (u ∷ us) s (suc i) = each-small l us s.1 i

-- the rows of a table
record RowIn (l : List ℕ) : Type 0 where
  long : length l ≡ 32
  small : (k : ℕ) → get_or l k 0 ≤ 255

row_is : (l : List ℕ) (us : List Val) → Is (Array (UInt w8) 32) l us → RowIn l
row_is l us s = record { long = s.1.0.1; small = each-small l s.0 s.1.1 }

each-row : (l : List (List ℕ)) (us : List Val) → shadow (each (List ℕ) (Array (UInt w8) 32).own_val l us) → (i : ℕ) → i < length l → RowIn (row_at l i)
each-row [] us s i h = absurd (omega arith)
each-row (v ∷ l) [] s i h = absurd s
each-row (v ∷ l) (u ∷ us) s zero h = row_is v _ s.0
each-row (v ∷ l) (u ∷ us) s (suc i) h = each-row l us s.1 i (omega arith)

bytes_in : (n : ℕ) (l : List (List ℕ)) (vs : List Val) → Is (Array (Array (UInt w8) 32) n) l vs → Bytes n l
bytes_in n l vs p =
    let rows = each-row l p.0 p.1.1 in
    record {
      long = p.1.0.1;
      wide = λ i h. (rows i (omega (arith, p.1.0.1))).long;
      small = λ i k.
          by_index (length l) i
          (λ h. (rows i h).small k)
          (λ h. let e : row_at l i ≡ [] = get_or-eq_default l [] h in rw e (omega arith));
    }

-- the object nets
net-sized : (n : ObjectNet) (vs : List Val) → Is net.the_row n vs → SizedNet n
net-sized n vs p = record { pre = bytes_in 32 n.pre _ p.1.1.1.1.0; post = bytes_in 32 n.post _ p.1.1.1.1.1.0 }

each-net : (l : List ObjectNet) (us : List Val) → shadow (each (net.the_row).Denot (net.the_row).own_val l us)
    → (i : ℕ) → i < length l → SizedNet (get_or l i no_net)
each-net [] us s i h = absurd (omega arith)
each-net (n ∷ l) [] s i h = absurd s
each-net (n ∷ l) (u ∷ us) s zero h = net-sized n (u ∷ []) s.0
each-net (n ∷ l) (u ∷ us) s (suc i) h = each-net l us s.1 i (omega arith)

-- the events
each-event : (l : List Event) (us : List Val) → shadow (each (event.the_row).Denot (event.the_row).own_val l us)
    → (i : ℕ) → i < length l → Bytes 8 (get_or l i no_event).sync
each-event [] us s i h = absurd (omega arith)
each-event (e ∷ l) [] s i h = absurd s
each-event (e ∷ l) (u ∷ us) s zero h = bytes_in 8 e.sync _ s.0.1.1.1.1.0
each-event (e ∷ l) (u ∷ us) s (suc i) h = each-event l us s.1 i (omega arith)

pub model-sized : (m : Model) (vs : List Val) → Is model.the_row m vs → SizedModel m
model-sized m vs p =
    let a = p.1.1.1.1.1.1.1 in
    let nets = objects-room m vs p in
    let events = events-room m vs p in
    record {
      types = types-room m vs p;
      pre = bytes_in 32 m.pre _ a.1.0;
      post = bytes_in 32 m.post _ a.1.1.0;
      objects = nets;
      nets = λ i h. each-net m.objects _ a.1.1.1.0.1.1 i (omega arith);
      events = events;
      sync = λ i h. each-event m.events _ a.1.1.1.1.0.1.1 i (omega arith);
    }

-- the same of a model that is lent, from what reading it tells
pub told-sized : (m : Model) → Facts model.the_type.parts the_maybe (model.the_type.to m) → SizedModel m
told-sized m p =
    let t = p.1.1.1.1.1 in
    let nets : length m.objects ≡ 8 = t.1.1.1.0.1.0.1 in
    let events : length m.events ≡ 64 = t.1.1.1.1.0.1.0.1 in
    record {
      types = t.0.1.0.1;
      pre = bytes_in 32 m.pre _ t.1.0;
      post = bytes_in 32 m.post _ t.1.1.0;
      objects = nets;
      nets = λ i h. each-net m.objects _ t.1.1.1.0.1.1 i (omega arith);
      events = events;
      sync = λ i h. each-event m.events _ t.1.1.1.1.0.1.1 i (omega arith);
    }
