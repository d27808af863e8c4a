-- The test of a held model (01's cause 14): counts in range, unused room 0, and the rules on types and events, each looked up where it is
-- held.
use Rattle.std.specs.Prelude.{ℕ, Bool, cond, ◌&&◌, List, leb, eqb, ltb, drop, get_or}
use Rattle.text.specs.Lines.{in_range, every}
use Rattle.eos.specs.Firing.{all_below}
use Rattle.model.specs.Rules.{nth, Frame, takes_part}
use Rattle.model.specs.Acts.{held_act, own_in}
use Rattle.model.specs.Held.{no_net, no_event, row_at}
use Rattle.model.specs.declared.ObjectNet.{ObjectNet}
use Rattle.model.specs.declared.Event.{Event}
use Rattle.model.specs.declared.Model.{Model}

-- ---- unused room

-- nothing but 0
abbrev pub empty : List ℕ → Bool
empty l = every (λ v. eqb v 0) l

-- row i behind the numbers that it uses
abbrev pub empty_at : (ℕ → ℕ) → List (List ℕ) → ℕ → Bool
empty_at used table i = empty (drop (used i) (row_at table i))

-- so many rows, each 0 behind the numbers that it uses
unfoldable pub empty_past : ℕ → (ℕ → ℕ) → List (List ℕ) → Bool
empty_past rows used table = all_below rows (empty_at used table)

-- of the first n rows as many numbers are used as `width` says, of the others none
abbrev pub used_in : ℕ → (ℕ → ℕ) → ℕ → ℕ
used_in n width i = cond (ltb i n) (width i) 0

abbrev pub used_of : ℕ → ℕ → ℕ → ℕ
used_of n width i = cond (ltb i n) width 0

-- ---- header, places and moves

-- the header, and how many there are of each
abbrev pub counts_are : ℕ → ℕ → ℕ → ℕ → ℕ → Bool
counts_are header nets places moves listed =
    in_range 1 2 header && (in_range 0 8 nets && (in_range 1 32 places && (in_range 0 32 moves && in_range 0 64 listed)))

abbrev pub type_at : ℕ → ℕ → List ℕ → ℕ → Bool
type_at nets places types p = cond (ltb p places) (leb (nth types p) nets) (eqb (nth types p) 0)

unfoldable pub held_types : Model → Bool
held_types m = all_below 32 (type_at m.nets m.places m.types)

unfoldable pub held_moves : Model → Bool
held_moves m = empty_past 32 (used_of m.moves m.places) m.pre && empty_past 32 (used_of m.moves m.places) m.post

-- ---- object nets

unfoldable pub held_net : ObjectNet → Bool
held_net n =
    empty_past 32 (used_of n.transitions n.places) n.pre && empty_past 32 (used_of n.transitions n.places) n.post

-- a net that is used has its counts in range; of one that is not they are 0
abbrev pub sizes_are : ℕ → ℕ → ℕ → ℕ → Bool
sizes_are nets k places transitions = cond (ltb k nets) (in_range 1 32 places && in_range 0 32 transitions) (eqb places 0 && eqb transitions 0)

abbrev pub net_is : ℕ → ℕ → ObjectNet → Bool
net_is nets k n = sizes_are nets k n.places n.transitions && held_net n

abbrev pub net_at : ℕ → List ObjectNet → ℕ → Bool
net_at nets objects k = net_is nets k (get_or objects k no_net)

unfoldable pub held_nets : Model → Bool
held_nets m = all_below 8 (net_at m.nets m.objects)

-- ---- events

-- what the events of a held model depend on
abbrev pub frame_in : Model → Frame
frame_in m = record {
  alone = eqb m.header 2;
  places = m.places;
  moves = m.moves;
  nets = m.nets;
  type = nth m.types;
  steps = λ n. (get_or m.objects n no_net).transitions;
}

-- the same from its numbers
abbrev pub framed : ℕ → ℕ → ℕ → ℕ → List ℕ → List ℕ → Frame
framed header places moves nets types steps = record { alone = eqb header 2; places = places; moves = moves; nets = nets; type = nth types; steps = nth steps }

-- the same of a model, how many transitions each net has from a list
abbrev pub frame_with : Model → List ℕ → Frame
frame_with m steps = framed m.header m.places m.moves m.nets m.types steps

-- the counts of net n in an event
abbrev pub part_at : ℕ → List (List ℕ) → ℕ → Bool
part_at own sync n = takes_part own n (row_at sync n)

unfoldable pub held_event : Frame → Event → Bool
held_event f e =
    held_act f e.kind e.index
    && (empty_past 8 (used_in f.nets f.steps) e.sync && all_below f.nets (part_at (own_in f.type e.kind e.index) e.sync))

unfoldable pub empty_event : Event → Bool
empty_event e = eqb e.kind 0 && (eqb e.index 0 && every empty e.sync)

abbrev pub event_is : Frame → ℕ → ℕ → Event → Bool
event_is f listed k e = cond (ltb k listed) (held_event f e) (empty_event e)

abbrev pub event_at : Frame → ℕ → List Event → ℕ → Bool
event_at f listed events k = event_is f listed k (get_or events k no_event)

unfoldable pub held_events : Model → Bool
held_events m = all_below 64 (event_at (frame_in m) m.listed m.events)

-- ---- the whole

unfoldable pub held_model : Model → Bool
held_model m =
    counts_are m.header m.nets m.places m.moves m.listed && (held_types m && (held_moves m && (held_nets m && held_events m)))
