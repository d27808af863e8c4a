-- 01's rules for a model ("Files", and the causes 3 and 5 of its table): ranges, idling events; and 02's of the two headers (K13).
use Rattle.std.specs.Prelude.{ℕ, zero, suc, Bool, true, ◌&&◌, not, List, leb, ltb, eqb, length, get_or}
use Rattle.std.specs.Bool.{beq}
use Rattle.text.specs.Lines.{in_range, every}
use Rattle.text.specs.Repeat.{every_at}
use Rattle.eos.specs.Model.{Transition, ObjectNet, Act, move, idle, alone, Event, Model, places, net, type_of}

-- an arc or a count of a transition
abbrev pub byte : ℕ → Bool
byte v = leb v 255

-- n numbers, each in the range
abbrev pub list_of : ℕ → (ℕ → Bool) → List ℕ → Bool
list_of n range l = eqb (length l) n && every range l

-- the number at index i, 0 past the end
abbrev pub nth : List ℕ → ℕ → ℕ
nth l i = get_or l i 0

-- a model with the number of its file's header (02, K13): under 1 events idle at places, under 2 there are events `alone`
pub record Plant : Type 0 where
  pub header : ℕ
  pub model : Model

abbrev pub under : ℕ → Model → Plant
under h m = record { header = h; model = m }

-- what the lines of moves and events depend on: whether the header is 2, how many places, moves and nets there are, the type of each place, and
-- the number of transitions of each net
pub record Frame : Type 0 where
  pub alone : Bool
  pub places : ℕ
  pub moves : ℕ
  pub nets : ℕ
  pub type : ℕ → ℕ
  pub steps : ℕ → ℕ

abbrev pub frame_of : Plant → Frame
frame_of p = record {
  alone = eqb p.header 2;
  places = places p.model;
  moves = length p.model.moves;
  nets = length p.model.nets;
  type = type_of p.model;
  steps = λ n. length (net p.model n).transitions;
}

-- the two sides of a transition between `size` places
unfoldable pub right_sides : ℕ → Transition → Bool
right_sides size t = list_of size byte t.pre && list_of size byte t.post

unfoldable pub right_net : ObjectNet → Bool
right_net n = in_range 1 32 n.size && (in_range 0 32 (length n.transitions) && every (right_sides n.size) n.transitions)

-- the net that an event idles in, from 1, by the type of each place, or whose counts it has alone; 0 for a move
abbrev pub own_net : (ℕ → ℕ) → Act → ℕ
own_net type (move k) = 0
own_net type (idle p) = type p
own_net type (alone n) = suc n

-- cause 5: an idling event's own net takes part, and no other does (000, equation 2)
unfoldable pub takes_part : ℕ → ℕ → List ℕ → Bool
takes_part zero n v = true
takes_part (suc own) n v = beq (eqb own n) (not (every (λ c. eqb c 0) v))

-- a move of the model; under header 2 a net, else a place that is typed by a net
unfoldable pub right_act : Frame → Act → Bool
right_act f (move k) = ltb k f.moves
right_act f (idle p) = not f.alone && (ltb p f.places && leb 1 (f.type p))
right_act f (alone n) = f.alone && ltb n f.nets

-- the counts of net n
unfoldable pub right_sync : Frame → ℕ → ℕ → List ℕ → Bool
right_sync f own n v = list_of (f.steps n) byte v && takes_part own n v

unfoldable pub right_event : Frame → Event → Bool
right_event f e = right_act f e.act && (eqb (length e.sync) f.nets && every_at (right_sync f (own_net f.type e.act)) 0 e.sync)

unfoldable pub right_plant : Plant → Bool
right_plant p =
    let m = p.model in
    in_range 1 2 p.header && (in_range 0 8 (length m.nets) && (in_range 1 32 (places m) && (every (λ d. leb d (length m.nets)) m.types
    && (in_range 0 32 (length m.moves) && (every (right_sides (places m)) m.moves
    && (every right_net m.nets
    && (in_range 0 64 (length m.events) && every (right_event (frame_of p)) m.events)))))))
