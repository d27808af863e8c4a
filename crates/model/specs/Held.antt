-- How a model is held: in arrays of fixed room, unused room 0. And what a held model stands for.
use Rattle.std.specs.Prelude.{ℕ, zero, suc, ◌≤◌, ◌<◌, ◌≡◌, List, [], ◌∷◌, length, take, get_or, set, replicate}
use Rattle.std.specs.Prelude as code
use Rattle.std.proofs.Math.Option.{Option, none, some}
use Rattle.text.specs.Repeat.{fill}
use Rattle.text.specs.Answers.{padded}
use Rattle.eos.specs.Model as eos
use Rattle.model.specs.Rules.{Plant}
use Rattle.model.specs.Acts.{kind_of, index_of, act_of}
use Rattle.model.specs.declared.ObjectNet.{ObjectNet}
use Rattle.model.specs.declared.Event.{Event}
use Rattle.model.specs.declared.Model.{Model}

-- ---- held

-- things at their index in an array
abbrev pub put_at : {A B : Type 0} → (A → B) → ℕ → A → List B → List B
put_at f i a l = set l i (f a)

-- a row that is not used
abbrev pub no_row : List ℕ
no_row = replicate 32 0

-- rows of 32 numbers, the first at 0, in a table of so many rows
unfoldable pub tabled : {A : Type 0} → (A → List ℕ) → ℕ → List A → List (List ℕ)
tabled f rows l = fill (put_at (λ a. padded (f a))) 0 l (replicate rows no_row)

abbrev pub pre_of : eos.Transition → List ℕ
pre_of t = t.pre

abbrev pub post_of : eos.Transition → List ℕ
post_of t = t.post

abbrev pub row : List ℕ → List ℕ
row v = v

unfoldable pub hold_net : eos.ObjectNet → ObjectNet
hold_net n = record {
  places = n.size;
  transitions = length n.transitions;
  pre = tabled pre_of 32 n.transitions;
  post = tabled post_of 32 n.transitions;
}

unfoldable pub hold_event : eos.Event → Event
hold_event e = record { kind = kind_of e.act; index = index_of e.act; sync = tabled row 8 e.sync }

-- room that is not used
abbrev pub no_net : ObjectNet
no_net = record { places = 0; transitions = 0; pre = replicate 32 no_row; post = replicate 32 no_row }

abbrev pub no_event : Event
no_event = record { kind = 0; index = 0; sync = replicate 8 no_row }

unfoldable pub hold_nets : List eos.ObjectNet → List ObjectNet
hold_nets l = fill (put_at hold_net) 0 l (replicate 8 no_net)

unfoldable pub hold_events : List eos.Event → List Event
hold_events l = fill (put_at hold_event) 0 l (replicate 64 no_event)

unfoldable pub hold_plant : Plant → Model
hold_plant p = record {
  header = p.header;
  nets = length p.model.nets;
  places = length p.model.types;
  moves = length p.model.moves;
  listed = length p.model.events;
  types = padded p.model.types;
  pre = tabled pre_of 32 p.model.moves;
  post = tabled post_of 32 p.model.moves;
  objects = hold_nets p.model.nets;
  events = hold_events p.model.events;
}

-- the empty model: no header, and no places
abbrev pub no_model : Model
no_model = record {
  header = 0;
  nets = 0;
  places = 0;
  moves = 0;
  listed = 0;
  types = replicate 32 0;
  pre = replicate 32 no_row;
  post = replicate 32 no_row;
  objects = replicate 8 no_net;
  events = replicate 64 no_event;
}

-- ---- tables

-- row i
abbrev pub row_at : {A : Type 0} → List (List A) → ℕ → List A
row_at table i = get_or table i []

-- its first n numbers
abbrev pub row_in : ℕ → List (List ℕ) → ℕ → List ℕ
row_in n table i = take n (row_at table i)

-- an index of the theory, as the code answers it
abbrev pub told : Option ℕ → code.Option ℕ
told none = code.None
told (some i) = code.Some i

-- ---- what every value of the structs has: tables of so many rows of 32 bytes

pub record Bytes (n : ℕ) (table : List (List ℕ)) : Type 0 where
  pub long : length table ≡ n
  pub wide : (i : ℕ) → i < n → length (row_at table i) ≡ 32
  pub small : (i k : ℕ) → get_or (row_at table i) k 0 ≤ 255

pub record SizedNet (n : ObjectNet) : Type 0 where
  pub pre : Bytes 32 n.pre
  pub post : Bytes 32 n.post

pub record SizedModel (m : Model) : Type 0 where
  pub types : length m.types ≡ 32
  pub pre : Bytes 32 m.pre
  pub post : Bytes 32 m.post
  pub objects : length m.objects ≡ 8
  pub nets : (i : ℕ) → i < 8 → SizedNet (get_or m.objects i no_net)
  pub events : length m.events ≡ 64
  pub sync : (i : ℕ) → i < 64 → Bytes 8 (get_or m.events i no_event).sync

-- ---- what a held model stands for

-- n things, the first of index i
abbrev pub listed : {A : Type 0} → (ℕ → A) → ℕ → ℕ → List A
listed f i zero = []
listed f i (suc n) = f i ∷ listed f (suc i) n

abbrev pub sides_in : ℕ → List (List ℕ) → List (List ℕ) → ℕ → eos.Transition
sides_in n pre post i = record { pre = row_in n pre i; post = row_in n post i }

unfoldable pub net_of : ObjectNet → eos.ObjectNet
net_of n = record { size = n.places; transitions = listed (sides_in n.places n.pre n.post) 0 n.transitions }

-- the counts of net n, of which there are as many as it has transitions
abbrev pub sync_in : List ObjectNet → List (List ℕ) → ℕ → List ℕ
sync_in objects sync n = row_in (get_or objects n no_net).transitions sync n

unfoldable pub event_of : ℕ → List ObjectNet → Event → eos.Event
event_of nets objects e = record { act = act_of e.kind e.index; sync = listed (sync_in objects e.sync) 0 nets }

unfoldable pub model_of : Model → eos.Model
model_of m = record {
  types = take m.places m.types;
  moves = listed (sides_in m.places m.pre m.post) 0 m.moves;
  nets = listed (λ i. net_of (get_or m.objects i no_net)) 0 m.nets;
  events = listed (λ i. event_of m.nets m.objects (get_or m.events i no_event)) 0 m.listed;
}

-- with its header
abbrev pub plant_of : Model → Plant
plant_of m = record { header = m.header; model = model_of m }
