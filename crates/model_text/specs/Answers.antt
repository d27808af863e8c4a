-- How what is read of a model's lines is held, and what the readers of its parts rely on.
use Rattle.std.specs.Prelude.{ℕ, ◌≤◌, List, length, get_or}
use Rattle.text.specs.Answers.{padded}
use Rattle.eos.specs.Model as eos
use Rattle.eos.specs.Model.{move, idle, alone}
use Rattle.model.specs.Held.{pre_of, post_of, tabled, hold_nets, no_net, hold_events}
use Rattle.model.specs.declared.Act.{Act}
use Rattle.model.specs.declared.Act.TheVariants.{Move, Idle, Alone}
use Rattle.model.specs.declared.Model.{Model}
use Rattle.model_text.specs.Parts as parts
use Rattle.model_text.specs.declared.Sides.{Sides}
use Rattle.model_text.specs.declared.Outline.{Outline}

abbrev pub hold_sides : eos.Transition → Sides (List ℕ)
hold_sides t = record { pre = padded t.pre; post = padded t.post }

abbrev pub hold_tables : List eos.Transition → Sides (List (List ℕ))
hold_tables ts = record { pre = tabled pre_of 32 ts; post = tabled post_of 32 ts }

abbrev pub hold_act : eos.Act → Act
hold_act (move k) = Move k
hold_act (idle p) = Idle p
hold_act (alone n) = Alone n

abbrev pub hold_outline : parts.Outline → Outline
hold_outline a = record { header = a.header; nets = a.nets; places = a.places; types = padded a.types }

-- a model with the moves and the object nets that are read
abbrev pub with_system : Model → parts.System → Model
with_system m y = record {
  header = m.header;
  nets = m.nets;
  places = m.places;
  moves = length y.moves;
  listed = m.listed;
  types = m.types;
  pre = tabled pre_of 32 y.moves;
  post = tabled post_of 32 y.moves;
  objects = hold_nets y.nets;
  events = m.events;
}

-- a model with the events that are read
abbrev pub with_events : Model → List eos.Event → Model
with_events m l = record {
  header = m.header;
  nets = m.nets;
  places = m.places;
  moves = m.moves;
  listed = length l;
  types = m.types;
  pre = m.pre;
  post = m.post;
  objects = m.objects;
  events = hold_events l;
}

-- the counts that events depend on are in 01's limits
pub record Fitting (m : Model) : Type 0 where
  pub places : m.places ≤ 32
  pub moves : m.moves ≤ 32
  pub nets : m.nets ≤ 8
  pub steps : (n : ℕ) → (get_or m.objects n no_net).transitions ≤ 32
