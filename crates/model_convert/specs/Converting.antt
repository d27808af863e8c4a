-- How held events are told apart, and what they are replaced by; how the new numbers of events are held, and what is converted with its header.
use Rattle.std.specs.Prelude.{ℕ, suc, pred, List, [], map, replicate}
use Rattle.text.specs.Repeat.{fill}
use Rattle.eos.specs.Model as eos
use Rattle.eos.specs.Model.{Act, move, idle, alone}
use Rattle.eos.specs.Converting.{renumbered, converted}
use Rattle.model.specs.Rules.{nth, Plant, under}
use Rattle.model.specs.Acts.{kind_of, index_of, act_of}
use Rattle.model.specs.Held.{put_at}
use Rattle.model.specs.declared.Event.{Event}

-- ---- held events, told apart as the theory's are

-- an event as it is held: its act, and the whole room of its counts
abbrev pub whole : Event → eos.Event
whole e = record { act = act_of e.kind e.index; sync = e.sync }

-- a model of nothing but types and events as they are held
abbrev pub bare : List ℕ → List Event → eos.Model
bare types events = record { types = types; moves = []; nets = []; events = map whole events }

-- an event that idles, with `alone` in its place; the others stay
abbrev pub replaced_by : List ℕ → Event → Act → Event
replaced_by types e (move k) = e
replaced_by types e (idle p) = record { kind = kind_of (alone (pred (nth types p))); index = index_of (alone (pred (nth types p))); sync = e.sync }
replaced_by types e (alone n) = e

unfoldable pub replaced_in : List ℕ → Event → Event
replaced_in types e = replaced_by types e (act_of e.kind e.index)

-- ---- what a conversion gives

-- numbers, counted from 1, in the room for those of all events
unfoldable pub hold_indices : List ℕ → List ℕ
hold_indices l = fill (put_at suc) 0 l (replicate 64 0)

-- the new number of each event
abbrev pub hold_numbers : eos.Model → List ℕ
hold_numbers m = hold_indices (renumbered m [] m.events)

-- the model with `alone`, under the header for it
abbrev pub converted_plant : Plant → Plant
converted_plant p = under 2 (converted p.model)
