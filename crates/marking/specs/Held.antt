-- How a marking is held: each unlike net-token once, in canonical order, with its count and with 32 counts inside, unused room 0. And which
-- held markings are right.
use Rattle.std.specs.Prelude.{ℕ, suc, ◌-◌, ◌≤◌, ◌≡◌, Bool, true, ◌&&◌, List, map, eqb, leb, length, take, drop, get_or, replicate}
use Rattle.text.specs.Lines.{in_range, every}
use Rattle.text.specs.Answers.{padded}
use Rattle.eos.specs.Vector.{eq_v}
use Rattle.eos.specs.Counted.{Counted, counted, spelt, grouped}
use Rattle.eos.specs.Model as eos
use Rattle.eos.specs.Room as theory
use Rattle.model.specs.Limits.{count_limit, alike_limit, room_limit}
use Rattle.marking.specs.Tokens.{row, no_entry, unused, holding, entries_in, ascending}
use Rattle.marking.specs.declared.NetToken.{NetToken}
use Rattle.marking.specs.declared.Entry.{Entry}
use Rattle.marking.specs.declared.Marking.{Marking}
use Rattle.marking.specs.declared.PlaceSizes.{PlaceSizes}

-- what the net-tokens of a model depend on: how many places there are, and how many counts a net-token has on each; places are numbered
-- from 1 here, as in the files
pub record Sizes : Type 0 where
  pub places : ℕ
  pub size : ℕ → ℕ

abbrev pub sizes_of : eos.Model → Sizes
sizes_of m = record { places = eos.places m; size = λ p. eos.size_of m (eos.type_of m (p - 1)) }

-- the same from an array: for each place, how many counts
abbrev pub sizes_at : ℕ → List ℕ → Sizes
sizes_at places sizes = record { places = places; size = λ p. get_or sizes (p - 1) 0 }

abbrev pub as_sizes : PlaceSizes → Sizes
as_sizes z = sizes_at z.places z.sizes

-- there is room for the counts of every place
abbrev pub Roomy : Sizes → Type 0
Roomy z = (p : ℕ) → z.size p ≤ 32

-- a net-token as it is held: the number of its place and its counts, then 0
abbrev pub hold_token : eos.NetToken → NetToken
hold_token t = record { place = suc t.place; counts = padded t.inside }

-- so many of one
abbrev pub hold_line : Counted eos.NetToken → Entry
hold_line l = record { token = hold_token l.one; times = l.times }

-- a marking in canonical order, neighbours that are like in one entry
unfoldable pub hold_marking : eos.Marking → Marking
hold_marking μ = holding (map hold_line (grouped eos.like μ))

-- no net-token
abbrev pub no_marking : Marking
no_marking = record { len = 0; entries = replicate room_limit no_entry }

-- what a held marking stands for
abbrev pub token_of : Sizes → NetToken → eos.NetToken
token_of z t = record { place = t.place - 1; inside = take (z.size t.place) t.counts }

abbrev pub line_of : Sizes → Entry → Counted eos.NetToken
line_of z e = counted (token_of z e.token) e.times

abbrev pub lines_of : Sizes → Marking → eos.Lines
lines_of z k = map (line_of z) (entries_in k)

unfoldable pub tokens_of : Sizes → Marking → eos.Marking
tokens_of z k = spelt (lines_of z k)

-- what a marking with so many entries has room for
abbrev pub room_of : ℕ → theory.Room
room_of room = record { unlike = room; alike = alike_limit; counts = count_limit }

-- the test of 12
abbrev pub has_room : ℕ → eos.Marking → Bool
has_room room μ = theory.has_room (room_of room) μ

-- a net-token's place is one of the model's, and what follows the counts of the place is 0
unfoldable pub held_token : Sizes → NetToken → Bool
held_token z t = in_range 1 z.places t.place && eq_v t.counts (padded (take (z.size t.place) t.counts))

-- an entry's net-token is right, and its count is from 1 to 65,535
abbrev pub held_entry : Sizes → Entry → Bool
held_entry z e = held_token z e.token && in_range 1 alike_limit e.times

-- 01's cause 14, of n lent entries: no more than there is room for, in strictly ascending order, unused room 0, each right
unfoldable pub held_entries : ℕ → Sizes → ℕ → List Entry → Bool
held_entries room z n es =
    leb n room && (ascending (take n es) && (every unused (drop n es) && every (held_entry z) (take n es)))

-- the same of a held marking
abbrev pub held_marking : ℕ → Sizes → Marking → Bool
held_marking room z k = held_entries room z k.len k.entries

-- what every held marking is in code: an array of 256 entries, each with 32 counts, of numbers of 16 bits
pub record SizedMarking (k : Marking) : Type 0 where
  pub long : length k.entries ≡ room_limit
  pub wide : every (λ e. eqb (length e.token.counts) 32) k.entries ≡ true
  pub small : every (λ e. every (λ v. leb v count_limit) (row e.token)) k.entries ≡ true
  pub few : every (λ e. leb e.times alike_limit) k.entries ≡ true
