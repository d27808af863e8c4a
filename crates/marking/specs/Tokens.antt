-- Net-tokens as they are held: entries in strictly ascending order, each with its count, and room for more. Compared, found, put in and
-- taken out.
use Rattle.std.specs.Prelude.{ℕ, suc, ◌-◌, ◌≤◌, ◌≡◌, Bool, true, false, cond, ◌&&◌, List, [], ◌∷◌, ◌++◌, map, T, eqb, leb, length, take, replicate}
use Rattle.eos.specs.Vector.{eq_v, lex_v}
use Rattle.eos.specs.Multiset as M
use Rattle.eos.specs.Counted.{Counted, counted, ones, spelt, up_to, tally, fits, under, Strict}
use Rattle.model.specs.Limits.{room_limit, alike_limit}
use Rattle.marking.specs.declared.NetToken.{NetToken}
use Rattle.marking.specs.declared.Entry.{Entry}
use Rattle.marking.specs.declared.Marking.{Marking}

-- a net-token's row: its place and its counts
abbrev pub row : NetToken → List ℕ
row t = t.place ∷ t.counts

-- the same place and the same counts
abbrev pub like : NetToken → NetToken → Bool
like s t = eq_v (row s) (row t)

-- canonical order: by place, then by counts from the first on
abbrev pub before : NetToken → NetToken → Bool
before s t = lex_v (row s) (row t)

-- unused room
abbrev pub no_token : NetToken
no_token = record { place = 0; counts = replicate 32 0 }

abbrev pub no_entry : Entry
no_entry = record { token = no_token; times = 0 }

abbrev pub unused : Entry → Bool
unused e = like no_token e.token && eqb e.times 0

-- ---- entries, as counted net-tokens

abbrev pub as_counted : Entry → Counted NetToken
as_counted e = counted e.token e.times

abbrev pub as_entry : Counted NetToken → Entry
as_entry c = record { token = c.one; times = c.times }

abbrev pub all_counted : List Entry → List (Counted NetToken)
all_counted es = map as_counted es

-- their net-tokens, each once, and each as often as it is counted
abbrev pub tokens : List Entry → List NetToken
tokens es = ones (all_counted es)

abbrev pub spelt_out : List Entry → List NetToken
spelt_out es = spelt (all_counted es)

-- so many of one net-token
abbrev pub copies : Entry → List NetToken
copies e = replicate e.times e.token

-- ---- a marking

-- entries in the room for them: unused room is empty
abbrev pub laid : List Entry → List Entry
laid es = es ++ replicate (room_limit - length es) no_entry

-- a marking that holds these entries, and those that a marking holds
abbrev pub holding : List Entry → Marking
holding es = record { len = length es; entries = laid es }

abbrev pub entries_in : Marking → List Entry
entries_in k = take k.len k.entries

-- the net-tokens that a marking holds, one by one, and a marking that holds these
abbrev pub tokens_in : Marking → List NetToken
tokens_in k = spelt_out (entries_in k)

unfoldable pub held_by : List NetToken → Marking
held_by ts = holding (map as_entry (tally before like ts))

-- each net-token has a place, from 1 to 32
abbrev pub OnPlaces : List Entry → Type 0
OnPlaces [] = Unit {0}
OnPlaces (e ∷ es) = (1 ≤ e.token.place) × (e.token.place ≤ 32) × OnPlaces es

-- how many net-tokens stand before the place of one
abbrev pub place_for : NetToken → List NetToken → ℕ
place_for t [] = 0
place_for t (u ∷ ts) = cond (before t u) 0 (suc (place_for t ts))

-- strictly ascending, as a test
abbrev pub ascending : List Entry → Bool
ascending [] = true
ascending (e ∷ []) = true
ascending (e ∷ f ∷ es) = under before e.token f.token && ascending (f ∷ es)

-- a marking's entries are in strictly ascending order, none of a net-token that there is not, none of more than are held, and the room
-- behind them is empty
pub record Kept (k : Marking) : Type 0 where
  pub few : k.len ≤ room_limit
  pub long : length k.entries ≡ room_limit
  pub strict : Strict before (all_counted (entries_in k))
  pub small : T (up_to alike_limit (all_counted (entries_in k)))
  pub is : k.entries ≡ laid (entries_in k)

-- ---- a marking changed

-- whether a change was made, and the marking after it
pub record Change : Type 0 where
  pub done : Bool
  pub marking : Marking

-- a marking that holds these net-tokens, where there is room for them; where there is none, nothing changes
unfoldable pub held_or : ℕ → Marking → List NetToken → Change
held_or room k ts =
    elim (fits before like room alike_limit ts) [
      | true ↦ record { done = true; marking = held_by ts }
      | false ↦ record { done = false; marking = k }
    ]

-- an entry's net-tokens put in
abbrev pub put_in : ℕ → Entry → Marking → Change
put_in room e k = held_or room k (copies e ++ tokens_in k)

-- and taken out; where there are fewer, nothing changes
unfoldable pub take_out : Entry → Marking → Change
take_out e k =
    elim (leb e.times (M.count like e.token (tokens_in k))) [
      | true ↦ record { done = true; marking = held_by (M.less like (tokens_in k) (copies e)) }
      | false ↦ record { done = false; marking = k }
    ]
