-- Sums over what is held: what transitions and events gain, what net-tokens weigh, whether weights cover. Weights are held in rows of 32, the
-- outer weights and then those of each net; so are gains, those of the moves and then those of each net's transitions.
use Rattle.std.specs.Prelude.{ℕ, zero, suc, ◌+◌, ◌-◌, ◌*◌, ◌/◌, ◌≤◌, ◌<◌, ◌≡◌, Bool, ◌&&◌, List, [], ◌∷◌, leb, length, take, get_or, map, ℤ, pos, ◌+ℤ◌, ◌-ℤ◌, ◌*ℤ◌, nat_abs}
use Rattle.eos.specs.Multiset.{every}
use Rattle.eos.specs.Firing.{all_below}
use Rattle.eos.specs.Weights.{dot, positive, is_zero}
use Rattle.model.specs.Limits.{room_limit, alike_limit, count_limit}
use Rattle.model.specs.Rules.{nth}
use Rattle.model.specs.Acts.{move_in}
use Rattle.model.specs.Held.{no_net, no_event, row_at}
use Rattle.marking.specs.declared.NetToken.{NetToken}
use Rattle.marking.specs.declared.Entry.{Entry}
use Rattle.model.specs.declared.ObjectNet.{ObjectNet}
use Rattle.model.specs.declared.Event.{Event}
use Rattle.model.specs.declared.Model.{Model}

-- ---- sums

-- f 0 + .. + f (n - 1)
unfoldable pub total : ℕ → (ℕ → ℤ) → ℤ
total zero f = pos 0
total (suc n) f = total n f +ℤ f n

-- a number of a row
abbrev pub number_of : List ℤ → ℕ → ℤ
number_of row i = get_or row i (pos 0)

-- ---- weights

-- the most that a weight may be, either side of 0
abbrev pub most_weight : ℕ
most_weight = 65535

-- rows of weights of any type, by their numbers
abbrev pub numbers : {A : Type 0} → (A → ℤ) → List (List A) → List (List ℤ)
numbers number rows = map (map number) rows

-- ---- events

-- what transition t gains: its post weighed, less its pre weighed
unfoldable pub gain_of : List ℤ → List (List ℕ) → List (List ℕ) → ℕ → ℤ
gain_of w pre post t = dot w (row_at post t) -ℤ dot w (row_at pre t)

-- the most that a transition gains, either side of 0: two sides of 32 weights of at most 65,535, each at most 255 times
abbrev pub most_gain : ℕ
most_gain = 1069531200

-- each number of a row is at most so much, either side of 0
abbrev pub Within : ℕ → List ℤ → Type 0
Within most row = (k : ℕ) → nat_abs (number_of row k) ≤ most

-- what a row holds stays small
abbrev pub Small : List ℤ → Type 0
Small row = Within most_gain row

-- so small that it may be added up, each number as often as it is counted
abbrev pub Addable : List ℤ → Type 0
Addable row = Within 137436856320 row

-- a row of what each transition gains, at most so much
pub record GainRowWithin (most : ℕ) (w : List ℤ) (pre post : List (List ℕ)) (row : List ℤ) : Type 0 where
  pub long : length row ≡ 32
  pub small : Within most row
  pub is : (t : ℕ) → t < 32 → number_of row t ≡ gain_of w pre post t

-- the rows of a model: what its moves gain, and each net's transitions, at most so much
pub record GainsWithin (most : ℕ) (m : Model) (weights gains : List (List ℤ)) : Type 0 where
  pub small : (r : ℕ) → Within most (row_at gains r)
  pub moves : GainRowWithin most (row_at weights 0) m.pre m.post (row_at gains 0)
  pub nets : (n : ℕ) → n < m.nets
      → GainRowWithin most (row_at weights (suc n)) (get_or m.objects n no_net).pre (get_or m.objects n no_net).post (row_at gains (suc n))

-- so they are by weights of at most 65,535
abbrev pub GainRow : List ℤ → List (List ℕ) → List (List ℕ) → List ℤ → Type 0
GainRow w pre post row = GainRowWithin most_gain w pre post row

abbrev pub Gains : Model → List (List ℤ) → List (List ℤ) → Type 0
Gains m weights gains = GainsWithin most_gain m weights gains

-- what a move gains, numbered from 1; 0 is no move
unfoldable pub move_gain : List ℤ → ℕ → ℤ
move_gain row zero = pos 0
move_gain row (suc k) = number_of row k

-- what an event gains: what its move gains, and each transition's gain as often as it is counted. Idling, at a place or alone, gains nothing
-- outside
unfoldable pub event_gain : ℕ → Event → List (List ℤ) → ℤ
event_gain nets e gains = move_gain (row_at gains 0) (move_in e.kind e.index) +ℤ total nets (λ n. dot (row_at gains (suc n)) (row_at e.sync n))

-- an event's move, place or net is one of 32
pub record ActIn (e : Event) : Type 0 where
  pub least : 1 ≤ e.index
  pub most : e.index ≤ 32

-- an event is balanced where it gains nothing
abbrev pub balanced_at : ℕ → List Event → List (List ℤ) → ℕ → Bool
balanced_at nets events gains k = is_zero (event_gain nets (get_or events k no_event) gains)

-- ---- markings

-- the weight of a net-token: of its place, and of its counts. The weights of type d stand in row d
unfoldable pub token_weight : List (List ℤ) → List ℕ → NetToken → ℤ
token_weight weights types t = number_of (row_at weights 0) (t.place - 1) +ℤ dot (row_at weights (nth types (t.place - 1))) t.counts

-- the most that it is, by the most that a weight is: of its place, and of 32 counts; and as often as it may be counted
abbrev pub token_most : ℕ → ℕ
token_most limit = limit + 32 * (limit * count_limit)

abbrev pub entry_most : ℕ → ℕ
entry_most limit = token_most limit * alike_limit

-- of entries, each as often as it is counted
unfoldable pub marking_weight : List (List ℤ) → List ℕ → List Entry → ℤ
marking_weight weights types [] = pos 0
marking_weight weights types (e ∷ es) = pos e.times *ℤ token_weight weights types e.token +ℤ marking_weight weights types es

-- the most that it is, of the most entries that there may be
abbrev pub marking_most : ℕ → ℕ
marking_most limit = room_limit * entry_most limit

-- a place's type is that of black tokens or one of eight nets'
abbrev pub TypesIn : List ℕ → Type 0
TypesIn types = (p : ℕ) → p < 32 → nth types p ≤ 8

-- ---- cover

-- a weight is at least 1, and the sum divided by it at most so many
abbrev pub enough : ℕ → ℕ → ℤ → Bool
enough most sum v = positive v && leb (sum / nat_abs v) most

-- so it is of each weight of net n, for a count's limit
abbrev pub net_covered : List ObjectNet → List (List ℤ) → ℕ → ℕ → Bool
net_covered objects weights sum n = every (enough count_limit sum) (take (get_or objects n no_net).places (row_at weights (suc n)))

-- and of each outer weight, for so many net-tokens
unfoldable pub covered : ℕ → ℕ → ℕ → List ObjectNet → List (List ℤ) → ℕ → Bool
covered most places nets objects weights sum =
    every (enough most sum) (take places (row_at weights 0)) && all_below nets (net_covered objects weights sum)
