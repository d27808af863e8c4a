-- Fewer events: idling events that are like are replaced by one `alone`, at the first one's position, and the others move up (02, K13).
use Rattle.std.specs.Prelude.{◌≡◌, Bool, true, false, cond, not, ◌&&◌, ◌||◌, List, [], ◌∷◌, map, ℕ, suc, pred, ◌<◌, ◌≤◌, T, eqb, length, get_or}
use Rattle.std.proofs.Math.Option.{Option}
use Rattle.eos.specs.Vector.{eq_v}
use Rattle.eos.specs.Multiset.{any}
use Rattle.eos.specs.Model.{Marking, Act, move, idle, alone, Event, Model, places, event, type_of}
use Rattle.eos.specs.Firing.{all_below, Step, fires, after}
use Rattle.eos.specs.Causes.{failing}

-- the same rows, number by number
abbrev pub same_rows : List (List ℕ) → List (List ℕ) → Bool
same_rows [] [] = true
same_rows [] (y ∷ v) = false
same_rows (x ∷ u) [] = false
same_rows (x ∷ u) (y ∷ v) = eq_v x y && same_rows u v

-- both idle, at places of one type
abbrev pub idle_alike : Model → Act → Act → Bool
idle_alike m (idle p) (idle q) = eqb (type_of m p) (type_of m q)
idle_alike m (idle p) (move k) = false
idle_alike m (idle p) (alone n) = false
idle_alike m (move k) b = false
idle_alike m (alone n) b = false

-- `alone` of the place's net for idling; a move and `alone` stay
abbrev pub alone_for : Model → Act → Act
alone_for m (move k) = move k
alone_for m (idle p) = alone (pred (type_of m p))
alone_for m (alone n) = alone n

-- an event with that act, and its counts
abbrev pub replaced : Model → Event → Event
replaced m e = record { act = alone_for m e.act; sync = e.sync }

module _ (m : Model) where
  -- idling events that are like: of one type, with the same counts
  unfoldable pub alike : Event → Event → Bool
  alike d e = idle_alike m d.act e.act && same_rows d.sync e.sync

  -- the same, as propositions
  pub record Alike (d e : Event) : Type 0 where
    pub place : ℕ
    pub other : ℕ
    pub idles : d.act ≡ idle place
    pub too : e.act ≡ idle other
    pub typed : type_of m place ≡ type_of m other
    pub counts : d.sync ≡ e.sync

  -- the index of the first of these events that is like e; how many they are where none is
  unfoldable pub position : Event → List Event → ℕ
  position e [] = 0
  position e (d ∷ l) = cond (alike d e) 0 (suc (position e l))

  -- e put behind those that stay, unless one of them is like it
  unfoldable pub joined : List Event → Event → List Event
  joined [] e = e ∷ []
  joined (d ∷ l) e = cond (alike d e) (d ∷ l) (d ∷ joined l e)

  -- the events that stay, behind those kept so far
  unfoldable pub staying : List Event → List Event → List Event
  staying kept [] = kept
  staying kept (e ∷ l) = staying (joined kept e) l

  -- the new index of each of these events
  unfoldable pub renumbered : List Event → List Event → List ℕ
  renumbered kept [] = []
  renumbered kept (e ∷ l) = position e kept ∷ renumbered (joined kept e) l

  -- the model with `alone` in place of events that idle
  unfoldable pub converted : Model
  converted = record { types = m.types; moves = m.moves; nets = m.nets; events = map (replaced m) (staying [] m.events) }

  -- the new index of event k
  unfoldable pub new_index : ℕ → ℕ
  new_index k = get_or (renumbered [] m.events) k 0

  -- a step, by its event's new index
  abbrev pub renamed : Step → Step
  renamed s = record { event = new_index s.event; taken = s.taken; given = s.given }

-- ---- where events can be replaced

-- the act is idling at place q
abbrev pub idles_at : ℕ → Act → Bool
idles_at q (move k) = false
idles_at q (idle p) = eqb p q
idles_at q (alone n) = false

module _ (m : Model) where
  -- some event that is like e idles at place q
  unfoldable pub like_at : Event → ℕ → Bool
  like_at e q = any (λ d. idles_at q d.act && alike m d e) m.events

  -- every place of the type at which e idles has an event that is like it
  abbrev pub replaceable_act : Event → Act → Bool
  replaceable_act e (move k) = true
  replaceable_act e (idle p) = all_below (places m) (λ q. not (eqb (type_of m q) (type_of m p)) || like_at e q)
  replaceable_act e (alone n) = true

  -- an event can be replaced, or stays as it is
  unfoldable pub replaceable : Event → Bool
  replaceable e = replaceable_act e e.act

  -- the least event that cannot be replaced
  unfoldable pub unreplaced : Option ℕ
  unreplaced = failing (length m.events) 0 (λ k. replaceable (event m k))

  -- event k idles, and a place of its type has no event that is like it
  pub record Lacks (k : ℕ) : Type 0 where
    pub own : ℕ
    pub idles : (event m k).act ≡ idle own
    pub place : ℕ
    pub within : place < places m
    pub typed : type_of m place ≡ type_of m own
    pub bare : like_at (event m k) place ≡ false

  -- events idle at places that a net types
  abbrev pub IdlesTyped : Type 0
  IdlesTyped = (k p : ℕ) → k < length m.events → (event m k).act ≡ idle p → 1 ≤ type_of m p

  -- no event idles
  abbrev pub NoneIdles : Type 0
  NoneIdles = (k p : ℕ) → k < length m.events → (event m k).act ≡ idle p → ⊥

-- ---- lists of steps

module _ (m : Model) where
  -- their events are the model's
  abbrev pub Known : List Step → Type 0
  Known [] = Unit {0}
  Known (s ∷ l) = (s.event < length m.events) × Known l

  -- they all fire, from marking μ to ν
  abbrev pub AllFire : List Step → Marking → Marking → Type 0
  AllFire [] μ ν = ν ≡ μ
  AllFire (s ∷ l) μ ν = T (fires m s μ) × AllFire l (after s μ) ν
