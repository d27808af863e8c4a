-- What is asked of the events of a right model is the same of what they are held as: the held events have the whole room of their counts,
-- and stand for no other event.
use Prim.Native.Nat.{ℕ, suc, ◌-◌, ◌≤◌, ◌<◌}
use mathlib.Core.Path.{◌≡◌, refl, sym, ap, ap₂, ◌∙◌}
use mathlib.Core.List.{List, [], ◌∷◌, map}
use mathlib.Core.Bool.{Bool, true, not, ◌&&◌, ◌||◌}
use native.Mathlib.Omega.{arith}
use native.Mathlib.Nat.{sub-zero}
use borrow.Author.Tests.{ne_eqb}
use lib.Dec.{eqb}
use lib.ListN.{length, take, get_or, length-map, get_or-eq_default}
use lib.Seq.{ext_get_or, get_or-take, length-take-le}
use Rattle.std.proofs.lemmas.List.{get_or-map}
use Rattle.text.specs.Answers.{padded}
use Rattle.text.proofs.PaddedLaws.{length-padded}
use Rattle.eos.specs.Multiset.{any}
use Rattle.eos.specs.Model as eos
use Rattle.eos.specs.Model.{Act, move, idle, alone, places, type_of, event}
use Rattle.eos.specs.Firing.{all_below}
use Rattle.eos.specs.Causes.{failing}
use Rattle.eos.specs.Converting.{alike, position, idles_at, like_at, replaceable_act, replaceable, unreplaced}
use Rattle.eos.proofs.Basics.{same_test, true_is, is_true, by_less}
use Rattle.eos.proofs.FiringLaws.{all_below-at, all_below_lem}
use Rattle.eos.proofs.StayingLaws.{alike_exactly}
use Rattle.model.specs.Rules.{nth, Plant, right_plant}
use Rattle.model.specs.Held.{SizedModel, hold_event, no_event, hold_nets, hold_events, hold_plant, listed, sync_in, event_of, model_of, plant_of}
use Rattle.model.specs.declared.Event.{Event}
use Rattle.model.specs.declared.Model.{Model}
use Rattle.model.proofs.PaddedRows.{nth-padded}
use Rattle.model.proofs.HeldActs.{act-back}
use Rattle.model.proofs.RuleLaws.{Right, right_is, few-places, few-events}
use Rattle.model.proofs.HoldModel.{event-at, events-long, model_of_hold}
use Rattle.model.proofs.ShapeLaws as shape
use Rattle.model.proofs.HeldTestLoops.{at_any}
use Rattle.model.proofs.HeldTests.{Held, most-events}
use Rattle.model.proofs.HeldBack.{held_again}
use Rattle.model.proofs.HeldRight.{held_right}
use Rattle.model_convert.specs.Converting.{whole, bare}
use Rattle.model_convert.proofs.RightLaws.{idles_typed}

module _ (p : Plant) (right : right_plant p ≡ true) where
  abbrev m : eos.Model
  m = p.model

  abbrev r : Right p
  r = right_is p right

  abbrev types : List ℕ
  types = padded m.types

  -- an event is read back from what it is held as
  abbrev pub Back : eos.Event → Type 0
  Back e = event_of (length m.nets) (hold_nets m.nets) (hold_event e) ≡ e

  abbrev pub AllBack : List eos.Event → Type 0
  AllBack [] = Unit {0}
  AllBack (e ∷ l) = Back e × AllBack l

  -- as each event of the model is
  pub event_back : (k : ℕ) → k < length m.events → Back (event m k)
  unfolding hold_plant
  event_back k h =
      ap (event_of (length m.nets) (hold_nets m.nets)) (sym (event-at m.events k (few-events p r) h)) ∙ sym (shape.event-is (hold_plant p) k h)
      ∙ ap (λ (n : eos.Model). event n k) (model_of_hold p right)

  all_of : (l : List eos.Event) → ((k : ℕ) → k < length l → Back (get_or l k eos.no_event)) → AllBack l
  all_of [] h = tt
  all_of (e ∷ l) h = (h 0 (omega arith), all_of l (λ k b. h (suc k) (omega arith)))

  pub events_back : AllBack m.events
  events_back = all_of m.events event_back

  -- ---- likeness

  abbrev pub wide : eos.Event → eos.Event
  wide e = whole (hold_event e)

  act_same : (e : eos.Event) → (wide e).act ≡ e.act
  unfolding hold_event
  act_same e = act-back e.act

  counts_same : (d e : eos.Event) → Back d → Back e → (hold_event d).sync ≡ (hold_event e).sync → d.sync ≡ e.sync
  unfolding event_of
  counts_same d e b c h =
      sym (ap (λ (e : eos.Event). e.sync) b) ∙ ap (λ (s : List (List ℕ)). listed (sync_in (hold_nets m.nets) s) 0 (length m.nets)) h
      ∙ ap (λ (e : eos.Event). e.sync) c

  counts_held : (d e : eos.Event) → d.sync ≡ e.sync → (hold_event d).sync ≡ (hold_event e).sync
  unfolding hold_event
  counts_held d e h = rw h

  type_same : (q : ℕ) → nth types q ≡ type_of m q
  type_same q = nth-padded m.types (few-places p r) q

  pub alike_whole : (l : List Event) (d e : eos.Event) → Back d → Back e → alike (bare types l) (wide d) (wide e) ≡ alike m d e
  alike_whole l d e b c = same_test _ _
      (λ t.
      let h = (alike_exactly (bare types l) (wide d) (wide e)).0 t in
      (alike_exactly m d e).1 (record {
        place = h.place;
        other = h.other;
        idles = sym (act_same d) ∙ h.idles;
        too = sym (act_same e) ∙ h.too;
        typed = sym (type_same h.place) ∙ h.typed ∙ type_same h.other;
        counts = counts_same d e b c h.counts;
      }))
      (λ t.
      let h = (alike_exactly m d e).0 t in
      (alike_exactly (bare types l) (wide d) (wide e)).1 (record {
        place = h.place;
        other = h.other;
        idles = act_same d ∙ h.idles;
        too = act_same e ∙ h.too;
        typed = type_same h.place ∙ h.typed ∙ sym (type_same h.other);
        counts = counts_held d e h.counts;
      }))

  pub position_whole : (e : eos.Event) → Back e → (l : List eos.Event) → AllBack l → position (bare types []) (wide e) (map whole (map hold_event l)) ≡ position m e l
  unfolding position
  position_whole e c [] b = refl
  position_whole e c (d ∷ l) b = rw (alike_whole [] d e b.0 c, position_whole e c l b.1)

  -- ---- where an event can be replaced

  abbrev held : List Event
  held = map hold_event m.events

  any_whole : (f g : eos.Event → Bool) → ((d : eos.Event) → Back d → f (wide d) ≡ g d) → (l : List eos.Event) → AllBack l → any f (map whole (map hold_event l)) ≡ any g l
  any_whole f g h [] b = refl
  any_whole f g h (d ∷ l) b = ap₂ ◌||◌ (h d b.0) (any_whole f g h l b.1)

  like_whole : (e : eos.Event) → Back e → (q : ℕ) → like_at (bare types held) (wide e) q ≡ like_at m e q
  unfolding like_at
  like_whole e c q =
      any_whole (λ d. idles_at q d.act && alike (bare types held) d (wide e)) (λ d. idles_at q d.act && alike m d e)
      (λ d b. ap₂ ◌&&◌ (ap (idles_at q) (act_same d)) (alike_whole held d e b c)) m.events events_back

  -- past the places there is no type that a net has
  replaceable_same : (e : eos.Event) → Back e → (a : Act) → ((q : ℕ) → a ≡ idle q → 1 ≤ type_of m q) → replaceable_act (bare types held) (wide e) a ≡ replaceable_act m e a
  replaceable_same e c (move k) t = refl
  replaceable_same e c (alone n) t = refl
  replaceable_same e c (idle q) t =
      let f : ℕ → Bool = λ s. not (eqb (nth types s) (nth types q)) || like_at (bare types held) (wide e) s in
      let g : ℕ → Bool = λ s. not (eqb (type_of m s) (type_of m q)) || like_at m e s in
      let same : (s : ℕ) → f s ≡ g s = λ s. rw (type_same s, type_same q, like_whole e c s) in
      let few = few-places p r in
      rw (length-padded m.types)
      (same_test (all_below 32 f) (all_below (places m) g)
      (λ u. all_below_lem (places m) g (λ s h. true_is (sym (same s) ∙ is_true _ (all_below-at 32 f u s (omega arith)))))
      (λ u.
      all_below_lem 32 f (λ s h.
      true_is (same s
      ∙ by_less s (places m) (λ b. is_true _ (all_below-at (places m) g u s b))
      (λ b. let none = get_or-eq_default m.types 0 b in rw (ne_eqb (type_of m s) (type_of m q) (λ e. omega (arith, none, t q refl))))))))

  pub replaceable_whole : (k : ℕ) → k < length m.events → replaceable (bare types held) (wide (event m k)) ≡ replaceable m (event m k)
  unfolding replaceable
  replaceable_whole k h =
      let e = event m k in
      ap (replaceable_act (bare types held) (wide e)) (act_same e) ∙ replaceable_same e (event_back k h) e.act (λ q i. idles_typed p right k q h i)

  -- the events that a model holds
  pub take_held : (l : List eos.Event) → length l ≤ 64 → take (length l) (hold_events l) ≡ map hold_event l
  take_held l h =
      let long = length-take-le (length l) (hold_events l) (omega (arith, events-long l)) in
      ext_get_or no_event (take (length l) (hold_events l)) (map hold_event l) (long ∙ sym (length-map l hold_event)) (λ k b.
      let c : k < length l = omega (arith, long) in
      get_or-take (length l) (hold_events l) k no_event c ∙ event-at l k h c ∙ sym (get_or-map hold_event l k eos.no_event no_event c))

-- ---- of a held model

-- all events are those from 0 on
pub from_first : (m : Model) → failing (m.listed - 0) 0 (λ k. replaceable (model_of m) (event (model_of m) k)) ≡ unreplaced (model_of m)
unfolding unreplaced
from_first m = rw (sub-zero m.listed, shape.events-long m)

module _ (m : Model) (sized : SizedModel m) (held : Held m) where
  abbrev pub plant : Plant
  plant = plant_of m

  pub right : right_plant plant ≡ true
  right = held_right m sized held

  pub types_read : m.types ≡ padded plant.model.types
  unfolding hold_plant
  types_read = ap (λ (m : Model). m.types) (held_again m sized held)

  pub events_read : take m.listed m.events ≡ map hold_event plant.model.events
  unfolding hold_plant
  events_read =
      let e = held_again m sized held in
      ap (λ (m : Model). take m.listed m.events) e ∙ take_held plant right plant.model.events (few-events plant (right_is plant right))

  module _ (k : ℕ) (h : k < m.listed) (none : Event) where
    pub event_read : get_or m.events k none ≡ hold_event (event plant.model k)
    unfolding hold_plant
    event_read =
        let b : k < length plant.model.events = omega (arith, shape.events-long m) in
        let few = few-events plant (right_is plant right) in
        at_any m.events k none no_event (omega (arith, sized.events, most-events m held))
        ∙ ap (λ (m : Model). get_or m.events k no_event) (held_again m sized held) ∙ event-at plant.model.events k few b

    pub replaceable_read : replaceable (bare m.types (take m.listed m.events)) (whole (get_or m.events k none)) ≡ replaceable plant.model (event plant.model k)
    replaceable_read =
        ap₂ (λ t l. replaceable (bare t l) (whole (get_or m.events k none))) types_read events_read
        ∙ ap (λ e. replaceable (bare (padded plant.model.types) (map hold_event plant.model.events)) (whole e)) event_read
        ∙ replaceable_whole plant right k (omega (arith, shape.events-long m))
