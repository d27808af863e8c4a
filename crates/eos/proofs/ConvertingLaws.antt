-- Laws of the conversion to `alone`: the events of the model with `alone`, and their indices.
use mathlib.Core.Path.{◌≡◌, refl, sym, ap, ap₂, ◌∙◌}
use mathlib.Core.Bool.{false}
use mathlib.Core.Logic.{◌↔◌, ◌⊎◌, ⊎_elim}
use mathlib.Core.List.{List, [], ◌∷◌, ◌++◌, map, append_assoc, append-nil}
use Prim.Native.Nat.{ℕ, zero, suc, ◌+◌, ◌≤◌, ◌<◌}
use native.Mathlib.Omega.{arith}
use lib.Dec.{T}
use lib.ListN.{length, length-map, length-append}
use Rattle.eos.specs.Model.{Act, move, idle, alone, Event, Model, event}
use Rattle.eos.specs.Converting.{alone_for, replaced, alike, position, joined, staying, renumbered, converted, new_index, NoneIdles}
use Rattle.eos.proofs.Basics.{true_is, by_test}
use Rattle.eos.proofs.StayingLaws.{alike_is, alike_self, alike_sym, nth, position_same, staying_few, index, index_within, index_least_from, index_replaced, index_onto, index_alike, index_position, index_behind}

nth_map : (f : Event → Event) (l : List Event) (k : ℕ) → k < length l → nth (map f l) k ≡ f (nth l k)
nth_map f [] k h = absurd (omega arith)
nth_map f (e ∷ l) zero h = refl
nth_map f (e ∷ l) (suc k) h = nth_map f l k (omega arith)

-- ---- events that do not idle

abbrev Busy : Event → Type 0
Busy e = (p : ℕ) → e.act ≡ idle p → ⊥

abbrev AllBusy : List Event → Type 0
AllBusy l = (k : ℕ) → k < length l → Busy (nth l k)

busy_tail : (e : Event) (l : List Event) → AllBusy (e ∷ l) → AllBusy l
busy_tail e l b k h = b (suc k) (omega arith)

module _ (m : Model) where
  busy_alone : (d e : Event) → Busy e → alike m d e ≡ false
  busy_alone d e b = by_test (alike m d e) (λ q. let h = alike_is m d e (true_is q) in absurd (b h.other h.too)) (λ q. q)

  busy_replaced : (e : Event) → Busy e → replaced m e ≡ e
  busy_replaced e b = let a = go e.act b in λ i. record { act = a i; sync = e.sync }
    where
      go : (a : Act) → ((p : ℕ) → a ≡ idle p → ⊥) → alone_for m a ≡ a
      go (move k) b = refl
      go (idle p) b = absurd (b p refl)
      go (alone n) b = refl

  busy_joined : (l : List Event) (e : Event) → Busy e → joined m l e ≡ l ++ (e ∷ [])
  unfolding joined
  busy_joined [] e b = refl
  busy_joined (d ∷ l) e b = rw (busy_alone d e b) (ap (d ∷◌) (busy_joined l e b))

  busy_position : (l : List Event) (e : Event) → Busy e → position m e l ≡ length l
  unfolding position
  busy_position [] e b = refl
  busy_position (d ∷ l) e b = rw (busy_alone d e b) (ap suc (busy_position l e b))

  busy_staying : (kept l : List Event) → AllBusy l → staying m kept l ≡ kept ++ l
  unfolding staying
  busy_staying kept [] b = sym (append-nil kept)
  busy_staying kept (e ∷ l) b =
      rw (busy_joined kept e (b 0 (omega arith))) (busy_staying (kept ++ (e ∷ [])) l (busy_tail e l b) ∙ append_assoc kept (e ∷ []) l)

  busy_index : (kept l : List Event) (k : ℕ) → k < length l → AllBusy l → index m kept l k ≡ length kept + k
  unfolding renumbered
  busy_index kept [] k h b = absurd (omega arith)
  busy_index kept (e ∷ l) zero h b = omega (arith, busy_position kept e (b 0 (omega arith)))
  busy_index kept (e ∷ l) (suc k) h b =
      rw (busy_joined kept e (b 0 (omega arith)))
      (omega (arith, busy_index (kept ++ (e ∷ [])) l k (omega arith) (busy_tail e l b), length-append kept (e ∷ [])))

  busy_map : (l : List Event) → AllBusy l → map (replaced m) l ≡ l
  busy_map [] b = refl
  busy_map (e ∷ l) b = ap₂ ◌∷◌ (busy_replaced e (b 0 (omega arith))) (busy_map l (busy_tail e l b))

-- ---- the model with `alone`

module _ (m : Model) where
  -- there are no more events than before
  pub converted_few : length (converted m).events ≤ length m.events
  unfolding converted
  converted_few = omega (arith, length-map (staying m [] m.events) (replaced m), staying_few m [] m.events)

  -- each has a new index, which is no greater
  pub index_known : (k : ℕ) → k < length m.events → new_index m k < length (converted m).events
  unfolding converted new_index
  index_known k h = omega (arith, length-map (staying m [] m.events) (replaced m), index_within m [] m.events k h)

  pub index_least : (k : ℕ) → new_index m k ≤ k
  unfolding new_index
  index_least k = omega (arith, index_least_from m [] m.events k)

  -- an event that is like none before it has a greater index than each of those: the first ones keep their order
  pub index_order : (i k : ℕ) → i < k → k < length m.events → ((j : ℕ) → j < k → alike m (event m j) (event m k) ≡ false) → new_index m i < new_index m k
  unfolding new_index
  index_order i k h g q = index_behind m [] m.events i k h g (λ j r. absurd (omega arith)) q

  -- two events have one index exactly where they are one, or like
  pub alike_index : (i k : ℕ) → i < length m.events → k < length m.events
      → (new_index m i ≡ new_index m k) ↔ ((i ≡ k) ⊎ T (alike m (event m i) (event m k)))
  unfolding new_index
  alike_index i k h g = (
    index_alike m [] m.events i k h g,
    ⊎_elim (ap (new_index m))
        (λ t.
        index_position m [] m.events i h (alike_self m _ _ (alike_sym m (event m i) (event m k) t))
        ∙ position_same m (event m i) (event m k) t (staying m [] m.events)
        ∙ sym (index_position m [] m.events k g (alike_self m _ _ t))),
  )

  -- what stands at an event's new index: it with `alone` in place of idling, and its counts
  pub event_converted : (k : ℕ) → k < length m.events → event (converted m) (new_index m k) ≡ replaced m (event m k)
  unfolding converted new_index
  event_converted k h = nth_map (replaced m) (staying m [] m.events) _ (index_within m [] m.events k h) ∙ index_replaced m [] m.events k h

  -- every event there is that of one of the model's
  pub event_original : (j : ℕ) → j < length (converted m).events → (k : ℕ) × (k < length m.events) × (new_index m k ≡ j)
  unfolding converted new_index
  event_original j h = index_onto m [] m.events j (omega arith) (omega (arith, h, length-map (staying m [] m.events) (replaced m)))

  -- without events that idle the model stays as it is, and so do the numbers
  pub converted_again : NoneIdles m → (converted m ≡ m) × ((k : ℕ) → k < length m.events → new_index m k ≡ k)
  unfolding converted new_index
  converted_again b =
      let a : AllBusy m.events = λ k h p. b k p h in
      let e : map (replaced m) (staying m [] m.events) ≡ m.events = ap (map (replaced m)) (busy_staying m [] m.events a) ∙ busy_map m m.events a in
      (λ i. record { types = m.types; moves = m.moves; nets = m.nets; events = e i }, λ k h. omega (arith, busy_index m [] m.events k h a))

  -- and no event idles in the model with `alone`
  pub none_idles : NoneIdles (converted m)
  none_idles j p h e =
      let k = event_original j h in
      go (event m k.0).act (ap (λ (e : Event). e.act) (sym (event_converted k.0 k.1) ∙ ap (event (converted m)) k.2) ∙ e)
    where
      go : (a : Act) → alone_for m a ≡ idle p → ⊥
      go (move k) e = let z : ◌≡◌ {A = ℕ} 0 1 = cc in absurd (omega arith)
      go (idle p) e = let z : ◌≡◌ {A = ℕ} 0 1 = cc in absurd (omega arith)
      go (alone n) e = let z : ◌≡◌ {A = ℕ} 0 1 = cc in absurd (omega arith)

-- so converting once more changes nothing
pub converted_twice : (m : Model) → converted (converted m) ≡ converted m
converted_twice m = (converted_again (converted m) (none_idles m)).0
