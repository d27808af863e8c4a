-- Laws of events that are like: which of a list stay, behind those kept so far, and the new index of each.
use mathlib.Core.Path.{◌≡◌, refl, sym, ap, ap₂, ◌∙◌}
use mathlib.Core.Bool.{false}
use mathlib.Core.Logic.{◌↔◌, ◌⊎◌, inl, inr, ⊎_elim}
use mathlib.Core.List.{List, [], ◌∷◌}
use Prim.Native.Nat.{ℕ, zero, suc, pred, ◌+◌, ◌≤◌, ◌<◌}
use native.Mathlib.Omega.{arith}
use lib.Dec.{T, eqb, eqb→eq}
use lib.ListN.{length, get_or}
use Rattle.eos.specs.Vector.{eq_v}
use Rattle.eos.specs.Model.{Act, move, idle, alone, Event, no_event, Model, type_of}
use Rattle.eos.specs.Converting.{same_rows, idle_alike, alone_for, replaced, alike, Alike, position, joined, staying, renumbered}
use Rattle.eos.proofs.Basics.{true_is, false_is, is_true, and_l, and_r, and_i, eqb_of, by_test, by_less, same_test}
use Rattle.eos.proofs.VectorLaws.{eq_v_eq, eq_v_refl}

-- ---- likeness

same_rows_eq : (u v : List (List ℕ)) → T (same_rows u v) → u ≡ v
same_rows_eq [] [] t = refl
same_rows_eq [] (y ∷ v) t = absurd t
same_rows_eq (x ∷ u) [] t = absurd t
same_rows_eq (x ∷ u) (y ∷ v) t =
    ap₂ ◌∷◌ (eq_v_eq x y (and_l (eq_v x y) (same_rows u v) t)) (same_rows_eq u v (and_r (eq_v x y) (same_rows u v) t))

same_rows_self : (u : List (List ℕ)) → T (same_rows u u)
same_rows_self [] = tt
same_rows_self (x ∷ u) = and_i (eq_v x x) (same_rows u u) (eq_v_refl x) (same_rows_self u)

module _ (m : Model) where
  pub alike_is : (d e : Event) → T (alike m d e) → Alike m d e
  unfolding alike
  alike_is d e t =
      go d.act e.act refl refl (and_l (idle_alike m d.act e.act) (same_rows d.sync e.sync) t)
      (same_rows_eq d.sync e.sync (and_r (idle_alike m d.act e.act) (same_rows d.sync e.sync) t))
    where
      go : (a b : Act) → d.act ≡ a → e.act ≡ b → T (idle_alike m a b) → d.sync ≡ e.sync → Alike m d e
      go (idle p) (idle q) f g t r = record { place = p; other = q; idles = f; too = g; typed = eqb→eq (type_of m p) (type_of m q) t; counts = r }
      go (idle p) (move k) f g t r = absurd t
      go (idle p) (alone n) f g t r = absurd t
      go (move k) b f g t r = absurd t
      go (alone n) b f g t r = absurd t

  is_alike : (d e : Event) → Alike m d e → T (alike m d e)
  unfolding alike
  is_alike d e h =
      rw (h.idles, h.too, h.counts) (and_i (eqb (type_of m h.place) (type_of m h.other)) (same_rows e.sync e.sync) (eqb_of _ _ h.typed) (same_rows_self e.sync))

  -- the test decides likeness
  pub alike_exactly : (d e : Event) → T (alike m d e) ↔ Alike m d e
  alike_exactly d e = (alike_is d e, is_alike d e)

  pub alike_sym : (d e : Event) → T (alike m d e) → T (alike m e d)
  alike_sym d e t =
      let h = alike_is d e t in
      is_alike e d (record { place = h.other; other = h.place; idles = h.too; too = h.idles; typed = sym h.typed; counts = sym h.counts })

  pub alike_trans : (d e f : Event) → T (alike m d e) → T (alike m e f) → T (alike m d f)
  alike_trans d e f s t =
      let h = alike_is d e s in
      let k = alike_is e f t in
      let a : idle h.other ≡ idle k.place = sym h.too ∙ k.idles in
      let z : h.other ≡ k.place = cc in
      is_alike d f (record { place = h.place; other = k.other; idles = h.idles; too = k.too; typed = h.typed ∙ ap (type_of m) z ∙ k.typed; counts = h.counts ∙ k.counts })

  -- one that is like another is like itself, and like the same events
  pub alike_self : (d e : Event) → T (alike m d e) → T (alike m e e)
  alike_self d e t = alike_trans e d e (alike_sym d e t) t

  alike_same : (d e f : Event) → T (alike m e f) → alike m d e ≡ alike m d f
  alike_same d e f t = same_test _ _ (λ s. alike_trans d e f s t) (λ s. alike_trans d f e s (alike_sym e f t))

  -- events that are like are replaced by the same
  pub alike_replaced : (d e : Event) → T (alike m d e) → replaced m d ≡ replaced m e
  alike_replaced d e t =
      let h = alike_is d e t in
      let a : alone_for m d.act ≡ alone_for m e.act =
      ap (alone_for m) h.idles ∙ ap (λ (n : ℕ). alone (pred n)) h.typed ∙ sym (ap (alone_for m) h.too) in
      let s = h.counts in
      λ i. record { act = a i; sync = s i }

-- ---- the events that stay

abbrev pub nth : List Event → ℕ → Event
nth l k = get_or l k no_event

module _ (m : Model) where
  position_within : (e : Event) (l : List Event) → position m e l ≤ length l
  unfolding position
  position_within e [] = omega arith
  position_within e (d ∷ l) = by_test (alike m d e) (λ q. rw q (omega arith)) (λ q. rw q (omega (arith, position_within e l)))

  position_alike : (e : Event) (l : List Event) → position m e l < length l → T (alike m (nth l (position m e l)) e)
  unfolding position
  position_alike e [] h = absurd (omega arith)
  position_alike e (d ∷ l) h =
      by_test (alike m d e) (λ q. rw q (true_is q)) (λ q. rw q (position_alike e l (let k = rw q at h in omega (arith, k))))

  -- events that are like stand at one position
  pub position_same : (e f : Event) → T (alike m e f) → (l : List Event) → position m e l ≡ position m f l
  unfolding position
  position_same e f t [] = refl
  position_same e f t (d ∷ l) = rw (alike_same m d e f t, position_same e f t l) refl

  -- one event more
  joined_more : (l : List Event) (e : Event) → length l ≤ length (joined m l e)
  unfolding joined
  joined_more [] e = omega arith
  joined_more (d ∷ l) e = by_test (alike m d e) (λ q. rw q (omega arith)) (λ q. rw q (omega (arith, joined_more l e)))

  joined_one : (l : List Event) (e : Event) → length (joined m l e) ≤ suc (length l)
  unfolding joined
  joined_one [] e = omega arith
  joined_one (d ∷ l) e = by_test (alike m d e) (λ q. rw q (omega arith)) (λ q. rw q (omega (arith, joined_one l e)))

  joined_position : (l : List Event) (e : Event) → position m e l < length (joined m l e)
  unfolding joined position
  joined_position [] e = omega arith
  joined_position (d ∷ l) e = by_test (alike m d e) (λ q. rw q (omega arith)) (λ q. rw q (omega (arith, joined_position l e)))

  joined_keeps : (l : List Event) (e : Event) (j : ℕ) → j < length l → nth (joined m l e) j ≡ nth l j
  unfolding joined
  joined_keeps [] e j h = absurd (omega arith)
  joined_keeps (d ∷ l) e zero h = by_test (alike m d e) (λ q. rw q refl) (λ q. rw q refl)
  joined_keeps (d ∷ l) e (suc j) h = by_test (alike m d e) (λ q. rw q refl) (λ q. rw q (joined_keeps l e j (omega arith)))

  joined_new : (l : List Event) (e : Event) (j : ℕ) → length l ≤ j → j < length (joined m l e) → (j ≡ position m e l) × (nth (joined m l e) j ≡ e)
  unfolding joined position
  joined_new [] e zero h k = (refl, refl)
  joined_new [] e (suc j) h k = absurd (omega arith)
  joined_new (d ∷ l) e zero h k = absurd (omega arith)
  joined_new (d ∷ l) e (suc j) h k =
      by_test (alike m d e) (λ q. absurd (let r = rw q at k in omega (arith, r)))
      (λ q. rw q (let r = joined_new l e j (omega arith) (let r = rw q at k in omega (arith, r)) in (ap suc r.0, r.1)))

  -- what stands at an event's position is replaced by the same
  joined_replaced : (l : List Event) (e : Event) → replaced m (nth (joined m l e) (position m e l)) ≡ replaced m e
  joined_replaced l e =
      by_less (position m e l) (length l) (λ h. rw (joined_keeps l e (position m e l) h) (alike_replaced m _ e (position_alike e l h)))
      (λ h. ap (replaced m) (joined_new l e (position m e l) h (joined_position l e)).1)

  -- a position among events holds among more of them
  position_joined : (e f : Event) (l : List Event) → position m e l < length l → position m e (joined m l f) ≡ position m e l
  unfolding joined position
  position_joined e f [] h = absurd (omega arith)
  position_joined e f (d ∷ l) h =
      by_test (alike m d f) (λ q. rw q refl)
      (λ q. rw q (by_test (alike m d e) (λ r. rw r refl) (λ r. rw r (ap suc (position_joined e f l (let k = rw r at h in omega (arith, k)))))))

  position_own : (e : Event) (l : List Event) → T (alike m e e) → position m e (joined m l e) ≡ position m e l
  unfolding joined position
  position_own e [] t = rw (is_true _ t) refl
  position_own e (d ∷ l) t = by_test (alike m d e) (λ q. rw q (rw q refl)) (λ q. rw q (rw q (ap suc (position_own e l t))))

  -- ---- all events, behind those kept

  staying_more : (kept l : List Event) → length kept ≤ length (staying m kept l)
  unfolding staying
  staying_more kept [] = omega arith
  staying_more kept (e ∷ l) = omega (arith, joined_more kept e, staying_more (joined m kept e) l)

  pub staying_few : (kept l : List Event) → length (staying m kept l) ≤ length kept + length l
  unfolding staying
  staying_few kept [] = omega arith
  staying_few kept (e ∷ l) = omega (arith, joined_one kept e, staying_few (joined m kept e) l)

  staying_keeps : (kept l : List Event) (j : ℕ) → j < length kept → nth (staying m kept l) j ≡ nth kept j
  unfolding staying
  staying_keeps kept [] j h = refl
  staying_keeps kept (e ∷ l) j h = staying_keeps (joined m kept e) l j (omega (arith, joined_more kept e)) ∙ joined_keeps kept e j h

  staying_position : (e : Event) (kept l : List Event) → position m e kept < length kept → position m e (staying m kept l) ≡ position m e kept
  unfolding staying
  staying_position e kept [] h = refl
  staying_position e kept (f ∷ l) h =
      let s = position_joined e f kept h in
      staying_position e (joined m kept f) l (omega (arith, s, joined_more kept f)) ∙ s

  -- ---- the new indices

  abbrev pub index : List Event → List Event → ℕ → ℕ
  index kept l k = get_or (renumbered m kept l) k 0

  pub index_within : (kept l : List Event) (k : ℕ) → k < length l → index kept l k < length (staying m kept l)
  unfolding staying renumbered
  index_within kept [] k h = absurd (omega arith)
  index_within kept (e ∷ l) zero h = omega (arith, joined_position kept e, staying_more (joined m kept e) l)
  index_within kept (e ∷ l) (suc k) h = index_within (joined m kept e) l k (omega arith)

  pub index_least_from : (kept l : List Event) (k : ℕ) → index kept l k ≤ length kept + k
  unfolding renumbered
  index_least_from kept [] k = omega arith
  index_least_from kept (e ∷ l) zero = omega (arith, position_within e kept)
  index_least_from kept (e ∷ l) (suc k) = omega (arith, joined_one kept e, index_least_from (joined m kept e) l k)

  -- what stays there is replaced by the same as the event itself
  pub index_replaced : (kept l : List Event) (k : ℕ) → k < length l → replaced m (nth (staying m kept l) (index kept l k)) ≡ replaced m (nth l k)
  unfolding staying renumbered
  index_replaced kept [] k h = absurd (omega arith)
  index_replaced kept (e ∷ l) zero h = rw (staying_keeps (joined m kept e) l (position m e kept) (joined_position kept e)) (joined_replaced kept e)
  index_replaced kept (e ∷ l) (suc k) h = index_replaced (joined m kept e) l k (omega arith)

  -- every index behind those kept is that of an event
  pub index_onto : (kept l : List Event) (j : ℕ) → length kept ≤ j → j < length (staying m kept l) → (k : ℕ) × (k < length l) × (index kept l k ≡ j)
  unfolding staying renumbered
  index_onto kept [] j h k = absurd (omega arith)
  index_onto kept (e ∷ l) j h k =
      by_less j (length (joined m kept e)) (λ g. (0, omega arith, sym (joined_new kept e j h g).0))
      (λ g. let r = index_onto (joined m kept e) l j g k in (suc r.0, omega (arith, r.1), r.2))

  -- an event whose index is that of one kept is like it
  index_kept : (kept l : List Event) (k : ℕ) → k < length l → index kept l k < length kept → T (alike m (nth kept (index kept l k)) (nth l k))
  unfolding renumbered
  index_kept kept [] k h i = absurd (omega arith)
  index_kept kept (e ∷ l) zero h i = position_alike e kept i
  index_kept kept (e ∷ l) (suc k) h i =
      rw (joined_keeps kept e (index (joined m kept e) l k) i) at (index_kept (joined m kept e) l k (omega arith) (omega (arith, i, joined_more kept e)))

  -- and one whose index is an event's that comes before is like that event
  index_first : (kept : List Event) (e : Event) (l : List Event) (k : ℕ) → k < length l → index (joined m kept e) l k ≡ position m e kept → T (alike m e (nth l k))
  index_first kept e l k h i =
      let p = joined_position kept e in
      let t : T (alike m (nth (joined m kept e) (position m e kept)) (nth l k)) = rw i at (index_kept (joined m kept e) l k h (omega (arith, i, p))) in
      by_less (position m e kept) (length kept)
      (λ b. alike_trans m e _ (nth l k) (alike_sym m _ e (position_alike e kept b)) (rw (joined_keeps kept e (position m e kept) b) at t))
      (λ b. rw (joined_new kept e (position m e kept) b p).1 at t)

  pub index_alike : (kept l : List Event) (i k : ℕ) → i < length l → k < length l → index kept l i ≡ index kept l k → (i ≡ k) ⊎ T (alike m (nth l i) (nth l k))
  unfolding renumbered
  index_alike kept [] i k h g q = absurd (omega arith)
  index_alike kept (e ∷ l) zero zero h g q = inl refl
  index_alike kept (e ∷ l) zero (suc k) h g q = inr (index_first kept e l k (omega arith) (sym q))
  index_alike kept (e ∷ l) (suc i) zero h g q = inr (alike_sym m e (nth l i) (index_first kept e l i (omega arith) q))
  index_alike kept (e ∷ l) (suc i) (suc k) h g q = ⊎_elim (λ e. inl (ap suc e)) (λ t. inr t) (index_alike (joined m kept e) l i k (omega arith) (omega arith) q)

  -- the index of an event that idles is its position among all that stay
  pub index_position : (kept l : List Event) (k : ℕ) → k < length l → T (alike m (nth l k) (nth l k)) → index kept l k ≡ position m (nth l k) (staying m kept l)
  unfolding staying renumbered
  index_position kept [] k h t = absurd (omega arith)
  index_position kept (e ∷ l) zero h t =
      let s = position_own e kept t in
      sym (staying_position e (joined m kept e) l (omega (arith, s, joined_position kept e)) ∙ s)
  index_position kept (e ∷ l) (suc k) h t = index_position (joined m kept e) l k (omega arith) t

  -- none of those kept is like one that is the first of its kind, so its index is behind theirs
  abbrev Bare : List Event → Event → Type 0
  Bare kept f = (j : ℕ) → j < length kept → alike m (nth kept j) f ≡ false

  bare_joined : (kept : List Event) (e f : Event) → Bare kept f → alike m e f ≡ false → Bare (joined m kept e) f
  bare_joined kept e f b q j h =
      by_less j (length kept) (λ g. ap (λ d. alike m d f) (joined_keeps kept e j g) ∙ b j g) (λ g. ap (λ d. alike m d f) (joined_new kept e j g h).1 ∙ q)

  index_from : (kept l : List Event) (k : ℕ) → k < length l → Bare kept (nth l k) → length kept ≤ index kept l k
  index_from kept l k h b =
      by_less (index kept l k) (length kept) (λ g. absurd (false_is (b (index kept l k) g) (index_kept kept l k h g))) (λ g. g)

  -- and behind that of each event before it
  pub index_behind : (kept l : List Event) (i k : ℕ) → i < k → k < length l → Bare kept (nth l k) → ((j : ℕ) → j < k → alike m (nth l j) (nth l k) ≡ false)
      → index kept l i < index kept l k
  unfolding renumbered
  index_behind kept [] i k h g b q = absurd (omega arith)
  index_behind kept (e ∷ l) i zero h g b q = absurd (omega arith)
  index_behind kept (e ∷ l) zero (suc k) h g b q =
      omega (arith, joined_position kept e, index_from (joined m kept e) l k (omega arith) (bare_joined kept e (nth l k) b (q 0 (omega arith))))
  index_behind kept (e ∷ l) (suc i) (suc k) h g b q =
      index_behind (joined m kept e) l i k (omega arith) (omega arith) (bare_joined kept e (nth l k) b (q 0 (omega arith))) (λ j r. q (suc j) (omega arith))
