-- Laws of the model with `alone` in place of idling: what fires in it, what its weights are, and where events cannot be replaced.
use mathlib.Core.Path.{◌≡◌, refl, sym, ap, ap₂, subst, ◌∙◌}
use mathlib.Core.Bool.{Bool, true, false, not, ◌||◌}
use mathlib.Core.Logic.{◌↔◌, inr}
use mathlib.Core.List.{List, [], ◌∷◌, map}
use mathlib.Core.Option.{none, some}
use Prim.Native.Nat.{ℕ, zero, suc, pred, ◌≤◌, ◌<◌}
use native.Mathlib.Omega.{arith}
use lib.Dec.{T, eqb, eqb→eq}
use lib.ListN.{length, get_or-eq_default}
use Rattle.eos.specs.Model.{Marking, Act, move, idle, alone, Event, no_event, Model, places, event, type_of}
use Rattle.eos.specs.Firing.{outer, inner, outer_of, inner_of, Enabled, all_below, Step, fires, after}
use Rattle.eos.specs.Causes.{Least}
use Rattle.eos.specs.Weights.{Weights, Shaped, weigh, effect, Passing}
use Rattle.eos.specs.Converting.{alone_for, replaced, alike, converted, new_index, renamed, idles_at, like_at, replaceable_act, replaceable, unreplaced, Lacks, IdlesTyped, Known, AllFire}
use Rattle.eos.proofs.Basics.{true_is, false_is, is_true, and_l, and_r, and_i, eqb_of, by_test, by_less, any_is, is_any}
use Rattle.eos.proofs.FiringLaws.{fires_yes, fires_all, alone_idles, idles_alone, all_below-at}
use Rattle.eos.proofs.CauseLaws.{below_yes, below_none}
use Rattle.eos.proofs.FirstLaws.{failing-least, least-failing}
use Rattle.eos.proofs.WeightLaws.{effect_idle}
use Rattle.eos.proofs.StayingLaws.{alike_exactly}
use Rattle.eos.proofs.ConvertingLaws.{index_known, event_converted, event_original, alike_index}

-- ---- places that have a like event

idles_is : (q : ℕ) (a : Act) → T (idles_at q a) → a ≡ idle q
idles_is q (move k) t = absurd t
idles_is q (idle p) t = ap idle (eqb→eq p q t)
idles_is q (alone n) t = absurd t

module _ (m : Model) where
  -- the test finds an event that is like e and idles at q
  pub like_at_exactly : (e : Event) (q : ℕ) → T (like_at m e q) ↔ ((d : ℕ) × (d < length m.events) × ((event m d).act ≡ idle q) × T (alike m (event m d) e))
  unfolding like_at
  like_at_exactly e q = (
    λ t.
        let r = any_is _ m.events no_event t in
        (r.0, r.1, idles_is q _ (and_l _ (alike m (event m r.0) e) r.2), and_r (idles_at q (event m r.0).act) _ r.2),
    λ h. is_any _ m.events h.0 no_event h.1 (and_i (idles_at q (event m h.0).act) _ (rw h.2 (eqb_of q q refl)) h.3),
  )

  -- where an idling event can be replaced, every place of its type has such an event
  replaceable_at : (e : Event) (p q : ℕ) → e.act ≡ idle p → T (replaceable m e) → q < places m → type_of m q ≡ type_of m p → T (like_at m e q)
  unfolding replaceable
  replaceable_at e p q i t h k =
      let a : T (replaceable_act m e (idle p)) = subst (λ a. T (replaceable_act m e a)) i t in
      let b : T (not (eqb (type_of m q) (type_of m p)) || like_at m e q) = all_below-at (places m) _ a q h in
      rw (is_true _ (eqb_of (type_of m q) (type_of m p) k)) at b

  at_some_place : (e : Event) (p : ℕ) → all_below (places m) (λ q. not (eqb (type_of m q) (type_of m p)) || like_at m e q) ≡ false
      → (q : ℕ) × (q < places m) × (type_of m q ≡ type_of m p) × (like_at m e q ≡ false)
  at_some_place e p h =
      let r = not_all (places m) _ h in
      let s = go (eqb (type_of m r.0) (type_of m p)) (like_at m e r.0) r.2 in
      (r.0, r.1, eqb→eq _ _ (true_is s.0), s.1)
    where
      not_all : (n : ℕ) (f : ℕ → Bool) → all_below n f ≡ false → (q : ℕ) × (q < n) × (f q ≡ false)
      not_all zero f h = absurd (false_is h tt)
      not_all (suc n) f h = by_test (f n) (λ q. let r = not_all n f (rw q at h) in (r.0, omega (arith, r.1), r.2)) (λ q. (n, omega arith, q))

      go : (a b : Bool) → not a || b ≡ false → (a ≡ true) × (b ≡ false)
      go true b h = (refl, h)
      go false b h = absurd (false_is h tt)

  -- an event cannot be replaced exactly where it idles and a place of its type has no event that is like it
  pub lacks_exactly : (k : ℕ) → (replaceable m (event m k) ≡ false) ↔ Lacks m k
  unfolding replaceable
  lacks_exactly k = (
    go (event m k).act refl,
    λ h.
        by_test (replaceable m (event m k))
        (λ q. absurd (false_is h.bare (replaceable_at (event m k) h.own h.place h.idles (true_is q) h.within h.typed))) (λ q. q),
  )
    where
      go : (a : Act) → (event m k).act ≡ a → replaceable_act m (event m k) a ≡ false → Lacks m k
      go (move j) i h = absurd (false_is h tt)
      go (idle p) i h =
          let r = at_some_place (event m k) p h in
          record { own = p; idles = i; place = r.0; within = r.1; typed = r.2; bare = r.3 }
      go (alone n) i h = absurd (false_is h tt)

  -- the least such event is named, and none where there is none
  pub unreplaced_least : (k : ℕ) → (unreplaced m ≡ some k) ↔ (Least (length m.events) (λ k. replaceable m (event m k)) k × Lacks m k)
  unfolding unreplaced
  unreplaced_least k = (
    λ e. let h = failing-least (length m.events) _ k e in (h, (lacks_exactly k).0 h.fails),
    λ h. least-failing (length m.events) _ k h.0,
  )

  pub unreplaced_none : (unreplaced m ≡ none) ↔ ((k : ℕ) → k < length m.events → Lacks m k → ⊥)
  unfolding unreplaced
  unreplaced_none = (
    λ e k h l. false_is ((lacks_exactly k).1 l) (below_yes (length m.events) _ e k h),
    λ f.
        below_none (length m.events) (λ k. replaceable m (event m k))
        (λ k h. by_test (replaceable m (event m k)) true_is (λ q. absurd (f k h ((lacks_exactly k).0 q)))),
  )

-- ---- firing

suc_pred : (n : ℕ) → 1 ≤ n → n ≡ suc (pred n)
suc_pred zero h = absurd (omega arith)
suc_pred (suc n) h = refl

module _ (m : Model) where
  -- the rule does not read the events
  there : (e : Event) (taken given : Marking) → Enabled m e taken given → Enabled (converted m) e taken given
  unfolding converted outer inner inner_of
  there e taken given h = record { outer-taken = h.outer-taken; outer-given = h.outer-given; inner-taken = h.inner-taken; inner-given = h.inner-given }

  back : (e : Event) (taken given : Marking) → Enabled (converted m) e taken given → Enabled m e taken given
  unfolding converted outer inner inner_of
  back e taken given h = record { outer-taken = h.outer-taken; outer-given = h.outer-given; inner-taken = h.inner-taken; inner-given = h.inner-given }

  -- an event that idles at a place that a net types is allowed only where `alone` is
  replaced_fires : (e : Event) (taken given : Marking) → ((p : ℕ) → e.act ≡ idle p → 1 ≤ type_of m p) → Enabled m e taken given
      → Enabled m (replaced m e) taken given
  replaced_fires e taken given = go e.act
    where
      go : (a : Act) → ((p : ℕ) → a ≡ idle p → 1 ≤ type_of m p) → Enabled m (record { act = a; sync = e.sync }) taken given
          → Enabled m (record { act = alone_for m a; sync = e.sync }) taken given
      go (move k) d h = h
      go (idle p) d h = idles_alone m (pred (type_of m p)) e.sync given taken p (suc_pred (type_of m p) (d p refl)) h
      go (alone n) d h = h

  -- every step that fires does so by its event's new index
  pub fires_converted : IdlesTyped m → (s : Step) → s.event < length m.events → (μ : Marking) → T (fires m s μ) → T (fires (converted m) (renamed m s) μ)
  fires_converted d s h μ t =
      let f = fires_yes m s μ t in
      fires_all (converted m) (renamed m s) μ
      (rw (event_converted m s.event h) (there _ s.taken s.given (replaced_fires (event m s.event) s.taken s.given (λ p. d s.event p h) f.0))) f.1

  of_parts : (e : Event) (a : Act) (sync : List (List ℕ)) (taken given : Marking) → e.act ≡ a → e.sync ≡ sync
      → Enabled m (record { act = a; sync = sync }) taken given → Enabled m e taken given
  of_parts e a sync taken given p q = subst (λ d. Enabled m d taken given) (λ i. record { act = sym p i; sync = sym q i })

  -- where `alone` is allowed, and every place of its net has an event that is like, one of these is
  original : IdlesTyped m → (k : ℕ) → k < length m.events → T (replaceable m (event m k)) → (taken given : Marking)
      → Enabled m (replaced m (event m k)) taken given → (d : ℕ) × (d < length m.events) × (new_index m d ≡ new_index m k) × Enabled m (event m d) taken given
  original typed k h r taken given = go (event m k).act refl
    where
      go : (a : Act) → (event m k).act ≡ a → Enabled m (record { act = alone_for m a; sync = (event m k).sync }) taken given
          → (d : ℕ) × (d < length m.events) × (new_index m d ≡ new_index m k) × Enabled m (event m d) taken given
      go (move j) i e = (k, h, refl, of_parts _ (move j) _ taken given i refl e)
      go (idle p) i e =
          let q = alone_idles m (pred (type_of m p)) (event m k).sync given taken e in
          let same : type_of m q.0 ≡ type_of m p = q.1 ∙ sym (suc_pred (type_of m p) (typed k p h i)) in
          let within : q.0 < places m =
          by_less q.0 (places m) (λ b. b) (λ b. let z = get_or-eq_default m.types 0 b in absurd (omega (arith, z, q.1))) in
          let l = (like_at_exactly m (event m k) q.0).0 (replaceable_at m (event m k) p q.0 i r within same) in
          (l.0, l.1, (alike_index m l.0 k l.1 h).1 (inr l.3), of_parts _ (idle q.0) _ taken given l.2 ((alike_exactly m _ _).0 l.3).counts q.2)
      go (alone n) i e = (k, h, refl, of_parts _ (alone n) _ taken given i refl e)

  -- and where every event can be replaced, a step that fires there is one of the model's, of an event with that new index
  pub fires_original : IdlesTyped m → unreplaced m ≡ none → (s : Step) → s.event < length (converted m).events → (μ : Marking) → T (fires (converted m) s μ)
      → (k : ℕ) × (k < length m.events) × (new_index m k ≡ s.event) × T (fires m (record { event = k; taken = s.taken; given = s.given }) μ)
  unfolding unreplaced
  fires_original d u s h μ t =
      let f = fires_yes (converted m) s μ t in
      let o = event_original m s.event h in
      let e : event (converted m) s.event ≡ replaced m (event m o.0) = ap (event (converted m)) (sym o.2) ∙ event_converted m o.0 o.1 in
      let r = original d o.0 o.1 (below_yes (length m.events) _ u o.0 o.1) s.taken s.given (back _ s.taken s.given (rw e at f.0)) in
      (r.0, r.1, ◌∙◌ {a = new_index m r.0} r.2 o.2, fires_all m (record { event = r.0; taken = s.taken; given = s.given }) μ r.3 f.1)

  -- so it is with lists of steps
  pub runs_converted : IdlesTyped m → (l : List Step) (μ ν : Marking) → Known m l → AllFire m l μ ν → AllFire (converted m) (map (renamed m) l) μ ν
  runs_converted d [] μ ν k r = r
  runs_converted d (s ∷ l) μ ν k r = (fires_converted d s k.0 μ r.0, runs_converted d l (after s μ) ν k.1 r.1)

  pub runs_original : IdlesTyped m → unreplaced m ≡ none → (l : List Step) (μ ν : Marking) → Known (converted m) l → AllFire (converted m) l μ ν
      → (l' : List Step) × Known m l' × (map (renamed m) l' ≡ l) × AllFire m l' μ ν
  runs_original d u [] μ ν k r = ([], tt, refl, r)
  runs_original d u (s ∷ l) μ ν k r =
      let f = fires_original d u s k.0 μ r.0 in
      let o = runs_original d u l (after s μ) ν k.1 r.1 in
      let e = f.2 in
      let q : renamed m (record { event = f.0; taken = s.taken; given = s.given }) ≡ s = λ i. record { event = e i; taken = s.taken; given = s.given } in
      (record { event = f.0; taken = s.taken; given = s.given } ∷ o.0, (f.1, o.1), ap₂ ◌∷◌ q o.2, (f.3, o.3))

-- ---- weights

module _ (m : Model) (w : Weights) where
  -- a marking's weighted sum is the same
  pub weigh_converted : (μ : Marking) → weigh (converted m) w μ ≡ weigh m w μ
  unfolding converted weigh outer inner
  weigh_converted μ = refl

  replaced_effect : (e : Event) → effect m w (replaced m e) ≡ effect m w e
  replaced_effect e = go e.act
    where
      go : (a : Act) → effect m w (record { act = alone_for m a; sync = e.sync }) ≡ effect m w (record { act = a; sync = e.sync })
      go (move k) = refl
      go (idle p) = sym (effect_idle m w e.sync (pred (type_of m p)) p)
      go (alone n) = refl

  same_effect : (e : Event) → effect (converted m) w e ≡ effect m w e
  unfolding converted effect outer_of inner_of
  same_effect e = refl

  -- an event's effect is that of the event at its new index
  pub effect_converted : (k : ℕ) → k < length m.events → effect (converted m) w (event (converted m) (new_index m k)) ≡ effect m w (event m k)
  effect_converted k h = ap (effect (converted m) w) (event_converted m k h) ∙ same_effect (replaced m (event m k)) ∙ replaced_effect (event m k)

  -- so the same weights pass
  pub passing_converted : Passing m w ↔ Passing (converted m) w
  passing_converted = (
    λ p. record {
      some_weight = p.some_weight;
      balanced = λ j h. let o = event_original m j h in ap (λ j. effect (converted m) w (event (converted m) j)) (sym o.2) ∙ effect_converted o.0 o.1 ∙ p.balanced o.0 o.1;
    },
    λ p. record { some_weight = p.some_weight; balanced = λ k h. sym (effect_converted k h) ∙ p.balanced (new_index m k) (index_known m k h) },
  )

  -- and have their shape
  pub shaped_converted : Shaped m w ↔ Shaped (converted m) w
  unfolding converted
  shaped_converted = (
    λ s. record { outward = s.outward; inward = s.inward; each = s.each },
    λ s. record { outward = s.outward; inward = s.inward; each = s.each },
  )
