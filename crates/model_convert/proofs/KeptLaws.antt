-- Laws of the events that stay, one after the other, as they are held, and of what they are replaced by.
use Prim.Native.Nat.{ℕ, zero, suc, ◌+◌, max, ◌≤◌, ◌<◌}
use mathlib.Core.Path.{◌≡◌, refl, sym, ap, ap₂, ◌∙◌}
use mathlib.Core.List.{List, [], ◌∷◌, ◌++◌, map}
use mathlib.Core.Bool.{true, false, cond}
use borrow.Author.Tests.{eq-eqb, ne_eqb, eqb-true, eqb-false}
use native.Mathlib.Omega.{arith}
use native.Mathlib.Nat.{add-zero}
use native.Mathlib.Numerals.{add-one}
use lib.Dec.{eqb}
use lib.ListN.{length, take, get_or, set, replicate, length-map, length-append, length-take}
use lib.Seq.{ext_get_or, take-suc}
use Rattle.std.proofs.lemmas.List.{get_or-map, take_all}
use Rattle.text.specs.Repeat.{fill}
use Rattle.text.specs.Answers.{padded}
use Rattle.eos.specs.Model as eos
use Rattle.eos.specs.Model.{Act, move, idle, alone, event}
use Rattle.eos.specs.Converting.{alone_for, replaced, alike, position, joined, staying, renumbered, converted}
use Rattle.eos.proofs.Basics.{by_test, by_less}
use Rattle.eos.proofs.StayingLaws.{staying_few}
use Rattle.model.specs.Rules.{Plant, right_plant}
use Rattle.model.specs.Held.{SizedModel, put_at, hold_event, no_event, hold_events, hold_plant, listed, model_of, plant_of}
use Rattle.model.specs.declared.Event.{Event}
use Rattle.model.specs.declared.Model.{Model}
use Rattle.model.proofs.SlotLaws.{length-listed, listed_at}
use Rattle.model.proofs.HeldTestLoops.{at_any}
use Rattle.model.proofs.HeldTests.{Held, most-events}
use Rattle.model.proofs.HeldBack.{held_again}
use Rattle.model.proofs.PaddedRows.{nth-padded}
use Rattle.model.proofs.RuleLaws.{right_is, few-places}
use Rattle.model.proofs.ShapeLaws as shape
use Rattle.model.proofs.HoldModel.{event-at, event_past, events-long}
use Rattle.model_convert.specs.Converting.{whole, bare, replaced_in, hold_indices, hold_numbers, converted_plant}
use Rattle.model_convert.proofs.WholeLaws.{Back, AllBack, event_back, events_back, take_held, position_whole, types_read, event_read, right}

-- ---- one more at the end

fill_snoc : {A B : Type 0} (put : ℕ → A → B → B) (i : ℕ) (l : List A) (a : A) (t : B) → fill put i (l ++ (a ∷ [])) t ≡ put (i + length l) a (fill put i l t)
unfolding fill
fill_snoc put i [] a t = rw (add-zero i)
fill_snoc put i (b ∷ l) a t = let e : i + suc (length l) ≡ suc i + length l = omega arith in rw e (fill_snoc put (suc i) l a (put i b t))

pub events_more : (l : List eos.Event) (e : eos.Event) → set (hold_events l) (length l) (hold_event e) ≡ hold_events (l ++ (e ∷ []))
unfolding hold_events
events_more l e =
    let z : 0 + length l ≡ length l = omega arith in
    sym (fill_snoc (put_at hold_event) 0 l e (replicate 64 no_event) ∙ rw z)

pub indices_more : (l : List ℕ) (n : ℕ) → set (hold_indices l) (length l) (suc n) ≡ hold_indices (l ++ (n ∷ []))
unfolding hold_indices
indices_more l n =
    let z : 0 + length l ≡ length l = omega arith in
    sym (fill_snoc (put_at suc) 0 l n (replicate 64 0) ∙ rw z)

module _ (m : eos.Model) where
  staying_snoc : (kept l : List eos.Event) (e : eos.Event) → staying m kept (l ++ (e ∷ [])) ≡ joined m (staying m kept l) e
  unfolding staying
  staying_snoc kept [] e = refl
  staying_snoc kept (d ∷ l) e = staying_snoc (joined m kept d) l e

  renumbered_snoc : (kept l : List eos.Event) (e : eos.Event) → renumbered m kept (l ++ (e ∷ [])) ≡ renumbered m kept l ++ (position m e (staying m kept l) ∷ [])
  unfolding staying renumbered
  renumbered_snoc kept [] e = refl
  renumbered_snoc kept (d ∷ l) e = ap (λ (r : List ℕ). position m d kept ∷ r) (renumbered_snoc (joined m kept d) l e)

  pub renumbered_long : (kept l : List eos.Event) → length (renumbered m kept l) ≡ length l
  unfolding renumbered
  renumbered_long kept [] = refl
  renumbered_long kept (e ∷ l) = ap suc (renumbered_long (joined m kept e) l)

  -- an event is put behind those that stay exactly where it stands behind them
  joined_is : (l : List eos.Event) (e : eos.Event) → joined m l e ≡ cond (eqb (position m e l) (length l)) (l ++ (e ∷ [])) l
  unfolding joined position
  joined_is [] e = refl
  joined_is (d ∷ l) e =
      by_test (alike m d e) (λ q. let u : eqb 0 (suc (length l)) ≡ false = ne_eqb 0 (suc (length l)) (λ e. omega arith) in rw (q, u))
      (λ q.
      let p = position m e l in
      let n = length l in
      rw (q, joined_is l e)
      (by_test (eqb p n)
      (λ s. let u : eqb (suc p) (suc n) ≡ true = eq-eqb (suc p) (suc n) (ap suc (eqb-true p n s)) in rw (s, u))
      (λ s. let u : eqb (suc p) (suc n) ≡ false = ne_eqb (suc p) (suc n) (λ e. eqb-false p n s (omega arith)) in rw (s, u))))

  position_most : (l : List eos.Event) (e : eos.Event) → position m e l ≤ length l
  unfolding position
  position_most [] e = omega arith
  position_most (d ∷ l) e = by_test (alike m d e) (λ q. rw q (omega arith)) (λ q. rw q (omega (arith, position_most l e)))

  -- ---- the first k events

  abbrev pub kept : ℕ → List eos.Event
  kept k = staying m [] (take k m.events)

  abbrev pub numbers : ℕ → List ℕ
  numbers k = renumbered m [] (take k m.events)

  pub few_kept : (k : ℕ) → length (kept k) ≤ k
  few_kept k = omega (arith, staying_few m [] (take k m.events), length-take k m.events)

  module _ (k : ℕ) (h : k < length m.events) where
    taken : take (k + 1) m.events ≡ take k m.events ++ (event m k ∷ [])
    taken = rw (add-one k) (take-suc m.events k eos.no_event h)

    abbrev place : ℕ
    place = position m (event m k) (kept k)

    kept_more : kept (k + 1) ≡ cond (eqb place (length (kept k))) (kept k ++ (event m k ∷ [])) (kept k)
    kept_more = ap (staying m []) taken ∙ staying_snoc [] (take k m.events) (event m k) ∙ joined_is (kept k) (event m k)

    pub held_more : cond (eqb place (length (kept k))) (set (hold_events (kept k)) (length (kept k)) (hold_event (event m k))) (hold_events (kept k))
        ≡ hold_events (kept (k + 1))
    held_more =
        rw (kept_more, events_more (kept k) (event m k)) (by_test (eqb place (length (kept k))) (λ q. rw q) (λ q. rw q))

    pub count_more : max (length (kept k)) (place + 1) ≡ length (kept (k + 1))
    count_more =
        rw kept_more
        (by_test (eqb place (length (kept k)))
        (λ q. rw q (omega (arith, eqb-true place (length (kept k)) q, length-append (kept k) (event m k ∷ []))))
        (λ q. let n = eqb-false place (length (kept k)) q in rw q (omega (arith, n, position_most (kept k) (event m k)))))

    pub numbers_more : set (hold_indices (numbers k)) k (place + 1) ≡ hold_indices (numbers (k + 1))
    numbers_more =
        let long : length (numbers k) ≡ k = omega (arith, renumbered_long [] (take k m.events), length-take k m.events) in
        let more : numbers (k + 1) ≡ numbers k ++ (place ∷ []) = ap (renumbered m []) taken ∙ renumbered_snoc [] (take k m.events) (event m k) in
        rw (more, ← indices_more (numbers k) place, long, add-one place)

-- ---- all that stay are read back

module _ (p : Plant) (right : right_plant p ≡ true) where
  abbrev m : eos.Model
  m = p.model

  joined_back : (l : List eos.Event) (e : eos.Event) → AllBack p right l → Back p right e → AllBack p right (joined m l e)
  unfolding joined
  joined_back [] e b c = (c, tt)
  joined_back (d ∷ l) e b c = by_test (alike m d e) (λ q. rw q b) (λ q. rw q (b.0, joined_back l e b.1 c))

  staying_back : (kept l : List eos.Event) → AllBack p right kept → AllBack p right l → AllBack p right (staying m kept l)
  unfolding staying
  staying_back kept [] b c = b
  staying_back kept (e ∷ l) b c = staying_back (joined m kept e) l (joined_back kept e b c.0) c.1

  take_back : (k : ℕ) (l : List eos.Event) → AllBack p right l → AllBack p right (take k l)
  take_back zero l b = tt
  take_back (suc k) [] b = tt
  take_back (suc k) (e ∷ l) b = (b.0, take_back k l b.1)

  pub kept_back : (k : ℕ) → AllBack p right (kept m k)
  kept_back k = staying_back [] (take k m.events) tt (take_back k m.events (events_back p right))

  -- ---- replaced

  act_replaced : (a : Act) (sync : List (List ℕ)) → replaced_in (padded m.types) (hold_event (record { act = a; sync = sync })) ≡ hold_event (record { act = alone_for m a; sync = sync })
  unfolding replaced_in hold_event
  act_replaced (move k) sync = refl
  act_replaced (idle q) sync = rw (nth-padded m.types (few-places p (right_is p right)) q)
  act_replaced (alone n) sync = refl

  none_replaced : replaced_in (padded m.types) no_event ≡ no_event
  unfolding replaced_in
  none_replaced = refl

  pub events_replaced : (l : List eos.Event) → length l ≤ 64 → (none : Event)
      → listed (λ k. replaced_in (padded m.types) (get_or (hold_events l) k none)) 0 64 ≡ hold_events (map (replaced m) l)
  events_replaced l few none =
      let f : ℕ → Event = λ k. replaced_in (padded m.types) (get_or (hold_events l) k none) in
      let n = length-listed f 0 64 in
      let long : length (map (replaced m) l) ≡ length l = length-map l (replaced m) in
      ext_get_or no_event (listed f 0 64) (hold_events (map (replaced m) l)) (n ∙ sym (events-long (map (replaced m) l))) (λ k h.
      let b : k < 64 = omega (arith, n) in
      listed_at f 64 k no_event b ∙ ap (replaced_in (padded m.types)) (at_any (hold_events l) k none no_event (omega (arith, events-long l)))
      ∙ by_less k (length l)
      (λ h.
      ap (replaced_in (padded m.types)) (event-at l k few h) ∙ act_replaced (get_or l k eos.no_event).act (get_or l k eos.no_event).sync
      ∙ ap hold_event (sym (get_or-map (replaced m) l k eos.no_event eos.no_event h)) ∙ sym (event-at (map (replaced m) l) k (omega arith) (omega arith)))
      (λ h.
      ap (replaced_in (padded m.types)) (event_past l k few h) ∙ none_replaced ∙ sym (event_past (map (replaced m) l) k (omega arith) (omega arith))))

-- ---- of a held model

-- how the loop stands before event k: the events that stay so far, how many they are, and the new numbers so far
pub record Stands (m : Model) (k n : ℕ) (events : List Event) (found : List ℕ) : Type 0 where
  pub within : k ≤ m.listed
  pub count : n ≡ length (kept (model_of m) k)
  pub held : events ≡ hold_events (kept (model_of m) k)
  pub indices : found ≡ hold_indices (numbers (model_of m) k)

pub begins : (m : Model) → Stands m 0 0 (replicate 64 no_event) (replicate 64 0)
unfolding staying renumbered hold_events hold_indices fill
begins m = record { within = omega arith; count = refl; held = refl; indices = refl }

-- few stay, and a position is at most how many they are
pub few_now : (m : Model) (k n : ℕ) (events : List Event) (found : List ℕ) → Stands m k n events found → n ≤ k
few_now m k n events found s = omega (arith, s.count, few_kept (model_of m) k)

pub most_at : (m : eos.Model) (e : eos.Event) (n : ℕ) (events : List Event) → position m e (map whole (take n events)) ≤ n
most_at m e n events = omega (arith, position_most m (map whole (take n events)) e, length-map (take n events) whole, length-take n events)

module _ (m : Model) (sized : SizedModel m) (held : Held m) where
  module _ (k n : ℕ) (events : List Event) (found : List ℕ) (s : Stands m k n events found) (h : k < m.listed) where
    -- the next event's position is that of the theory's
    pub placed : (none : Event)
        → position (bare m.types []) (whole (get_or m.events k none)) (map whole (take n events)) ≡ position (model_of m) (event (model_of m) k) (kept (model_of m) k)
    placed none =
        let p = plant_of m in
        let r = right m sized held in
        let l = kept p.model k in
        ap₂ (λ n e. position (bare m.types []) (whole (get_or m.events k none)) (map whole (take n e))) s.count s.held
        ∙ ap (λ l. position (bare m.types []) (whole (get_or m.events k none)) (map whole l)) (take_held p r l (omega (arith, few_kept p.model k, s.within, most-events m held)))
        ∙ ap₂ (λ t e. position (bare t []) (whole e) (map whole (map hold_event l))) (types_read m sized held) (event_read m sized held k h none)
        ∙ position_whole p r (event p.model k) (event_back p r k (omega (arith, shape.events-long m))) l (kept_back p r k)

    pub turns : (none : Event) (at : ℕ) → at ≡ position (bare m.types []) (whole (get_or m.events k none)) (map whole (take n events))
        → (after : List Event) → after ≡ cond (eqb at n) (set events n (get_or m.events k none)) events → Stands m (k + 1) (max n (at + 1)) after (set found k (at + 1))
    turns none at e after f =
        let b : k < length (model_of m).events = omega (arith, shape.events-long m) in
        let a : at ≡ position (model_of m) (event (model_of m) k) (kept (model_of m) k) = e ∙ placed none in
        record {
          within = omega arith;
          count = ap₂ (λ n a. max n (a + 1)) s.count a ∙ count_more (model_of m) k b;
          held = f ∙ rw (a, s.count, s.held, event_read m sized held k h none) (held_more (model_of m) k b);
          indices = rw (a, s.indices) (numbers_more (model_of m) k b);
        }

-- after the last event
pub ends : (m : Model) (k n : ℕ) (events : List Event) (found : List ℕ) → Stands m k n events found → m.listed ≤ k
    → (n ≡ length (staying (model_of m) [] (model_of m).events)) × (events ≡ hold_events (staying (model_of m) [] (model_of m).events)) × (found ≡ hold_numbers (model_of m))
ends m k n events found s h =
    let d = model_of m in
    let all : take k d.events ≡ d.events = take_all k d.events (omega (arith, shape.events-long m)) in (
      s.count ∙ ap (λ l. length (staying d [] l)) all,
      s.held ∙ ap (λ l. hold_events (staying d [] l)) all,
      s.indices ∙ ap (λ l. hold_indices (renumbered d [] l)) all,
    )

-- ---- the model with `alone`

module _ (m : Model) (sized : SizedModel m) (held : Held m) where
  abbrev stays : List eos.Event
  stays = staying (model_of m) [] (model_of m).events

  pub converted_held : (n : ℕ) → n ≡ length stays → (room : List Event) → room ≡ hold_events stays → (none : Event) (events : List Event)
      → events ≡ listed (λ k. replaced_in m.types (get_or room k none)) 0 64
      → record {
        header = 2;
        nets = m.nets;
        places = m.places;
        moves = m.moves;
        listed = n;
        types = m.types;
        pre = m.pre;
        post = m.post;
        objects = m.objects;
        events = events;
      } ≡ hold_plant (converted_plant (plant_of m))
  unfolding hold_plant converted
  converted_held n count room is none events made =
      let p = plant_of m in
      let h = held_again m sized held in
      let few : length stays ≤ 64 = omega (arith, staying_few (model_of m) [] (model_of m).events, shape.events-long m, most-events m held) in
      let c : n ≡ length (map (replaced p.model) stays) = count ∙ sym (length-map stays (replaced p.model)) in
      let e : events ≡ hold_events (map (replaced p.model) stays) =
      made ∙ ap₂ (λ t l. listed (λ k. replaced_in t (get_or l k none)) 0 64) (types_read m sized held) is ∙ events_replaced p (right m sized held) stays few none in
      λ i. record {
        header = 2;
        nets = (h i).nets;
        places = (h i).places;
        moves = (h i).moves;
        listed = c i;
        types = (h i).types;
        pre = (h i).pre;
        post = (h i).post;
        objects = (h i).objects;
        events = e i;
      }
