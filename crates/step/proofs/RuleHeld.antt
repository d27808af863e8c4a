-- What the parts of the code answer for a held model is what the model's event asks and gives.
use Prim.Native.Nat.{ℕ, zero, suc, ◌+◌, ◌*◌, ◌≤◌, ◌<◌}
use mathlib.Core.Path.{◌≡◌, refl, ap, sym, ◌∙◌}
use mathlib.Core.Bool.{Bool, true, not}
use mathlib.Core.List.{List, [], ◌∷◌}
use native.Mathlib.Omega.{arith}
use native.Mathlib.Nat.{zero-add, add-zero}
use lib.Dec.{ltb, eqb}
use borrow.Author.Tests.{ltb-true}
use lib.ListN.{length, take, get_or, length-take, get_or-eq_default}
use lib.Seq.{ext_get_or, get_or-take}
use Rattle.text.proofs.Basics.{and_true}
use Rattle.text.specs.Answers.{padded}
use Rattle.text.proofs.PaddedLaws.{length-padded}
use Rattle.text.proofs.TestLaws.{within-is}
use Rattle.eos.specs.Vector.{◌⊕◌, times, zeros, unit}
use Rattle.eos.specs.Model as eos
use Rattle.eos.specs.Firing.{act_side, of_act, outer_of, inner_of, summed, pre, post}
use Rattle.eos.proofs.VectorLaws.{get_d-⊕}
use Rattle.eos.proofs.VectorSums.{length-times, length-unit, length-zeros, length-one, long-left, nth-times, nth_zero}
use Rattle.model.specs.Rules.{nth, right_act}
use Rattle.model.specs.Acts.{act_of, alone_of, held_act, outer_in}
use Rattle.model.specs.Held.{tabled, row, row_in, listed, no_net, no_event, sides_in, net_of, event_of, sync_in, model_of, row_at}
use Rattle.model.specs.Test.{held_net, empty_past, used_of, frame_in}
use Rattle.model.specs.declared.ObjectNet.{ObjectNet}
use Rattle.model.specs.declared.Event.{Event}
use Rattle.model.specs.declared.Model.{Model}
use Rattle.model.proofs.PaddedRows.{nth-padded, padded-take}
use Rattle.model.proofs.SlotLaws.{by_index, length-listed, listed_at, listed_past}
use Rattle.model.proofs.TableLaws.{nth-row, length-tabled, tabled-row}
use Rattle.model.proofs.HeldTests.{Held, moves_are, most-nets, most-places, most-moves}
use Rattle.model.proofs.HeldTestLoops.{few-steps}
use Rattle.model.proofs.HeldActs.{act-is, act_range}
use Rattle.model.proofs.ShapeLaws.{nets-long, net-is, event-is}
use Rattle.model.proofs.UsedLaws.{types-empty, count-is, net_used, net-held, event_used}
use Rattle.step.specs.Rule.{hold_sides, hold_rule}
use Rattle.step.specs.declared.Sides.{Sides}
use Rattle.step.specs.RuleParts.{sum_rows, net_sum}

-- ---- sums, number by number

-- counted from t on, n numbers times their counts
abbrev total_at : (ℕ → ℕ) → (ℕ → ℕ) → ℕ → ℕ → ℕ
total_at count f t zero = 0
total_at count f t (suc n) = count t * f t + total_at count f (suc t) n

-- only the numbers that are counted matter
total_same : (c d f g : ℕ → ℕ) (t n : ℕ) → ((u : ℕ) → t ≤ u → u < t + n → (c u ≡ d u) × (f u ≡ g u)) → total_at c f t n ≡ total_at d g t n
total_same c d f g t zero h = refl
total_same c d f g t (suc n) h =
    let p = h t (omega arith) (omega arith) in
    rw (p.0, p.1, total_same c d f g (suc t) n (λ u a b. h u (omega arith) (omega arith)))

nth-sum : (count : ℕ → ℕ) (rows : ℕ → List ℕ) (t n : ℕ) (v : List ℕ) (i : ℕ)
    → nth (sum_rows count rows t n v) i ≡ nth v i + total_at count (λ u. nth (rows u) i) t n
unfolding sum_rows
nth-sum count rows t zero v i = omega arith
nth-sum count rows t (suc n) v i =
    omega (arith, nth-sum count rows (suc t) n (v ⊕ times (count t) (rows t)) i, get_d-⊕ v (times (count t) (rows t)) i, nth-times (count t) (rows t) i)

total_none : (c g : ℕ → ℕ) (t n : ℕ) → ((j : ℕ) → j < n → c (t + j) ≡ 0) → total_at c g t n ≡ 0
total_none c g t zero h = refl
total_none c g t (suc n) h =
    let z : c t ≡ 0 = rw (add-zero t) at (h 0 (omega arith)) in
    let r = total_none c g (suc t) n (λ j p. let s : suc t + j ≡ t + suc j = omega arith in rw s (h (suc j) (omega arith))) in
    rw (z, r) (omega arith)

nth-summed : (side : eos.Transition → List ℕ) (c : ℕ → ℕ) (f : ℕ → eos.Transition) (cs : List ℕ) (t n i : ℕ)
    → ((j : ℕ) → j < n → nth cs j ≡ c (t + j)) → nth (summed side cs (listed f t n)) i ≡ total_at c (λ u. nth (side (f u)) i) t n
nth-summed side c f [] t n i h = sym (total_none c (λ u. nth (side (f u)) i) t n (λ j p. sym (h j p)))
nth-summed side c f (a ∷ cs) t zero i h = refl
nth-summed side c f (a ∷ cs) t (suc n) i h =
    let z : a ≡ c t = rw (add-zero t) at (h 0 (omega arith)) in
    let r = nth-summed side c f cs (suc t) n i (λ j p. let s : suc t + j ≡ t + suc j = omega arith in rw s (h (suc j) (omega arith))) in
    get_d-⊕ (times a (side (f t))) (summed side cs (listed f (suc t) n)) i ∙ rw (nth-times a (side (f t)) i, r, z)

-- ---- how long the sums are

length_both : (w : ℕ) (x y : List ℕ) → length x ≤ w → length y ≤ w → length (x ⊕ y) ≤ w
length_both w [] y p q = q
length_both w (a ∷ x) [] p q = p
length_both zero (a ∷ x) (b ∷ y) p q = absurd (omega arith)
length_both (suc w) (a ∷ x) (b ∷ y) p q = omega (arith, length_both w x y (omega arith) (omega arith))

length-summed : (side : eos.Transition → List ℕ) (f : ℕ → eos.Transition) (w : ℕ) → ((u : ℕ) → length (side (f u)) ≤ w)
    → (cs : List ℕ) (t n : ℕ) → length (summed side cs (listed f t n)) ≤ w
length-summed side f w h [] t n = omega arith
length-summed side f w h (a ∷ cs) t zero = omega arith
length-summed side f w h (a ∷ cs) t (suc n) =
    length_both w (times a (side (f t))) (summed side cs (listed f (suc t) n)) (omega (arith, length-times a (side (f t)), h t)) (length-summed side f w h cs (suc t) n)

-- a row is no longer than it is asked for
row-few : (n : ℕ) (table : List (List ℕ)) (i : ℕ) → length (row_in n table i) ≤ n
row-few n table i = omega (arith, length-take n (row_at table i))

-- where the first numbers are all that there are, so are the first 32
seen : (r : List ℕ) (w i : ℕ) → w ≤ 32 → nth (take w r) i ≡ nth r i → nth (take 32 r) i ≡ nth (take w r) i
seen r w i h e =
    by_index 32 i
    (λ p. get_or-take 32 r i 0 p ∙ sym e)
    (λ p. get_or-eq_default (take 32 r) 0 {n = i} (omega (arith, length-take 32 r)) ∙ sym (get_or-eq_default (take w r) 0 {n = i} (omega (arith, length-take w r))))

length-rows : (count : ℕ → ℕ) (table : List (List ℕ)) (t n : ℕ) (v : List ℕ) → length v ≡ 32 → length (sum_rows count (row_in 32 table) t n v) ≡ 32
unfolding sum_rows
length-rows count table t zero v e = e
length-rows count table t (suc n) v e =
    let k : length (times (count t) (row_in 32 table t)) ≤ length v = omega (arith, length-times (count t) (row_in 32 table t), row-few 32 table t) in
    length-rows count table (suc t) n (v ⊕ times (count t) (row_in 32 table t)) (long-left v (times (count t) (row_in 32 table t)) k ∙ e)

-- nets that have the same have the same rows
rows_same : (l k : List (List ℕ)) → length l ≤ 8 → length k ≤ 8 → ((n : ℕ) → n < 8 → padded (get_or l n []) ≡ padded (get_or k n [])) → tabled row 8 l ≡ tabled row 8 k
rows_same l k p q h =
    ext_get_or [] (tabled row 8 l) (tabled row 8 k) (length-tabled row 8 l ∙ sym (length-tabled row 8 k)) λ n b.
    let few : n < 8 = omega (arith, length-tabled row 8 l) in
    tabled-row row [] refl 8 l p n few ∙ h n few ∙ sym (tabled-row row [] refl 8 k q n few)

-- ---- one side of a held model's transitions, as the code finds it
pub record Side (side : eos.Transition → List ℕ) (pick : ObjectNet → List (List ℕ)) : Type 0 where
  pub row : (o : ObjectNet) (t : ℕ) → side (sides_in o.places o.pre o.post t) ≡ row_in o.places (pick o) t
  pub room : (o : ObjectNet) → held_net o ≡ true → empty_past 32 (used_of o.transitions o.places) (pick o) ≡ true

abbrev room_of : ObjectNet → List (List ℕ) → Bool
room_of o table = empty_past 32 (used_of o.transitions o.places) table

pub pre_side : Side pre (λ o. o.pre)
unfolding held_net
pre_side = record { row = λ o t. refl; room = λ o h. (and_true (room_of o o.pre) (room_of o o.post) h).0 }

pub post_side : Side post (λ o. o.post)
unfolding held_net
post_side = record { row = λ o t. refl; room = λ o h. (and_true (room_of o o.pre) (room_of o o.post) h).1 }

module _ (m : Model) (held : Held m) (e : ℕ) (known : e < m.listed) where
  abbrev event : Event
  event = get_or m.events e no_event

  abbrev net : ℕ → ObjectNet
  net k = get_or m.objects k no_net

  sync-is : (k : ℕ) → k < m.nets → get_or (event_of m.nets m.objects event).sync k [] ≡ sync_in m.objects event.sync k
  unfolding event_of
  sync-is k h = listed_at (sync_in m.objects event.sync) m.nets k [] h

  module _ {side : eos.Transition → List ℕ} {pick : ObjectNet → List (List ℕ)} (s : Side side pick) where
    -- the counts that a net's transitions have
    counts_are_lem : (k j : ℕ) → j < (net k).transitions → nth (row_in (net k).transitions event.sync k) j ≡ nth (row_at event.sync k) (0 + j)
    counts_are_lem k j h = rw (zero-add j) (get_or-take (net k).transitions (row_at event.sync k) j 0 h)

    -- what the theory adds up
    inner_of_lem : (k : ℕ) → k < m.nets → inner_of side (model_of m) (eos.event (model_of m) e) k
        ≡ zeros (net k).places ⊕ summed side (sync_in m.objects event.sync k) (listed (sides_in (net k).places (net k).pre (net k).post) 0 (net k).transitions)
    unfolding inner_of net_of
    inner_of_lem k h = rw (net-is m k h, event-is m e known, sync-is k h)

    -- the code's sum of net k is the theory's, number by number
    inner-is : (k : ℕ) → k < m.nets → padded (net_sum pick m.objects event.sync k) ≡ padded (inner_of side (model_of m) (eos.event (model_of m) e) k)
    inner-is k h =
        let o = net k in
        let used = net_used m held k h in
        let wide = (within-is 1 32 o.places used.0).1 in
        let few = (within-is 0 32 o.transitions used.1).1 in
        let f = sides_in o.places o.pre o.post in
        let counts = row_in o.transitions event.sync k in
        let count : ℕ → ℕ = nth (row_at event.sync k) in
        let mine = net_sum pick m.objects event.sync k in
        let sums = summed side counts (listed f 0 o.transitions) in
        let theirs = zeros o.places ⊕ sums in
        let short : length sums ≤ length (zeros o.places) =
        rw (length-zeros o.places) (length-summed side f o.places (λ u. rw (s.row o u) (row-few o.places (pick o) u)) counts 0 o.transitions) in
        let long : length theirs ≤ 32 = omega (arith, long-left (zeros o.places) sums short, length-zeros o.places) in
        let all : length mine ≡ 32 = length-rows count (pick o) 0 o.transitions (zeros 32) refl in
        let empties = s.room o (net-held m held k (omega (arith, most-nets m held))) in
        let rows : (u i : ℕ) → u < o.transitions → nth (row_in 32 (pick o) u) i ≡ nth (side (f u)) i =
        λ u i p. rw (s.row o u) (seen (row_at (pick o) u) o.places i wide (ap (λ (g : ℕ → ℕ). g i) (nth-row 32 o.transitions (λ _. o.places) (pick o) empties few u p))) in
        let at : (i : ℕ) → nth mine i ≡ nth theirs i =
        λ i.
        let x = nth-sum count (row_in 32 (pick o)) 0 o.transitions (zeros 32) i in
        let y = total_same count count (λ u. nth (row_in 32 (pick o) u) i) (λ u. nth (side (f u)) i) 0 o.transitions (λ u a b. (refl, rows u i (omega arith))) in
        let z = nth-summed side count f counts 0 o.transitions i (counts_are_lem k) in
        omega (arith, x, y, z, get_d-⊕ (zeros o.places) sums i, nth_zero 32 i, nth_zero o.places i) in
        ext_get_or 0 (padded mine) (padded theirs) (length-padded mine ∙ sym (length-padded theirs)) (λ i p. nth-padded mine (omega arith) i ∙ at i ∙ sym (nth-padded theirs long i))
        ∙ ap padded (sym (inner_of_lem k h))

  -- the rows of the code's sums are those of the theory's
  pub inners_are : {side : eos.Transition → List ℕ} {pick : ObjectNet → List (List ℕ)} → Side side pick
      → tabled row 8 (listed (net_sum pick m.objects event.sync) 0 m.nets)
      ≡ tabled row 8 (listed (inner_of side (model_of m) (eos.event (model_of m) e)) 0 (length (model_of m).nets))
  inners_are {side} {pick} s =
      let f = net_sum pick m.objects event.sync in
      let g = inner_of side (model_of m) (eos.event (model_of m) e) in
      let few = most-nets m held in
      rw (nets-long m)
      (rows_same (listed f 0 m.nets) (listed g 0 m.nets) (omega (arith, length-listed f 0 m.nets)) (omega (arith, length-listed g 0 m.nets)) λ k h.
      by_index m.nets k
      (λ p. rw (listed_at f m.nets k [] p, listed_at g m.nets k [] p) (inner-is s k p))
      (λ p. rw (listed_past f m.nets k [] p, listed_past g m.nets k [] p)))

  -- ---- the outer side

  -- a side of the moves, in its table
  pub record Moving (side : eos.Transition → List ℕ) (table : List (List ℕ)) : Type 0 where
    pub row : (i : ℕ) → side (sides_in m.places m.pre m.post i) ≡ row_in m.places table i
    pub room : empty_past 32 (used_of m.moves m.places) table ≡ true
    pub wide : (i : ℕ) → i < 32 → length (row_at table i) ≡ 32

  pub pre_moving : ((i : ℕ) → i < 32 → length (row_at m.pre i) ≡ 32) → Moving pre m.pre
  pre_moving wide = record { row = λ i. refl; room = (moves_are m held.moves).pre; wide = wide }

  pub post_moving : ((i : ℕ) → i < 32 → length (row_at m.post i) ≡ 32) → Moving post m.post
  post_moving wide = record { row = λ i. refl; room = (moves_are m held.moves).post; wide = wide }

  module _ {side : eos.Transition → List ℕ} {table : List (List ℕ)} (s : Moving side table) where
    -- a move's row, as the theory and as the code has it
    move-is : (i : ℕ) → i < m.moves → padded (side (get_or (model_of m).moves i eos.no_transition)) ≡ row_at table i
    unfolding model_of
    move-is i h =
        let f = sides_in m.places m.pre m.post in
        let wide = most-places m held in
        let few = most-moves m held in
        let v = row_in m.places table i in
        let short : length v ≤ 32 = omega (arith, row-few m.places table i) in
        let n : length (row_at table i) ≡ 32 = s.wide i (omega arith) in
        rw (listed_at f m.moves i eos.no_transition h, s.row i)
        (ext_get_or 0 (padded v) (row_at table i) (length-padded v ∙ sym n)
        (λ j p. nth-padded v short j ∙ ap (λ (g : ℕ → ℕ). g j) (nth-row 32 m.moves (λ _. m.places) table s.room few i h)))

    -- one net-token on a place
    idle-is : (p : ℕ) → p < m.places → padded (unit p ⊕ zeros (eos.places (model_of m))) ≡ unit p ⊕ zeros 32
    unfolding model_of
    idle-is p h =
        let n = length (take m.places m.types) in
        let wide = most-places m held in
        let v = unit p ⊕ zeros n in
        let one = unit p ⊕ zeros 32 in
        let few : n ≤ 32 = omega (arith, length-take m.places m.types) in
        let short : length v ≤ 32 = length_both 32 (unit p) (zeros n) (omega (arith, length-unit p)) (omega (arith, length-zeros n)) in
        let at : (i : ℕ) → nth v i ≡ nth one i =
        λ i. omega (arith, get_d-⊕ (unit p) (zeros n) i, nth_zero n i, get_d-⊕ (unit p) (zeros 32) i, nth_zero 32 i) in
        ext_get_or 0 (padded v) one (length-padded v ∙ sym (length-one p 32 (omega arith))) (λ i q. nth-padded v short i ∙ at i)

    -- and none
    none-is : padded (zeros (eos.places (model_of m))) ≡ zeros 32
    unfolding model_of
    none-is =
        let n = length (take m.places m.types) in
        let wide = most-places m held in
        let short : length (zeros n) ≤ 32 = omega (arith, length-zeros n, length-take m.places m.types) in
        ext_get_or 0 (padded (zeros n)) (zeros 32) (length-padded (zeros n) ∙ sym (length-zeros 32)) (λ i q. nth-padded (zeros n) short i ∙ nth_zero n i ∙ sym (nth_zero 32 i))

    outer-is : (a : eos.Act) → right_act (frame_in m) a ≡ true → padded (of_act side (model_of m) a) ≡ act_side (row_at table) 32 a
    unfolding right_act
    outer-is (eos.move k) h = move-is k (ltb-true k m.moves h)
    outer-is (eos.idle p) h = idle-is p (ltb-true p m.places (and_true (ltb p m.places) _ (and_true (not (eqb m.header 2)) _ h).1).0)
    outer-is (eos.alone n) h = none-is

  -- ---- the whole

  pub act-held : held_act (frame_in m) event.kind event.index ≡ true
  act-held = (event_used m held e known).act

  types_are : length m.types ≡ 32 → m.types ≡ padded (model_of m).types
  unfolding model_of
  types_are a = sym (padded-take m.places m.types a (types-empty m held a))

  -- what the theory has for the event's outer side
  outer_of_lem : {side : eos.Transition → List ℕ} {table : List (List ℕ)} → Moving side table → outer_in event.kind event.index (row_at table) ≡ padded (outer_of side (model_of m) (eos.event (model_of m) e))
  unfolding outer_of event_of
  outer_of_lem {side} s = rw (event-is m e known) (sym (outer-is s (act_of event.kind event.index) (act-is (frame_in m) event.kind event.index act-held).right))

  alone_same : alone_of (act_of event.kind event.index) ≡ alone_of (eos.event (model_of m) e).act
  unfolding event_of
  alone_same = ap (λ (v : eos.Event). alone_of v.act) (sym (event-is m e known))

  -- a side from its parts
  abbrev pub sides_with : (ObjectNet → List (List ℕ)) → List (List ℕ) → Sides
  sides_with pick table = record {
    outer = outer_in event.kind event.index (row_at table);
    inner = tabled row 8 (listed (net_sum pick m.objects event.sync) 0 m.nets);
  }

  pub rule_is : length m.types ≡ 32 → ((i : ℕ) → i < 32 → length (row_at m.pre i) ≡ 32) → ((i : ℕ) → i < 32 → length (row_at m.post i) ≡ 32)
      → record {
        nets = m.nets;
        alone = alone_of (act_of event.kind event.index);
        types = m.types;
        pre = sides_with (λ o. o.pre) m.pre;
        post = sides_with (λ o. o.post) m.post;
      } ≡ hold_rule (model_of m) e
  unfolding hold_rule hold_sides
  rule_is a b c =
      let o = outer_of_lem (pre_moving b) in
      let q = outer_of_lem (post_moving c) in
      let i = inners_are pre_side in
      let j = inners_are post_side in
      λ x. record { nets = sym (nets-long m) x; alone = alone_same x; types = types_are a x; pre = record { outer = o x; inner = i x }; post = record { outer = q x; inner = j x } }

-- no net has more transitions than a table has rows
pub few-transitions : (m : Model) → Held m → length m.objects ≡ 8 → (n : ℕ) → (get_or m.objects n no_net).transitions ≤ 32
few-transitions m held long n =
    let o = get_or m.objects n no_net in
    by_index 8 n
    (λ h. few-steps m.nets n o.places o.transitions (count-is m held n h))
    (λ h. omega (arith, ap (λ (o : ObjectNet). o.transitions) (get_or-eq_default m.objects no_net {n = n} (omega arith))))

-- the number of an event's move, place or net is that of a row
pub index-few : (m : Model) → Held m → (e : ℕ) → e < m.listed → (1 ≤ (get_or m.events e no_event).index) × ((get_or m.events e no_event).index ≤ 32)
index-few m held e known =
    let v = get_or m.events e no_event in
    act_range (frame_in m) v.kind v.index (act-held m held e known) (most-moves m held) (most-places m held) (most-nets m held)
