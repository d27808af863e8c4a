-- The test of a held model by one turn of the loops that make it, and what holds of tables with unused room.
use Prim.Native.Nat.{ℕ, zero, suc, ◌+◌, ◌-◌, ◌≤◌, ◌<◌}
use mathlib.Core.Path.{◌≡◌, refl, sym, ap, ◌∙◌}
use mathlib.Core.List.{List, [], ◌∷◌}
use mathlib.Core.Bool.{Bool, true, false, cond, ◌&&◌, and-true, and-false, and_assoc, and_comm}
use native.Mathlib.Omega.{arith}
use native.Mathlib.Nat.{add-zero, add-suc}
use lib.Dec.{leb, eqb, ltb}
use borrow.Author.Tests.{leb-true, eqb-true, eqb-false, lt-ltb, le-ltb}
use lib.ListN.{length, drop, get_or, set, replicate, get_or-replicate, drop_of_length-le}
use lib.Seq.{get_or-set_same, get_or-set_other, drop-cons}
use Rattle.eos.specs.Firing.{all_below}
use Rattle.std.specs.List.{fold}
use Rattle.text.specs.Lines.{in_range, every}
use Rattle.text.proofs.Basics as T
use Rattle.text.proofs.Basics.{by_test}
use Rattle.model.specs.Rules.{nth, Frame}
use Rattle.model.specs.Held.{no_net, row_at}
use Rattle.model.specs.Test.{empty, empty_past, used_of, held_events, frame_in, counts_are, empty_at, used_in, sizes_are, frame_with, event_at}
use Rattle.model.specs.declared.Model.{Model}

-- ---- a test that is made first

module _ (a b : Bool) where
  pub and_no : a ≡ false → false ≡ (a && b)
  and_no e = rw e

  pub and_yes : (t : Bool) → a ≡ true → t ≡ b → t ≡ (a && b)
  and_yes t e h = rw (e, h)

-- ---- a choice by what is below n

module _ {A : Type 0} (i n : ℕ) (a b : A) where
  pub below : i < n → a ≡ cond (ltb i n) a b
  below h = rw (lt-ltb i n h)

  pub past : n ≤ i → b ≡ cond (ltb i n) a b
  past h = rw (le-ltb i n h)

-- ---- a test of each element, to the end

pub all_folded : {A : Type 0} (f : A → Bool) (l : List A) (all : Bool) → fold (λ (b : Bool) (a : A). b && f a) all l ≡ (all && every f l)
all_folded f [] all = sym (and-true all)
all_folded f (a ∷ l) all = all_folded f l (all && f a) ∙ and_assoc all (f a) (every f l)

-- ---- tables with unused room

all_same : (f g : ℕ → Bool) (n : ℕ) → ((i : ℕ) → i < n → f i ≡ g i) → all_below n f ≡ all_below n g
all_same f g zero h = refl
all_same f g (suc n) h = rw (h n (omega arith), all_same f g n (λ i k. h i (omega arith)))

and_swap : (a b c : Bool) → (a && b && c) ≡ (b && (a && c))
and_swap true b c = refl
and_swap false b c = sym (and-false b)

module _ (width : ℕ → ℕ) (table : List (List ℕ)) (n : ℕ) where
  -- rows of which nothing is used are tested as one part
  unused : (k : ℕ) → n + k ≤ length table
      → (all_below (n + k) (empty_at (used_in n width) table) && every empty (drop (n + k) table)) ≡ (all_below n (empty_at width table) && every empty (drop n table))
  unused zero h =
      rw (add-zero n)
      (ap (λ (t : Bool). t && every empty (drop n table))
      (all_same (empty_at (used_in n width) table) (empty_at width table) n (λ i h. rw (lt-ltb i n h))))
  unused (suc k) h =
      let j = n + k in
      let e : empty_at (used_in n width) table j ≡ empty (row_at table j) = rw (le-ltb j n (omega arith)) in
      let d : every empty (drop j table) ≡ (empty (row_at table j) && every empty (drop (suc j) table)) = ap (every empty) (drop-cons table j [] (omega arith)) in
      rw (add-suc n k, e)
      (and_swap (empty (row_at table j)) (all_below j (empty_at (used_in n width) table)) (every empty (drop (suc j) table))
      ∙ ap (λ (t : Bool). all_below j (empty_at (used_in n width) table) && t) (sym d) ∙ unused k (omega arith))

  pub past_rows : n ≤ length table → (every empty (drop n table) && all_below n (empty_at width table)) ≡ empty_past (length table) (used_in n width) table
  unfolding empty_past
  past_rows h =
      let rows = length table in
      let e : n + (rows - n) ≡ rows = omega arith in
      let all : rows ≤ rows = omega arith in
      let none : every empty (drop rows table) ≡ true = ap (every empty) (drop_of_length-le table all) in
      and_comm (every empty (drop n table)) (all_below n (empty_at width table)) ∙ sym (unused (rows - n) (omega arith))
      ∙ rw (e, none, and-true (all_below rows (empty_at (used_in n width) table)))

-- rows of one width
pub one_width : (n width : ℕ) (table : List (List ℕ)) → empty_past 32 (used_in n (nth (replicate 32 width))) table ≡ empty_past 32 (used_of n width) table
unfolding empty_past
one_width n width table =
    all_same (empty_at (used_in n (nth (replicate 32 width))) table) (empty_at (used_of n width) table) 32 (λ i h. rw (get_or-replicate 32 i width 0 h))

-- ---- arrays

-- what stands at an index in range
pub at_any : {A : Type 0} (l : List A) (i : ℕ) (d e : A) → i < length l → get_or l i d ≡ get_or l i e
at_any [] i d e h = absurd (omega arith)
at_any (a ∷ l) zero d e h = refl
at_any (a ∷ l) (suc i) d e h = at_any l i d e (omega arith)

-- an array that is filled by a function, index by index
pub filled_turn : (f : ℕ → ℕ) (l : List ℕ) (k v : ℕ) → k < length l → ((n : ℕ) → n < k → nth l n ≡ f n) → v ≡ f k
    → (n : ℕ) → n < k + 1 → nth (set l k v) n ≡ f n
filled_turn f l k v h m e n b =
    by_test (eqb n k)
    (λ t. let q = eqb-true n k t in rw q (get_or-set_same l k v 0 h ∙ e))
    (λ t. let q = eqb-false n k t in get_or-set_other l k n v 0 q ∙ m n (omega arith))

-- ---- object nets

pub few-steps : (nets k places steps : ℕ) → sizes_are nets k places steps ≡ true → steps ≤ 32
few-steps nets k places steps e =
    by_test (ltb k nets)
    (λ h. let d = T.and_true (in_range 1 32 places) (in_range 0 32 steps) (rw h at e) in
    let g = T.and_true (leb 0 steps) (leb steps 32) d.1 in leb-true steps 32 g.1)
    (λ h. let d = T.and_true (eqb places 0) (eqb steps 0) (rw h at e) in omega (arith, eqb-true steps 0 d.1))

-- ---- the model

pub few-counts : (header nets places moves listed : ℕ) → counts_are header nets places moves listed ≡ true → (nets ≤ 8) × (places ≤ 32) × (moves ≤ 32)
few-counts header nets places moves listed e =
    let o = T.and_true (in_range 1 2 header) (in_range 0 8 nets && (in_range 1 32 places && (in_range 0 32 moves && in_range 0 64 listed))) e in
    let a = T.and_true (in_range 0 8 nets) (in_range 1 32 places && (in_range 0 32 moves && in_range 0 64 listed)) o.1 in
    let b = T.and_true (in_range 1 32 places) (in_range 0 32 moves && in_range 0 64 listed) a.1 in
    let c = T.and_true (in_range 0 32 moves) (in_range 0 64 listed) b.1 in (
      leb-true nets 8 (T.and_true (leb 0 nets) (leb nets 8) a.0).1,
      leb-true places 32 (T.and_true (leb 1 places) (leb places 32) b.0).1,
      leb-true moves 32 (T.and_true (leb 0 moves) (leb moves 32) c.0).1,
    )

module _ (m : Model) (steps : List ℕ) (h : (n : ℕ) → nth steps n ≡ (get_or m.objects n no_net).transitions) where
  -- the frame of a held model, how many transitions each net has from a list
  frame_is : frame_with m steps ≡ frame_in m
  frame_is = λ i. record {
    alone = eqb m.header 2;
    places = m.places;
    moves = m.moves;
    nets = m.nets;
    type = nth m.types;
    steps = λ n. h n i;
  }

  pub events_are : all_below 64 (event_at (frame_with m steps) m.listed m.events) ≡ held_events m
  unfolding held_events
  events_are = ap (λ (f : Frame). all_below 64 (event_at f m.listed m.events)) frame_is
