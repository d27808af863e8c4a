-- Laws of lines taken and given one by one.
use Prim.Native.Nat.{ℕ, zero, suc, ◌+◌, ◌*◌, ◌≤◌, ◌<◌}
use mathlib.Core.Path.{◌≡◌, ap}
use mathlib.Core.Bool.{Bool, true, false}
use mathlib.Core.List.{List, [], ◌∷◌, ◌++◌}
use native.Mathlib.Omega.{arith}
use native.Mathlib.Numerals.{add-one}
use borrow.Author.Tests.{lt-leb}
use lib.Dec.{T, leb, leb→le}
use lib.ListN.{length, get_or, take, length-take}
use lib.Seq.{take-take}
use Rattle.std.proofs.lemmas.List.{get_or_default}
use Rattle.text.proofs.Basics.{by_test}
use Rattle.eos.specs.Multiset.{bit, every, count, Within}
use Rattle.eos.specs.Counted.{Counted, total}
use Rattle.eos.proofs.Basics.{and_l, and_r, and_i}
use Rattle.eos.proofs.MultisetLaws.{bit_self, count_append}
use Rattle.eos.proofs.CountedLaws.{count_copies, count_spelt}
use Rattle.eos.proofs.RoomLaws.{fits_part}
use Rattle.model.specs.Limits.{room_limit, alike_limit}
use Rattle.marking.specs.Tokens.{like, before, no_entry, as_counted, all_counted, spelt_out, copies, tokens_in, OnPlaces, Kept, put_in, take_out}
use Rattle.marking.specs.declared.NetToken.{NetToken}
use Rattle.marking.specs.declared.Entry.{Entry}
use Rattle.marking.specs.declared.Marking.{Marking}
use Rattle.marking.proofs.TokenOrder.{held_alike, held_order}
use Rattle.step.specs.VerdictParts.{Placed}
use Rattle.step.specs.Changing.{covered, Took, Gave}
use Rattle.step_change.proofs.AfterLaws.{never, put_done, out_done, out_left}
use Rattle.marking.proofs.Changes.{roomy, held_left}

-- ---- how many of a net-token the first lines say

abbrev pub said : NetToken → ℕ → List Entry → ℕ
said x i lines = total like x (all_counted (take i lines))

pub said_next : (x : NetToken) (i : ℕ) (lines : List Entry) (d : Entry) → i < length lines
    → said x (suc i) lines ≡ said x i lines + bit (like x (get_or lines i d).token) * (get_or lines i d).times
said_next x i [] d h = absurd (omega arith)
said_next x zero (e ∷ lines) d h = omega arith
said_next x (suc i) (e ∷ lines) d h = omega (arith, said_next x i lines d (omega arith))

pub said_front : (x : NetToken) (i : ℕ) (lines : List Entry) → said x i lines ≤ total like x (all_counted lines)
said_front x zero lines = omega arith
said_front x (suc i) [] = omega arith
said_front x (suc i) (e ∷ lines) = omega (arith, said_front x i lines)

pub said_fewer : (x : NetToken) (i n : ℕ) (lines : List Entry) → i ≤ n → said x i lines ≤ said x n lines
said_fewer x i n lines h = rw (take-take i n lines h) at (said_front x i (take n lines))

pub count_said : (x : NetToken) (i : ℕ) (lines : List Entry) → count like x (spelt_out (take i lines)) ≡ said x i lines
count_said x i lines = count_spelt like held_alike x (all_counted (take i lines))

pub count_lines : (x : NetToken) (lines : List Entry) → count like x (spelt_out lines) ≡ total like x (all_counted lines)
count_lines x lines = count_spelt like held_alike x (all_counted lines)

-- ---- some of them

places_front : (n : ℕ) (lines : List Entry) → OnPlaces lines → OnPlaces (take n lines)
places_front zero lines p = tt
places_front (suc n) [] p = tt
places_front (suc n) (e ∷ lines) p = (p.0, p.1, places_front n lines p.2)

every_front : (f : Counted NetToken → Bool) (n : ℕ) (lines : List Entry) → T (every f (all_counted lines)) → T (every f (all_counted (take n lines)))
every_front f zero lines t = tt
every_front f (suc n) [] t = tt
every_front f (suc n) (e ∷ lines) t =
    let c = as_counted e in
    and_i (f c) (every f (all_counted (take n lines))) (and_l (f c) (every f (all_counted lines)) t) (every_front f n lines (and_r (f c) (every f (all_counted lines)) t))

pub placed_front : (n : ℕ) (lines : List Entry) → Placed lines → Placed (take n lines)
placed_front n lines p = record {
  few = omega (arith, p.few, length-take n lines);
  places = places_front n lines p.places;
  some = every_front (λ c. leb 1 c.times) n lines p.some;
  small = every_front (λ c. leb c.times alike_limit) n lines p.small;
}

-- one of them
pub line_times : (lines : List Entry) (i : ℕ) (d : Entry) → Placed lines → i < length lines → (1 ≤ (get_or lines i d).times) × ((get_or lines i d).times ≤ alike_limit)
line_times lines i d p h = (leb→le 1 _ (go (λ c. leb 1 c.times) lines i p.some h), leb→le _ alike_limit (go (λ c. leb c.times alike_limit) lines i p.small h))
  where
    go : (f : Counted NetToken → Bool) (es : List Entry) (i : ℕ) → T (every f (all_counted es)) → i < length es → T (f (as_counted (get_or es i d)))
    go f [] i t l = absurd (omega arith)
    go f (e ∷ es) zero t l = and_l (f (as_counted e)) (every f (all_counted es)) t
    go f (e ∷ es) (suc i) t l = go f es i (and_r (f (as_counted e)) (every f (all_counted es)) t) (omega arith)

-- ---- lines taken

-- the first lines are taken from μ
pub record Taking (μ : List NetToken) (lines : List Entry) (done : ℕ) (k : Marking) : Type 0 where
  pub kept : Kept k
  pub counts : (x : NetToken) → count like x (tokens_in k) + said x done lines ≡ count like x μ

-- ---- lines given

-- the first lines are given into μ
pub record Giving (room : ℕ) (μ : List NetToken) (lines : List Entry) (done : ℕ) (k : Marking) : Type 0 where
  pub within : k.len ≤ room
  pub kept : Kept k
  pub counts : (x : NetToken) → count like x (tokens_in k) ≡ count like x μ + said x done lines

-- ---- one line more

module _ (μ : List NetToken) (lines : List Entry) (i : ℕ) (k : Marking) {j : Marking} (d : Entry) (h : i < length lines) where
  pub taking_turn : Taking μ lines i k → record { done = true; marking = j } ≡ take_out (get_or lines i d) k → Taking μ lines (i + 1) j
  taking_turn v e =
      let s = out_done (get_or lines i d) k v.kept e in
      rw (add-one i)
      (record { kept = s.kept; counts = λ x. omega (arith, s.counts x, v.counts x, said_next x i lines d h) })

  pub taking_stop : Taking μ lines i k → record { done = false; marking = j } ≡ take_out (get_or lines i d) k → Took μ lines i j
  unfolding covered
  taking_stop v e =
      let s = out_left (get_or lines i d) k v.kept e in
      let t : NetToken = (get_or lines i no_entry).token in
      let same : get_or lines i d ≡ get_or lines i no_entry = get_or_default lines i d no_entry h in
      let own : bit (like t t) * (get_or lines i no_entry).times ≡ 1 * (get_or lines i no_entry).times =
      ap (λ (b : ℕ). b * (get_or lines i no_entry).times) (bit_self like held_alike t) in
      let few : count like t (tokens_in k) < (get_or lines i no_entry).times = rw same at s.0 in
      rw (s.1) (record {
        few = omega arith;
        kept = v.kept;
        counts = v.counts;
        stop = λ g. lt-leb (said t (suc i) lines) (count like t μ) (omega (arith, v.counts t, said_next t i lines no_entry h));
      })

  module _ (room : ℕ) where
    pub giving_turn : room ≤ room_limit → Giving room μ lines i k → record { done = true; marking = j } ≡ put_in room (get_or lines i d) k
        → Giving room μ lines (i + 1) j
    giving_turn r v e =
        let s = put_done (get_or lines i d) k v.kept room r e in
        rw (add-one i)
        (record { within = s.within; kept = s.kept; counts = λ x. omega (arith, s.counts x, v.counts x, said_next x i lines d h) })

    pub giving_stop : Giving room μ lines i k → record { done = false; marking = j } ≡ put_in room (get_or lines i d) k → Gave room μ lines i j
    giving_stop v e =
        let f : Entry = get_or lines i d in
        let part : List NetToken = copies f ++ tokens_in k in
        let all : List NetToken = μ ++ spelt_out (take (suc i) lines) in
        let s = held_left room k part e in
        let w : Within like part all = λ x. omega (
          arith,
          count_append like held_alike x (copies f) (tokens_in k),
          count_copies like x f.token f.times,
          count_append like held_alike x μ (spelt_out (take (suc i) lines)),
          count_said x (suc i) lines,
          v.counts x,
          said_next x i lines d h,
        ) in
        rw (s.1) (record {
          few = omega arith;
          within = v.within;
          kept = v.kept;
          counts = v.counts;
          stop = λ g. by_test (roomy room all) (λ t. absurd (never (fits_part before like held_order held_alike room alike_limit part all w t) s.0)) (λ t. t);
        })
