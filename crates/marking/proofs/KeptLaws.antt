-- Entries laid in their room are kept, they are kept in one way only, and two tests decide what is kept.
use Prim.Native.Nat.{ℕ, zero, suc, ◌-◌, ◌≤◌, ◌<◌}
use mathlib.Core.Path.{◌≡◌, refl, sym, ap, ◌∙◌}
use mathlib.Core.Bool.{true, ◌&&◌}
use mathlib.Core.List.{List, [], ◌∷◌, ◌++◌, map}
use native.Mathlib.Omega.{arith}
use lib.Dec.{T, eqb, leb, eqb→eq, leb→le}
use lib.ListN.{length, get_or, drop, replicate, length-append, length-drop, length-map, length-replicate, take-append-drop}
use lib.Seq.{take_at, drop_at, length-take-le}
use Rattle.eos.specs.Multiset.{every, count, Same, Sorted}
use Rattle.eos.specs.Counted.{Counted, spelt, there, up_to, tally, fits, under, Strict}
use Rattle.eos.proofs.Basics.{true_is, is_true, and_l, and_r, and_i}
use Rattle.eos.proofs.CountedLaws.{below_under, under_le, tally_strict, tally_spelt, count_tally, one_tally}
use Rattle.model.specs.Limits.{alike_limit}
use Rattle.marking.specs.Tokens.{like, before, no_token, no_entry, unused, as_entry, all_counted, tokens, spelt_out, laid, holding, entries_in, tokens_in, held_by, OnPlaces, ascending, Kept}
use Rattle.marking.specs.declared.NetToken.{NetToken}
use Rattle.marking.specs.declared.Entry.{Entry}
use Rattle.marking.specs.declared.Marking.{Marking}
use Rattle.marking.proofs.TokenOrder.{held_alike, held_order}

-- ---- entries as counted net-tokens, and back

pub counted_entries : (cs : List (Counted NetToken)) → all_counted (map as_entry cs) ≡ cs
counted_entries [] = refl
counted_entries (c ∷ cs) = ap (λ (l : List (Counted NetToken)). c ∷ l) (counted_entries cs)

pub entries_counted : (es : List Entry) → map as_entry (all_counted es) ≡ es
entries_counted [] = refl
entries_counted (e ∷ es) = ap (λ (l : List Entry). e ∷ l) (entries_counted es)

-- ---- held entries

pub entries_held : (es : List Entry) → entries_in (holding es) ≡ es
entries_held es = take_at es (replicate (256 - length es) no_entry) (length es) refl

pub laid_long : (es : List Entry) → length es ≤ 256 → length (laid es) ≡ 256
laid_long es h = omega (arith, length-append es (replicate (256 - length es) no_entry), length-replicate (256 - length es) no_entry)

pub kept_held : (es : List Entry) → length es ≤ 256 → Strict before (all_counted es) → T (up_to alike_limit (all_counted es)) → Kept (holding es)
kept_held es h s u =
    let e = entries_held es in
    record { few = h; long = laid_long es h; strict = rw e s; small = rw e u; is = rw e }

-- as many entries as their number says
pub length_held : (k : Marking) → Kept k → length (entries_in k) ≡ k.len
length_held k p = length-take-le k.len k.entries (omega (arith, p.few, p.long))

-- kept entries are held so
pub kept_is : (k : Marking) → Kept k → k ≡ holding (entries_in k)
kept_is k p = let n = length_held k p in λ i. record { len = sym n i; entries = p.is i }

-- net-tokens that are counted to these entries are held by these
module _ (ts : List NetToken) (es : List Entry) (e : tally before like ts ≡ all_counted es) where
  pub held_is : holding es ≡ held_by ts
  unfolding held_by
  held_is = rw e (ap holding (sym (entries_counted es)))

-- a kept marking is held by its net-tokens
pub kept_by : (k : Marking) → Kept k → k ≡ held_by (tokens_in k)
kept_by k p = kept_is k p ∙ held_is (tokens_in k) (entries_in k) (tally_spelt before like held_order held_alike (all_counted (entries_in k)) p.strict)

-- net-tokens that there is room for are kept, and are those that are held
module _ (room : ℕ) (ts : List NetToken) (few : room ≤ 256) (h : fits before like room alike_limit ts ≡ true) where
  pub kept_tally : ((held_by ts).len ≤ room) × Kept (held_by ts)
  unfolding held_by fits
  kept_tally =
      let cs = tally before like ts in
      let t : T (leb (length cs) room && up_to alike_limit cs) = true_is h in
      let n : length (map as_entry cs) ≡ length cs = length-map cs as_entry in
      let l : length cs ≤ room = leb→le (length cs) room (and_l (leb (length cs) room) (up_to alike_limit cs) t) in
      let e : all_counted (map as_entry cs) ≡ cs = counted_entries cs in (
        omega (arith, n, l),
        kept_held (map as_entry cs) (omega (arith, n, l)) (rw e (tally_strict before like held_order held_alike ts))
            (rw e (and_r (leb (length cs) room) (up_to alike_limit cs) t)),
      )

pub tokens_tally : (ts : List NetToken) (x : NetToken) → count like x (tokens_in (held_by ts)) ≡ count like x ts
unfolding held_by
tokens_tally ts x =
    let cs = tally before like ts in
    ap (λ (es : List Entry). count like x (spelt_out es)) (entries_held (map as_entry cs)) ∙ ap (λ (l : List (Counted NetToken)). count like x (spelt l)) (counted_entries cs)
    ∙ count_tally before like held_order held_alike x ts

-- two kept markings with the same net-tokens are equal
pub kept_once : (k j : Marking) → Kept k → Kept j → Same like (tokens_in k) (tokens_in j) → k ≡ j
kept_once k j p q h =
    let e : all_counted (entries_in k) ≡ all_counted (entries_in j) = one_tally before like held_order held_alike _ _ p.strict q.strict h in
    kept_is k p ∙ ap holding (sym (entries_counted (entries_in k)) ∙ ap (map as_entry) e ∙ entries_counted (entries_in j)) ∙ sym (kept_is j q)

-- ---- the test of the order decides it

pub ascending_rising : (es : List Entry) → ascending es ≡ true → Sorted (under before) (tokens es)
ascending_rising [] e = tt
ascending_rising (e ∷ []) h = (tt, tt)
ascending_rising (e ∷ f ∷ es) h =
    let b : T (under before e.token f.token) = and_l (under before e.token f.token) (ascending (f ∷ es)) (true_is h) in
    let s : Sorted (under before) (tokens (f ∷ es)) =
    ascending_rising (f ∷ es) (is_true (ascending (f ∷ es)) (and_r (under before e.token f.token) (ascending (f ∷ es)) (true_is h))) in
    ((b, below_under before like held_order held_alike e.token f.token (tokens es) (under_le before like held_order held_alike e.token f.token b) s.0), s)

pub rising_ascending : (es : List Entry) → Sorted (under before) (tokens es) → ascending es ≡ true
rising_ascending [] s = refl
rising_ascending (e ∷ []) s = refl
rising_ascending (e ∷ f ∷ es) s =
    is_true _ (and_i (under before e.token f.token) (ascending (f ∷ es)) s.0.0 (true_is (rising_ascending (f ∷ es) s.1)))

-- ---- the test of the room decides it

unused_is : (e : Entry) → T (unused e) → no_entry ≡ e
unused_is e t =
    let p : no_token ≡ e.token = held_alike.same no_token e.token (and_l (like no_token e.token) (eqb e.times 0) t) in
    let q : e.times ≡ 0 = eqb→eq e.times 0 (and_r (like no_token e.token) (eqb e.times 0) t) in
    λ i. record { token = p i; times = sym q i }

unused_are : (l : List Entry) → every unused l ≡ true → l ≡ replicate (length l) no_entry
unused_are [] e = refl
unused_are (f ∷ l) e =
    let p : no_entry ≡ f = unused_is f (and_l (unused f) (every unused l) (true_is e)) in
    let q : l ≡ replicate (length l) no_entry = unused_are l (is_true (every unused l) (and_r (unused f) (every unused l) (true_is e))) in
    λ i. sym p i ∷ q i

every_unused : (n : ℕ) → every unused (replicate n no_entry) ≡ true
every_unused zero = refl
every_unused (suc n) = every_unused n

-- the room behind entries that are laid
pub room_unused : (es : List Entry) → every unused (drop (length es) (laid es)) ≡ true
room_unused es = ap (every unused) (drop_at es (replicate (256 - length es) no_entry) (length es) refl) ∙ every_unused (256 - length es)

module _ (k : Marking) where
  pub kept_test : k.len ≤ 256 → length k.entries ≡ 256 → ascending (entries_in k) ≡ true → T (there (all_counted (entries_in k)))
      → T (up_to alike_limit (all_counted (entries_in k))) → every unused (drop k.len k.entries) ≡ true → Kept k
  kept_test h m e t u z =
      let n : length (drop k.len k.entries) ≡ 256 - length (entries_in k) =
      omega (arith, length-drop k.len k.entries, length-take-le k.len k.entries (omega arith)) in
      record {
        few = h;
        long = m;
        strict = record { rising = ascending_rising (entries_in k) e; some = t };
        small = u;
        is = sym (take-append-drop k.len k.entries)
            ∙ ap (λ (d : List Entry). entries_in k ++ d) (unused_are (drop k.len k.entries) z)
            ∙ ap (λ (i : ℕ). entries_in k ++ replicate i no_entry) n;
      }

-- ---- places

-- the place of entry i, whatever is read past the last
pub place_at : (es : List Entry) (i : ℕ) (d : Entry) → OnPlaces es → i < length es → (1 ≤ (get_or es i d).token.place) × ((get_or es i d).token.place ≤ 32)
place_at [] i d p h = absurd (omega arith)
place_at (e ∷ es) zero d p h = (p.0, p.1)
place_at (e ∷ es) (suc i) d p h = place_at es i d p.2 (omega arith)
