-- Moving the entries from a place on is putting one in there, or taking it out; and what is counted then.
use Prim.Native.Nat.{ℕ, zero, suc, ◌+◌, ◌-◌, ◌*◌, ◌≤◌, ◌<◌}
use mathlib.Core.Path.{◌≡◌, refl, sym, ap, ap₂, subst, ◌∙◌}
use mathlib.Core.Bool.{Bool, true, false, ◌&&◌, and-false}
use mathlib.Core.List.{List, [], ◌∷◌, ◌++◌, append_assoc, append-nil}
use native.Mathlib.Omega.{arith}
use native.Mathlib.Nat.{mul-add}
use native.Mathlib.Numerals.{add-one}
use borrow.Author.Tests.{le-leb, lt-leb, ltb-true, ltb-false}
use lib.Dec.{T, leb, ltb, le→leb}
use lib.ListN.{length, get_or, set, take, drop, drop_of_length-le, replicate, take-append-drop, length-take, length-drop, length-append}
use lib.Seq.{paste, length-paste, take-add, get_or-take, take-paste, drop-paste, take_at, drop_at, take_all, take-take, take-append-le, drop-drop, split_at, length-take-le, set_split}
use borrow.Rule.Slice.PartMut.{mid_of, put_mid}
use Rattle.std.specs.List.{copy_within}
use Rattle.std.proofs.lemmas.List.{get_or_default, drop-take}
use Rattle.text.proofs.Basics.{by_test}
use Rattle.eos.specs.Multiset.{bit, every, count, less, insert, Within, Sorted}
use Rattle.eos.specs.Counted.{Counted, there, up_to, total, tally, fits, under, Strict}
use Rattle.eos.proofs.Basics.{true_is, is_true, and_l, and_r}
use Rattle.eos.proofs.MultisetLaws.{count_append, count_less, bit_self}
use Rattle.eos.proofs.CountedLaws.{count_copies, count_spelt, total_none, tally_is, rising_insert, rising_out, rising_once, rising_sorted, every_put, every_out, every_miss}
use Rattle.model.specs.Limits.{alike_limit}
use Rattle.marking.specs.Tokens.{like, before, no_token, no_entry, as_counted, all_counted, tokens, copies, laid, holding, entries_in, tokens_in, place_for, Kept, held_or, put_in, take_out}
use Rattle.marking.specs.declared.NetToken.{NetToken}
use Rattle.marking.specs.declared.Entry.{Entry}
use Rattle.marking.specs.declared.Marking.{Marking}
use Rattle.marking.proofs.TokenOrder.{outside, held_alike, held_order}
use Rattle.marking.proofs.PlaceFor.{place-within, insert-at, count_from, count_none, count_done, token_at, length_tokens}
use Rattle.marking.proofs.KeptLaws.{laid_long, length_held, held_is}

-- ---- lists

-- those from p up to n moved up by one, as a part of the array
pub moved_up : (l ys : List Entry) (p n : ℕ) → p ≤ n → n < length l → ys ≡ copy_within (mid_of p (n + 1 - p) l) 0 (n - p) 1
    → put_mid p (n + 1 - p) l ys ≡ paste l (p + 1) (drop p l) (n - p)
moved_up l ys p n h few e =
    let x : List Entry = drop p l in
    let m : ℕ = n + 1 - p in
    let j : ℕ = n - p in
    let y : List Entry = take m x in
    let z : j - 0 ≡ j = omega arith in
    let a : take 1 y ≡ take 1 x = take-take 1 m x (omega arith) in
    let b : take j y ≡ take j x = take-take j m x (omega arith) in
    let c : drop (1 + j) y ≡ [] = drop_of_length-le y (omega (arith, length-take m x)) in
    let d : drop m x ≡ drop (p + 1 + j) l = drop-drop m p l ∙ ap (λ (i : ℕ). drop i l) {x = p + m} {y = p + 1 + j} (omega arith) in
    let is : ys ≡ take 1 x ++ take j x = e ∙ rw (z, a, b, c) (append-nil (take 1 x ++ take j x)) in
    ap (λ (k : List Entry). take p l ++ (k ++ drop m x)) is
    ∙ ap (λ (k : List Entry). take p l ++ ((take 1 x ++ take j x) ++ k)) d
    ∙ ap (λ (k : List Entry). take p l ++ k) (append_assoc (take 1 x) (take j x) (drop (p + 1 + j) l))
    ∙ sym (append_assoc (take p l) (take 1 x) (take j x ++ drop (p + 1 + j) l))
    ∙ ap (λ (k : List Entry). k ++ (take j x ++ drop (p + 1 + j) l)) (sym (take-add p 1 l))
    ∙ sym (append_assoc (take (p + 1) l) (take j x) (drop (p + 1 + j) l))

-- those behind p up to n moved down by one
pub moved_down : (l ys : List Entry) (p n : ℕ) → p < n → n ≤ length l → ys ≡ copy_within (mid_of p (n - p) l) 1 (n - p) 0
    → put_mid p (n - p) l ys ≡ paste l p (drop (p + 1) l) (n - (p + 1))
moved_down l ys p n h few e =
    let x : List Entry = drop p l in
    let m : ℕ = n - p in
    let j : ℕ = n - (p + 1) in
    let y : List Entry = take m x in
    let z : m - 1 ≡ j = omega arith in
    let u : m ≡ 1 + j = omega arith in
    let v : m ≡ j + 1 = omega arith in
    let w : 0 + j ≡ j = omega arith in
    let a : take j (drop 1 y) ≡ take j (drop 1 x) =
    ap (λ (i : ℕ). take j (drop 1 (take i x))) u ∙ ap (take j) (drop-take 1 j x) ∙ take-take j j (drop 1 x) (omega arith) in
    let b : drop j y ≡ take 1 (drop j x) = ap (λ (i : ℕ). drop j (take i x)) v ∙ drop-take j 1 x in
    let c : take 1 (drop j x) ++ drop m x ≡ drop (p + j) l =
    ap (λ (k : List Entry). take 1 (drop j x) ++ k) (ap (λ (i : ℕ). drop i x) v ∙ sym (drop-drop 1 j x)) ∙ take-append-drop 1 (drop j x) ∙ drop-drop j p l in
    let d : drop 1 x ≡ drop (p + 1) l = drop-drop 1 p l in
    let is : ys ≡ take j (drop 1 x) ++ take 1 (drop j x) = e ∙ rw (z, w, a, b) in
    ap (λ (k : List Entry). take p l ++ (k ++ drop m x)) is
    ∙ ap (λ (k : List Entry). take p l ++ k) (append_assoc (take j (drop 1 x)) (take 1 (drop j x)) (drop m x))
    ∙ ap (λ (k : List Entry). take p l ++ (take j (drop 1 x) ++ k)) c
    ∙ ap (λ (k : List Entry). take p l ++ (take j k ++ drop (p + j) l)) d
    ∙ sym (append_assoc (take p l) (take j (drop (p + 1) l)) (drop (p + j) l))

-- one put in behind x: y moves up, over z
opened : (x y z w one : List Entry) (at m : ℕ) → length x ≡ at → length y ≡ m → length z ≡ 1 → length one ≡ 1
    → paste (paste (x ++ (y ++ (z ++ w))) (at + 1) (drop at (x ++ (y ++ (z ++ w)))) m) at one 1 ≡ x ++ (one ++ (y ++ w))
opened x y z w one at m p q r s =
    let l : List Entry = x ++ (y ++ (z ++ w)) in
    let n : length l ≡ at + m + 1 + length w = omega (arith, length-append x (y ++ (z ++ w)), length-append y (z ++ w), length-append z w) in
    let f : List Entry = take (at + 1) l in
    let t : List Entry = take m (drop at l) in
    let d : List Entry = drop (at + 1 + m) l in
    let nf : length f ≡ at + 1 = length-take-le (at + 1) l (omega arith) in
    let a : take at ((f ++ t) ++ d) ≡ x =
    ap (λ (k : List Entry). take at k) (append_assoc f t d) ∙ take-append-le at f (t ++ d) (omega arith) ∙ take-take at (at + 1) l (omega arith)
    ∙ take_at x (y ++ (z ++ w)) at p in
    let b : drop (at + 1) ((f ++ t) ++ d) ≡ t ++ d = ap (λ (k : List Entry). drop (at + 1) k) (append_assoc f t d) ∙ drop_at f (t ++ d) (at + 1) nf in
    let c : t ≡ y = ap (λ (k : List Entry). take m k) (drop_at x (y ++ (z ++ w)) at p) ∙ take_at y (z ++ w) m q in
    let g : l ≡ (x ++ (y ++ z)) ++ w = ap (λ (k : List Entry). x ++ k) (sym (append_assoc y z w)) ∙ sym (append_assoc x (y ++ z) w) in
    let e : d ≡ w = ap (λ (k : List Entry). drop (at + 1 + m) k) g
    ∙ drop_at (x ++ (y ++ z)) w (at + 1 + m) (omega (arith, length-append x (y ++ z), length-append y z)) in
    ap (λ (k : List Entry). (k ++ take 1 one) ++ drop (at + 1) ((f ++ t) ++ d)) a
    ∙ ap (λ (k : List Entry). (x ++ k) ++ drop (at + 1) ((f ++ t) ++ d)) (take_all 1 one (omega arith))
    ∙ ap (λ (k : List Entry). (x ++ one) ++ k) b
    ∙ ap (λ (k : List Entry). (x ++ one) ++ (k ++ d)) c
    ∙ ap (λ (k : List Entry). (x ++ one) ++ (y ++ k)) e
    ∙ append_assoc x one (y ++ w)

-- z behind x taken out: y moves down, and one comes behind it
closed : (x z y w one : List Entry) (at m : ℕ) → length x ≡ at → length z ≡ 1 → length y ≡ m → length one ≡ 1
    → paste (paste (x ++ (z ++ (y ++ w))) at (drop (at + 1) (x ++ (z ++ (y ++ w)))) m) (at + m) one 1 ≡ x ++ (y ++ (one ++ w))
closed x z y w one at m p r q s =
    let l : List Entry = x ++ (z ++ (y ++ w)) in
    let n : length l ≡ at + 1 + m + length w = omega (arith, length-append x (z ++ (y ++ w)), length-append z (y ++ w), length-append y w) in
    let b : drop (at + 1) l ≡ y ++ w =
    ap (λ (k : List Entry). drop (at + 1) k) (sym (append_assoc x z (y ++ w))) ∙ drop_at (x ++ z) (y ++ w) (at + 1) (omega (arith, length-append x z)) in
    let o : List Entry = paste l at (y ++ w) m in
    let ny : m ≤ length (y ++ w) = omega (arith, length-append y w) in
    let f : take (at + m) o ≡ take at l ++ take m (y ++ w) = take-paste l at (y ++ w) m (omega arith) ny in
    let a : take at l ≡ x = take_at x (z ++ (y ++ w)) at p in
    let t : take m (y ++ w) ≡ y = take_at y w m q in
    let d : drop (at + m + 1) o ≡ w =
    sym (drop-drop 1 (at + m) o) ∙ ap (λ (k : List Entry). drop 1 k) (drop-paste l at (y ++ w) m (omega arith) ny) ∙ drop-drop 1 (at + m) l
    ∙ ap (λ (k : ℕ). drop k l) (let u : at + m + 1 ≡ at + 1 + m = omega arith in u)
    ∙ sym (drop-drop m (at + 1) l) ∙ ap (λ (k : List Entry). drop m k) b ∙ drop_at y w m q in
    ap (λ (k : List Entry). paste (paste l at k m) (at + m) one 1) b
    ∙ ap (λ (k : List Entry). (k ++ take 1 one) ++ drop (at + m + 1) o) f
    ∙ ap (λ (k : List Entry). ((k ++ take m (y ++ w)) ++ take 1 one) ++ drop (at + m + 1) o) a
    ∙ ap (λ (k : List Entry). ((x ++ k) ++ take 1 one) ++ drop (at + m + 1) o) t
    ∙ ap (λ (k : List Entry). ((x ++ y) ++ k) ++ drop (at + m + 1) o) (take_all 1 one (omega arith))
    ∙ ap (λ (k : List Entry). ((x ++ y) ++ one) ++ k) d
    ∙ append_assoc (x ++ y) one w ∙ append_assoc x y (one ++ w)

-- one stored is one pasted
stored : (l : List Entry) (i : ℕ) (t : Entry) → i < length l → set l i t ≡ paste l i (t ∷ []) 1
stored l i t h = set_split l i t h ∙ sym (append_assoc (take i l) (t ∷ []) (drop (suc i) l)) ∙ rw (add-one i)

module _ (a b : List Entry) (t : Entry) (h : length a + length b < 256) (p m : ℕ) (e : p ≡ length a) (f : m ≡ length b) where
  rest : List Entry
  rest = replicate (256 - (length a + suc (length b))) no_entry

  without_one : laid (a ++ b) ≡ a ++ (b ++ (no_entry ∷ rest))
  unfolding rest
  without_one =
      let k : 256 - length (a ++ b) ≡ suc (256 - (length a + suc (length b))) = omega (arith, length-append a b) in
      rw k (append_assoc a b _)

  with_one : laid (a ++ (t ∷ b)) ≡ a ++ (t ∷ (b ++ rest))
  unfolding rest
  with_one = rw (length-append a (t ∷ b)) (append_assoc a (t ∷ b) _)

  -- one put in between a and b
  opened_laid : set (paste (laid (a ++ b)) (p + 1) (drop p (laid (a ++ b))) m) p t ≡ laid (a ++ (t ∷ b))
  opened_laid =
      let l : List Entry = laid (a ++ b) in
      let n : length l ≡ 256 = laid_long (a ++ b) (omega (arith, length-append a b)) in
      let c : length (paste l (p + 1) (drop p l) m) ≡ 256 = length-paste l (p + 1) (drop p l) m (omega arith) (omega (arith, length-drop p l)) ∙ n in
      stored (paste l (p + 1) (drop p l) m) p t (omega arith)
      ∙ ap (λ (z : List Entry). paste (paste z (p + 1) (drop p z) m) p (t ∷ []) 1) without_one
      ∙ opened a b (no_entry ∷ []) rest (t ∷ []) p m (sym e) (sym f) refl refl
      ∙ sym with_one

  -- the one between a and b taken out
  closed_laid : set (paste (laid (a ++ (t ∷ b))) p (drop (p + 1) (laid (a ++ (t ∷ b)))) m) (p + m) no_entry ≡ laid (a ++ b)
  closed_laid =
      let l : List Entry = laid (a ++ (t ∷ b)) in
      let n : length l ≡ 256 = laid_long (a ++ (t ∷ b)) (omega (arith, length-append a (t ∷ b))) in
      let c : length (paste l p (drop (p + 1) l) m) ≡ 256 = length-paste l p (drop (p + 1) l) m (omega arith) (omega (arith, length-drop (p + 1) l)) ∙ n in
      stored (paste l p (drop (p + 1) l) m) (p + m) no_entry (omega arith)
      ∙ ap (λ (z : List Entry). paste (paste z p (drop (p + 1) z) m) (p + m) (no_entry ∷ []) 1) with_one
      ∙ closed a (t ∷ []) b rest (no_entry ∷ []) p m (sym e) refl (sym f) refl
      ∙ sym without_one

-- one between a and b replaced
set_laid : (a b : List Entry) (x y : Entry) (p : ℕ) → length a ≡ p → set (laid (a ++ (x ∷ b))) p y ≡ laid (a ++ (y ∷ b))
set_laid a b x y p e =
    let n : length (a ++ (x ∷ b)) ≡ length (a ++ (y ∷ b)) = length-append a (x ∷ b) ∙ sym (length-append a (y ∷ b)) in
    ap (λ (l : List Entry). set l p y) (append_assoc a (x ∷ b) (replicate (256 - length (a ++ (x ∷ b))) no_entry))
    ∙ rw (← e) (set_front a (x ∷ (b ++ replicate (256 - length (a ++ (x ∷ b))) no_entry)) y)
    ∙ ap (λ (i : ℕ). a ++ (y ∷ (b ++ replicate (256 - i) no_entry))) n
    ∙ sym (append_assoc a (y ∷ b) (replicate (256 - length (a ++ (y ∷ b))) no_entry))
  where
    set_front : (a l : List Entry) (y : Entry) → set (a ++ l) (length a) y ≡ a ++ set l 0 y
    set_front [] l y = refl
    set_front (f ∷ a) l y = ap (λ (m : List Entry). f ∷ m) (set_front a l y)

-- ---- the net-tokens of entries

tokens_append : (a b : List Entry) → tokens (a ++ b) ≡ tokens a ++ tokens b
tokens_append [] b = refl
tokens_append (e ∷ a) b = ap (λ (l : List NetToken). e.token ∷ l) (tokens_append a b)

tokens_take : (i : ℕ) (es : List Entry) → tokens (take i es) ≡ take i (tokens es)
tokens_take zero es = refl
tokens_take (suc i) [] = refl
tokens_take (suc i) (e ∷ es) = ap (λ (l : List NetToken). e.token ∷ l) (tokens_take i es)

tokens_drop : (i : ℕ) (es : List Entry) → tokens (drop i es) ≡ drop i (tokens es)
tokens_drop zero es = refl
tokens_drop (suc i) [] = refl
tokens_drop (suc i) (e ∷ es) = tokens_drop i es

all_append : (a b : List Entry) → all_counted (a ++ b) ≡ all_counted a ++ all_counted b
all_append [] b = refl
all_append (e ∷ a) b = ap (λ (l : List (Counted NetToken)). as_counted e ∷ l) (all_append a b)

total_put : (x : NetToken) (a b : List Entry) (e : Entry) → total like x (all_counted (a ++ (e ∷ b))) ≡ bit (like x e.token) * e.times + total like x (all_counted (a ++ b))
total_put x [] b e = refl
total_put x (f ∷ a) b e = omega (arith, total_put x a b e)

-- a test of counted net-tokens, of all entries but one and of it
module _ (f : Counted NetToken → Bool) (e : Entry) (a b : List Entry) where
  every_with : T (f (as_counted e)) → T (every f (all_counted (a ++ b))) → T (every f (all_counted (a ++ (e ∷ b))))
  every_with h t = rw (all_append a (e ∷ b)) (every_put f (as_counted e) (all_counted b) (all_counted a) h (rw (all_append a b) at t))

  every_but : T (every f (all_counted (a ++ (e ∷ b)))) → T (every f (all_counted (a ++ b)))
  every_but t = rw (all_append a b) (every_out f (as_counted e) (all_counted b) (all_counted a) (rw (all_append a (e ∷ b)) at t))

  every_not : f (as_counted e) ≡ false → every f (all_counted (a ++ (e ∷ b))) ≡ false
  every_not h = ap (every f) (all_append a (e ∷ b)) ∙ every_miss f (as_counted e) (all_counted b) (all_counted a) h

-- net-tokens of which e stands between a and b
tally_with : (μ : List NetToken) (e : Entry) (a b : List Entry) → 1 ≤ e.times → Sorted (under before) (tokens (a ++ (e ∷ b))) → T (there (all_counted (a ++ b)))
    → ((x : NetToken) → count like x μ ≡ bit (like x e.token) * e.times + total like x (all_counted (a ++ b)))
    → tally before like μ ≡ all_counted (a ++ (e ∷ b))
tally_with μ e a b pos s t h =
    let all = all_counted (a ++ (e ∷ b)) in
    tally_is before like held_order held_alike μ all (record { rising = s; some = every_with (λ c. leb 1 c.times) e a b (le→leb 1 e.times pos) t })
    (λ x. h x ∙ sym (total_put x a b e) ∙ sym (count_spelt like held_alike x all))

-- ---- what is answered for net-tokens that are counted to entries
module _ (room : ℕ) (k : Marking) (μ : List NetToken) (es : List Entry) (e : tally before like μ ≡ all_counted es) where
  abbrev fit : Bool
  fit = leb (length es) room && up_to alike_limit (all_counted es)

  length_all : (l : List Entry) → length (all_counted l) ≡ length l
  length_all [] = refl
  length_all (f ∷ l) = ap suc (length_all l)

  fits_is : fits before like room alike_limit μ ≡ fit
  unfolding fits
  fits_is = rw (e, length_all es)

  done_or : length es ≤ room → T (up_to alike_limit (all_counted es)) → record { done = true; marking = holding es } ≡ held_or room k μ
  unfolding held_or
  done_or h u =
      let t : fits before like room alike_limit μ ≡ true = fits_is ∙ rw (le-leb (length es) room h) (is_true _ u) in
      ap (λ (j : Marking). record { done = true; marking = j }) (held_is μ es e) ∙ rw (t, held_or)

  many_or : room < length es → record { done = false; marking = k } ≡ held_or room k μ
  unfolding held_or
  many_or h =
      let t : fits before like room alike_limit μ ≡ false = fits_is ∙ rw (lt-leb (length es) room h) in
      rw (t, held_or)

  over_or : up_to alike_limit (all_counted es) ≡ false → record { done = false; marking = k } ≡ held_or room k μ
  unfolding held_or
  over_or u =
      let t : fits before like room alike_limit μ ≡ false = fits_is ∙ rw u (and-false (leb (length es) room)) in
      rw (t, held_or)

-- ---- a kept marking changed at the place of a net-token

-- what the code reads past the last entry
abbrev pub past : Entry
past = record { token = outside; times = 0 }

pub kept_sorted : (k : Marking) → Kept k → Sorted before (tokens (entries_in k))
kept_sorted k kept = rising_sorted before like held_order held_alike (tokens (entries_in k)) kept.strict.rising

module _ (e : Entry) (k : Marking) (kept : Kept k) (pos : 1 ≤ e.times) (p : ℕ) (at : p ≡ place_for e.token (tokens (entries_in k)))
    {there_is : Bool} (q : there_is ≡ (ltb p k.len && like e.token (get_or k.entries p no_entry).token)) where
  abbrev es : List Entry
  es = entries_in k

  n_is : length (entries_in k) ≡ k.len
  n_is = length_held k kept

  low : p ≤ k.len
  low = omega (arith, ap (λ (i : ℕ). i) at, place-within e.token (tokens es), length_tokens es, n_is)

  sorted : Sorted before (tokens (entries_in k))
  sorted = kept_sorted k kept

  total_in : (x : NetToken) → count like x (tokens_in k) ≡ total like x (all_counted (entries_in k))
  total_in x = count_spelt like held_alike x (all_counted es)

  count_plus : (x : NetToken) → count like x (copies e ++ tokens_in k) ≡ bit (like x e.token) * e.times + total like x (all_counted (entries_in k))
  count_plus x = omega (arith, count_append like held_alike x (copies e) (tokens_in k), count_copies like x e.token e.times, total_in x)

  -- ---- there is no entry of it
  module _ (f : there_is ≡ false) where
    none_at : count like e.token (tokens (entries_in k)) ≡ 0
    none_at = count_from e.token (tokens es) ∙ rw (← at) (by_test (ltb p k.len) inside outside)
      where
        inside : ltb p k.len ≡ true → count like e.token (drop p (tokens es)) ≡ 0
        inside u =
            let h : p < k.len = ltb-true p k.len u in
            let g : get_or es p no_entry ≡ get_or k.entries p no_entry = get_or-take k.len k.entries p no_entry h in
            let d : like e.token (get_or (tokens es) p no_token) ≡ false =
            ap (like e.token) (token_at es p no_entry ∙ ap (λ (x : Entry). x.token) g) ∙ sym (q ∙ rw u) ∙ f in
            count_none e.token (tokens es) p sorted (omega (arith, at)) (omega (arith, length_tokens es, n_is)) d

        outside : ltb p k.len ≡ false → count like e.token (drop p (tokens es)) ≡ 0
        outside u = count_done e.token (tokens es) p (omega (arith, length_tokens es, n_is, ltb-false p k.len u))

    cut_at : entries_in k ≡ take p (entries_in k) ++ drop p (entries_in k)
    cut_at = sym (take-append-drop p es)

    rising_new : Sorted (under before) (tokens (take p (entries_in k) ++ (e ∷ drop p (entries_in k))))
    rising_new =
        let w : tokens (take p es ++ (e ∷ drop p es)) ≡ insert before e.token (tokens es) =
        tokens_append (take p es) (e ∷ drop p es) ∙ ap₂ (λ (x y : List NetToken). x ++ (e.token ∷ y)) (tokens_take p es) (tokens_drop p es)
        ∙ rw at (sym (insert-at e.token (tokens es))) in
        rw w (rising_insert before like held_order held_alike e.token (tokens es) kept.strict.rising none_at)

    tally_new : tally before like (copies e ++ tokens_in k) ≡ all_counted (take p (entries_in k) ++ (e ∷ drop p (entries_in k)))
    tally_new =
        tally_with (copies e ++ tokens_in k) e (take p es) (drop p es) pos rising_new
        (subst (λ (l : List Entry). T (there (all_counted l))) cut_at kept.strict.some)
        (λ x. count_plus x ∙ ap (λ (l : List Entry). bit (like x e.token) * e.times + total like x (all_counted l)) cut_at)

    long_new : length (take p (entries_in k) ++ (e ∷ drop p (entries_in k))) ≡ k.len + 1
    long_new = omega (arith, length-append (take p es) (e ∷ drop p es), length-take-le p es (omega (arith, n_is, low)), length-drop p es, n_is, low)

    pub put_full : (room : ℕ) → k.len ≡ room → record { done = false; marking = k } ≡ put_in room e k
    put_full room h = many_or room k (copies e ++ tokens_in k) (take p es ++ (e ∷ drop p es)) tally_new (omega (arith, long_new))

    pub put_new : (room : ℕ) (after : List Entry) → room ≤ 256 → k.len < room → e.times ≤ alike_limit
        → after ≡ paste k.entries (p + 1) (drop p k.entries) (k.len - p)
        → record { done = true; marking = record { len = k.len + 1; entries = set after p e } } ≡ put_in room e k
    put_new room after fewer h u o =
        let a : List Entry = take p es in
        let b : List Entry = drop p es in
        let na : length a ≡ p = length-take-le p es (omega (arith, n_is, low)) in
        let nb : length b ≡ k.len - p = omega (arith, length-drop p es, n_is) in
        let cut : k.entries ≡ laid (a ++ b) = kept.is ∙ ap laid cut_at in
        let entries : set after p e ≡ laid (a ++ (e ∷ b)) =
        ap (λ (z : List Entry). set z p e) o
        ∙ ap (λ (z : List Entry). set (paste z (p + 1) (drop p z) (k.len - p)) p e) cut
        ∙ opened_laid a b e (omega (arith, na, nb, low)) p (k.len - p) (sym na) (sym nb) in
        let small : T (up_to alike_limit (all_counted (a ++ (e ∷ b)))) =
        every_with (λ c. leb c.times alike_limit) e a b (le→leb e.times alike_limit u) (subst (λ (l : List Entry). T (up_to alike_limit (all_counted l))) cut_at kept.small) in
        let n : k.len + 1 ≡ length (a ++ (e ∷ b)) = sym long_new in
        ap (λ (z : Marking). record { done = true; marking = z }) (λ i. record { len = n i; entries = entries i })
        ∙ done_or room k (copies e ++ tokens_in k) (a ++ (e ∷ b)) tally_new (omega (arith, long_new)) small

    pub out_none : record { done = false; marking = k } ≡ take_out e k
    unfolding take_out
    out_none =
        let z : leb e.times (count like e.token (tokens_in k)) ≡ false =
        lt-leb e.times (count like e.token (tokens_in k)) (omega (arith, total_in e.token, total_none like e.token (all_counted es) none_at)) in
        rw (z, take_out)

  -- ---- there is one
  module _ (f : there_is ≡ true) where
    both : T (ltb p k.len && like e.token (get_or k.entries p no_entry).token)
    both = true_is (sym q ∙ f)

    pub inside : p < k.len
    inside = ltb-true p k.len (is_true (ltb p k.len) (and_l (ltb p k.len) (like e.token (get_or k.entries p no_entry).token) both))

    -- with any entry for those past the last
    module _ (d : Entry) where
      abbrev had : ℕ
      had = (get_or k.entries p d).times

      abbrev before_it : List Entry
      before_it = take p es

      abbrev behind : List Entry
      behind = drop (suc p) es

      abbrev entry_of : ℕ → Entry
      entry_of n = record { token = e.token; times = n }

      there_it : get_or (entries_in k) p no_entry ≡ get_or k.entries p d
      there_it = get_or-take k.len k.entries p no_entry inside ∙ get_or_default k.entries p no_entry d (omega (arith, kept.few, kept.long, inside))

      pub token_is : (get_or k.entries p d).token ≡ e.token
      token_is =
          let g : get_or k.entries p no_entry ≡ get_or k.entries p d = get_or_default k.entries p no_entry d (omega (arith, kept.few, kept.long, inside)) in
          ap (λ (x : Entry). x.token) (sym g)
          ∙ sym (held_alike.same e.token (get_or k.entries p no_entry).token (and_r (ltb p k.len) (like e.token (get_or k.entries p no_entry).token) both))

      split : entries_in k ≡ take p (entries_in k) ++ (record { token = e.token; times = (get_or k.entries p d).times } ∷ drop (suc p) (entries_in k))
      split =
          let x : get_or es p no_entry ≡ entry_of had = there_it ∙ (λ i. record { token = token_is i; times = had }) in
          split_at es p no_entry (omega (arith, n_is, inside)) ∙ ap (λ (y : Entry). before_it ++ (y ∷ behind)) x

      rising_it : (n : ℕ) → Sorted (under before) (tokens (take p (entries_in k) ++ (record { token = e.token; times = n } ∷ drop (suc p) (entries_in k))))
      rising_it n =
          let w : tokens (before_it ++ (entry_of n ∷ behind)) ≡ tokens (before_it ++ (entry_of had ∷ behind)) =
          tokens_append before_it (entry_of n ∷ behind) ∙ sym (tokens_append before_it (entry_of had ∷ behind)) in
          rw w (subst (λ (l : List Entry). Sorted (under before) (tokens l)) split kept.strict.rising)

      some_out : T (there (all_counted (take p (entries_in k) ++ drop (suc p) (entries_in k))))
      some_out = every_but (λ c. leb 1 c.times) (entry_of had) before_it behind (subst (λ (l : List Entry). T (there (all_counted l))) split kept.strict.some)

      small_out : T (up_to alike_limit (all_counted (take p (entries_in k) ++ drop (suc p) (entries_in k))))
      small_out =
          every_but (λ c. leb c.times alike_limit) (entry_of had) before_it behind (subst (λ (l : List Entry). T (up_to alike_limit (all_counted l))) split kept.small)

      abbrev others : NetToken → ℕ
      others x = total like x (all_counted (before_it ++ behind))

      total_it : (x : NetToken) → total like x (all_counted (entries_in k)) ≡ bit (like x e.token) * (get_or k.entries p d).times + total like x (all_counted (take p (entries_in k) ++ drop (suc p) (entries_in k)))
      total_it x = ap (λ (l : List Entry). total like x (all_counted l)) split ∙ total_put x before_it behind (entry_of had)

      long_before : length (take p (entries_in k)) ≡ p
      long_before = length-take-le p es (omega (arith, n_is, low))

      long_behind : length (drop (suc p) (entries_in k)) ≡ k.len - suc p
      long_behind = omega (arith, length-drop (suc p) es, n_is)

      long_set : (n : ℕ) → length (take p (entries_in k) ++ (record { token = e.token; times = n } ∷ drop (suc p) (entries_in k))) ≡ k.len
      long_set n = omega (arith, length-append before_it (entry_of n ∷ behind), long_before, long_behind, inside)

      laid_set : (n : ℕ) → set k.entries p (record { token = e.token; times = n }) ≡ laid (take p (entries_in k) ++ (record { token = e.token; times = n } ∷ drop (suc p) (entries_in k)))
      laid_set n =
          ap (λ (z : List Entry). set z p (entry_of n)) (kept.is ∙ ap laid split)
          ∙ set_laid before_it behind (entry_of had) (entry_of n) p long_before

      holding_set : (n : ℕ) → record { len = k.len; entries = set k.entries p (record { token = e.token; times = n }) } ≡ holding (take p (entries_in k) ++ (record { token = e.token; times = n } ∷ drop (suc p) (entries_in k)))
      holding_set n = let z = sym (long_set n) in let l = laid_set n in λ i. record { len = z i; entries = l i }

      -- ---- put in
      tally_more : tally before like (copies e ++ tokens_in k)
          ≡ all_counted (take p (entries_in k) ++ (record { token = e.token; times = (get_or k.entries p d).times + e.times } ∷ drop (suc p) (entries_in k)))
      tally_more =
          tally_with (copies e ++ tokens_in k) (entry_of (had + e.times)) before_it behind (omega arith) (rising_it (had + e.times)) some_out
          (λ x. count_plus x ∙ ap (λ (i : ℕ). bit (like x e.token) * e.times + i) (total_it x) ∙ both_times (bit (like x e.token)) had e.times (others x))
        where
          both_times : (b m n r : ℕ) → b * n + (b * m + r) ≡ b * (m + n) + r
          both_times b m n r = rw (mul-add b m n) (omega arith)

      pub put_over : (room : ℕ) → alike_limit < had + e.times → record { done = false; marking = k } ≡ put_in room e k
      put_over room h =
          over_or room k (copies e ++ tokens_in k) (before_it ++ (entry_of (had + e.times) ∷ behind)) tally_more
          (every_not (λ c. leb c.times alike_limit) (entry_of (had + e.times)) before_it behind (lt-leb (had + e.times) alike_limit h))

      pub put_more : (room : ℕ) → k.len ≤ room → had + e.times ≤ alike_limit
          → record { done = true; marking = record { len = k.len; entries = set k.entries p (record { token = e.token; times = had + e.times }) } } ≡ put_in room e k
      put_more room h u =
          ap (λ (z : Marking). record { done = true; marking = z }) (holding_set (had + e.times))
          ∙ done_or room k (copies e ++ tokens_in k) (before_it ++ (entry_of (had + e.times) ∷ behind)) tally_more (omega (arith, long_set (had + e.times)))
          (every_with (λ c. leb c.times alike_limit) (entry_of (had + e.times)) before_it behind (le→leb (had + e.times) alike_limit u) small_out)

      -- ---- taken out
      count_it : count like e.token (tokens_in k) ≡ (get_or k.entries p d).times
      count_it =
          let none : others e.token ≡ 0 =
          total_none like e.token (all_counted (before_it ++ behind))
          (ap (count like e.token) (tokens_append before_it behind)
          ∙ rising_once before like held_order held_alike (tokens before_it) (tokens behind) e.token (rw (tokens_append before_it (entry_of had ∷ behind)) at (rising_it had))) in
          omega (arith, total_in e.token, total_it e.token, none, ap (λ (b : ℕ). b * had) (bit_self like held_alike e.token))

      within_it : e.times ≤ had → Within like (copies e) (tokens_in k)
      within_it h x =
          let d : ℕ = had - e.times in
          let c : e.times + d ≡ had = omega arith in
          omega (arith, count_copies like x e.token e.times, total_in x, total_it x, ap (λ (i : ℕ). bit (like x e.token) * i) (sym c), mul-add (bit (like x e.token)) e.times d)

      count_minus : e.times ≤ had → (x : NetToken) → count like x (less like (tokens_in k) (copies e))
          ≡ bit (like x e.token) * ((get_or k.entries p d).times - e.times) + total like x (all_counted (take p (entries_in k) ++ drop (suc p) (entries_in k)))
      count_minus h x =
          let m : ℕ = had - e.times in
          let c : e.times + m ≡ had = omega arith in
          omega (
            arith,
            count_less like held_alike x (copies e) (tokens_in k) (within_it h),
            count_copies like x e.token e.times,
            total_in x,
            total_it x,
            ap (λ (i : ℕ). bit (like x e.token) * i) (sym c),
            mul-add (bit (like x e.token)) e.times m,
          )

      enough : e.times ≤ had → leb e.times (count like e.token (tokens_in k)) ≡ true
      enough h = le-leb e.times (count like e.token (tokens_in k)) (omega (arith, count_it))

      pub out_fewer : had < e.times → record { done = false; marking = k } ≡ take_out e k
      unfolding take_out
      out_fewer h =
          let z : leb e.times (count like e.token (tokens_in k)) ≡ false = lt-leb e.times (count like e.token (tokens_in k)) (omega (arith, count_it)) in
          rw (z, take_out)

      pub out_some : e.times < had
          → record { done = true; marking = record { len = k.len; entries = set k.entries p (record { token = e.token; times = had - e.times }) } } ≡ take_out e k
      unfolding take_out
      out_some h =
          let t = tally_with (less like (tokens_in k) (copies e)) (entry_of (had - e.times)) before_it behind (omega arith) (rising_it (had - e.times)) some_out (count_minus (omega arith)) in
          let j = holding_set (had - e.times) ∙ held_is (less like (tokens_in k) (copies e)) (before_it ++ (entry_of (had - e.times) ∷ behind)) t in
          ap (λ (z : Marking). record { done = true; marking = z }) j ∙ rw (enough (omega arith), take_out)

      pub out_last : (after : List Entry) → e.times ≡ had → after ≡ paste k.entries p (drop (p + 1) k.entries) (k.len - (p + 1))
          → record { done = true; marking = record { len = k.len - 1; entries = set after (k.len - 1) no_entry } } ≡ take_out e k
      unfolding take_out
      out_last after h o =
          let m : ℕ = k.len - (p + 1) in
          let u : k.len - 1 ≡ p + m = omega (arith, inside) in
          let x : Entry = entry_of had in
          let cut : k.entries ≡ laid (before_it ++ (x ∷ behind)) = kept.is ∙ ap laid split in
          let entries : set after (k.len - 1) no_entry ≡ laid (before_it ++ behind) =
          ap (λ (z : List Entry). set z (k.len - 1) no_entry) o
          ∙ ap (λ (z : List Entry). set (paste z p (drop (p + 1) z) m) (k.len - 1) no_entry) cut
          ∙ ap (λ (i : ℕ). set (paste (laid (before_it ++ (x ∷ behind))) p (drop (p + 1) (laid (before_it ++ (x ∷ behind)))) m) i no_entry) u
          ∙ closed_laid before_it behind x (omega (arith, long_before, long_behind, kept.few, inside)) p m (sym long_before) (omega (arith, long_behind)) in
          let len : k.len - 1 ≡ length (before_it ++ behind) = omega (arith, length-append before_it behind, long_before, long_behind, inside) in
          let strict : Strict before (all_counted (before_it ++ behind)) = record {
            rising = rw (tokens_append before_it behind)
                (rising_out before like held_order held_alike (tokens before_it) (tokens behind) e.token (rw (tokens_append before_it (x ∷ behind)) at (rising_it had)));
            some = some_out;
          } in
          let none : had - e.times ≡ 0 = omega arith in
          let t : tally before like (less like (tokens_in k) (copies e)) ≡ all_counted (before_it ++ behind) =
          tally_is before like held_order held_alike (less like (tokens_in k) (copies e)) (all_counted (before_it ++ behind)) strict
          (λ y. omega (arith, count_minus (omega arith) y, ap (λ (i : ℕ). bit (like y e.token) * i) none, count_spelt like held_alike y (all_counted (before_it ++ behind)))) in
          ap (λ (z : Marking). record { done = true; marking = z })
          ((λ i. record { len = len i; entries = entries i }) ∙ held_is (less like (tokens_in k) (copies e)) (before_it ++ behind) t)
          ∙ rw (enough (omega arith), take_out)
