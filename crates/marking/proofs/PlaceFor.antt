-- A net-token's place in an ascending list: what stands before it and behind it, and that none like it stands elsewhere.
use Prim.Native.Nat.{ℕ, zero, suc, ◌+◌, ◌≤◌, ◌<◌}
use mathlib.Core.Path.{◌≡◌, refl, ap, sym, ◌∙◌}
use mathlib.Core.Logic.{⊎_elim}
use mathlib.Core.Bool.{Bool, true, false, cond, not, ◌&&◌}
use Rattle.std.proofs.lemmas.Bool.{cases_lt}
use mathlib.Core.List.{List, [], ◌∷◌, ◌++◌}
use native.Mathlib.Numerals.{add-one}
use native.Mathlib.Omega.{arith}
use lib.Dec.{T}
use lib.ListN.{length, get_or, take, drop, drop_of_length-le}
use lib.Seq.{drop-cons}
use Rattle.std.specs.List.{IsAllAdjacentAnswer}
use Rattle.std.specs.List.Sorted.{IsPartitionPoint, IsPartitionedBy}
use borrow.Author.Tests.{not-true, not-false}
use Rattle.text.proofs.Basics.{by_test}
use Rattle.eos.specs.Multiset.{bit, count, insert, Below, Sorted}
use Rattle.eos.specs.Counted.{under}
use Rattle.eos.proofs.Basics.{true_is, false_is}
use Rattle.marking.specs.Tokens.{like, before, no_token, no_entry, tokens, place_for, ascending}
use Rattle.marking.specs.declared.NetToken.{NetToken}
use Rattle.marking.specs.declared.Entry.{Entry}
use Rattle.marking.proofs.TokenOrder.{held_alike, held_order}

is_false : (t : Bool) → (T t → ⊥) → t ≡ false
is_false t f = by_test t (λ e. absurd (f (true_is e))) (λ e. e)

before_self : (r : NetToken) → T (before r r)
before_self r = by_test (before r r) true_is (held_order.total r r)

like_of : {r x : NetToken} → r ≡ x → T (like r x)
like_of {r} {x} e = rw e (held_alike.self x)

-- a net-token that is not at most x is not x
apart : (r x : NetToken) → before r x ≡ false → like r x ≡ false
apart r x e = is_false (like r x) (λ t. false_is e (rw (← held_alike.same r x t) (before_self r)))

below_at : (d x : NetToken) (rs : List NetToken) (i : ℕ) → Below before x rs → i < length rs → T (before x (get_or rs i d))
below_at d x [] i b h = absurd (omega arith)
below_at d x (y ∷ rs) zero b h = b.0
below_at d x (y ∷ rs) (suc i) b h = below_at d x rs i b.1 (omega arith)

pub place-within : (r : NetToken) (rs : List NetToken) → place_for r rs ≤ length rs
place-within r [] = omega arith
place-within r (x ∷ rs) = go (before r x) (place-within r rs)
  where
    go : (k : Bool) → place_for r rs ≤ length rs → cond k 0 (suc (place_for r rs)) ≤ suc (length rs)
    go true h = omega arith
    go false h = omega arith

-- the halves of the search
pub place_le : (d r : NetToken) (rs : List NetToken) (i : ℕ) → i < length rs → before r (get_or rs i d) ≡ true → place_for r rs ≤ i
place_le d r [] i h e = absurd (omega arith)
place_le d r (x ∷ rs) zero h e = rw e (omega arith)
place_le d r (x ∷ rs) (suc i) h e = go (before r x) (place_le d r rs i (omega arith) e)
  where
    go : (k : Bool) → place_for r rs ≤ i → cond k 0 (suc (place_for r rs)) ≤ suc i
    go true l = omega arith
    go false l = omega arith

pub place_gt : (d r : NetToken) (rs : List NetToken) (i : ℕ) → Sorted before rs → i < length rs → before r (get_or rs i d) ≡ false → i < place_for r rs
place_gt d r [] i s h e = absurd (omega arith)
place_gt d r (x ∷ rs) zero s h e = rw e (omega arith)
place_gt d r (x ∷ rs) (suc i) s h e = go (before r x) refl (place_gt d r rs i s.1 (omega arith) e)
  where
    go : (k : Bool) → before r x ≡ k → i < place_for r rs → suc i < cond k 0 (suc (place_for r rs))
    go true t l = absurd (false_is e (held_order.trans r x (get_or rs i d) (true_is t) (below_at d x rs i s.0 (omega arith))))
    go false t l = omega arith

pub insert-at : (r : NetToken) (rs : List NetToken) → insert before r rs ≡ take (place_for r rs) rs ++ (r ∷ drop (place_for r rs) rs)
insert-at r [] = refl
insert-at r (x ∷ rs) = go (before r x) (insert-at r rs)
  where
    go : (k : Bool) → insert before r rs ≡ take (place_for r rs) rs ++ (r ∷ drop (place_for r rs) rs)
        → cond k (r ∷ x ∷ rs) (x ∷ insert before r rs) ≡ take (cond k 0 (suc (place_for r rs))) (x ∷ rs) ++ (r ∷ drop (cond k 0 (suc (place_for r rs))) (x ∷ rs))
    go true e = refl
    go false e = ap (λ (l : List NetToken). x ∷ l) e

-- no net-token before the place is r
pub count_from : (r : NetToken) (rs : List NetToken) → count like r rs ≡ count like r (drop (place_for r rs) rs)
count_from r [] = refl
count_from r (x ∷ rs) = go (before r x) refl (count_from r rs)
  where
    go : (k : Bool) → before r x ≡ k → count like r rs ≡ count like r (drop (place_for r rs) rs)
        → bit (like r x) + count like r rs ≡ count like r (drop (cond k 0 (suc (place_for r rs))) (x ∷ rs))
    go true t e = refl
    go false t e = rw (apart r x t) (omega arith)

-- net-tokens from one on that is above r
above : (r x : NetToken) (rs : List NetToken) → T (before r x) → like r x ≡ false → Below before x rs → count like r rs ≡ 0
above r x [] l e b = refl
above r x (y ∷ rs) l e b =
    let n : like r y ≡ false = is_false (like r y) (λ t.
    let q : r ≡ y = held_alike.same r y t in
    false_is e (like_of (held_order.antisym r x l (rw q b.0)))) in
    rw n (omega (arith, above r x rs l e b.1))

sorted-drop : (rs : List NetToken) (i : ℕ) → Sorted before rs → Sorted before (drop i rs)
sorted-drop [] zero s = tt
sorted-drop [] (suc i) s = tt
sorted-drop (x ∷ rs) zero s = s
sorted-drop (x ∷ rs) (suc i) s = sorted-drop rs i s.1

module _ (r : NetToken) (rs : List NetToken) (i : ℕ) where
  pub count_done : length rs ≤ i → count like r (drop i rs) ≡ 0
  count_done h = rw (drop_of_length-le rs {i = i} h)

  -- from the place on, the first net-token that is not r ends those that are
  pub count_none : Sorted before rs → place_for r rs ≤ i → i < length rs → like r (get_or rs i no_token) ≡ false → count like r (drop i rs) ≡ 0
  count_none s p h e =
      let c : drop i rs ≡ get_or rs i no_token ∷ drop (suc i) rs = drop-cons rs i no_token h in
      let l : T (before r (get_or rs i no_token)) = by_test (before r (get_or rs i no_token)) true_is (λ t. absurd (omega (arith, place_gt no_token r rs i s h t))) in
      let b : Sorted before (get_or rs i no_token ∷ drop (suc i) rs) = rw c at (sorted-drop rs i s) in
      rw (c, e) (omega (arith, above r (get_or rs i no_token) (drop (suc i) rs) l e b.0))

-- ---- what the library's searches answer

-- the net-token of entry i
pub token_at : (es : List Entry) (i : ℕ) (d : Entry) → get_or (tokens es) i d.token ≡ (get_or es i d).token
token_at [] i d = refl
token_at (e ∷ es) zero d = refl
token_at (e ∷ es) (suc i) d = token_at es i d

pub length_tokens : (es : List Entry) → length (tokens es) ≡ length es
length_tokens [] = refl
length_tokens (e ∷ es) = ap suc (length_tokens es)

-- where entries are parted by being before r, r has its place
pub parted : (r : NetToken) (es : List Entry) → Sorted before (tokens es) → IsPartitionedBy (λ e. not (before r e.token)) es
parted r es s i j d h k e =
    let n = length_tokens es in
    by_test (before r (get_or es i d).token)
    (λ t.
    let low = place_le d.token r (tokens es) i (omega arith) (ap (before r) (token_at es i d) ∙ t) in
    let high = place_gt d.token r (tokens es) j s (omega arith) (ap (before r) (token_at es j d) ∙ not-true _ e) in
    absurd (omega (arith, low, high)))
    (λ f. rw f)

pub place_is : (r : NetToken) (es : List Entry) (p : ℕ) → Sorted before (tokens es) → p ≤ length es
    → IsPartitionPoint (λ e. not (before r e.token) ≡ true) (λ e. not (before r e.token) ≡ false) es p → p ≡ place_for r (tokens es)
place_is r es p s h q = omega (arith, low, high)
  where
    n : length (tokens es) ≡ length es
    n = length_tokens es

    high : place_for r (tokens es) ≤ p
    high =
        ⊎_elim
        (λ (k : p < length es). place_le no_token r (tokens es) p (omega (arith, n)) (ap (before r) (token_at es p no_entry) ∙ not-false _ (q.1 p no_entry (omega arith) k)))
        (λ (k : length es ≤ p). omega (arith, n, place-within r (tokens es))) (cases_lt p (length es))

    front : (p : ℕ) → p ≤ length es → ((k : ℕ) (d : Entry) → 0 ≤ k → k < p → not (before r (get_or es k d).token) ≡ true) → p ≤ place_for r (tokens es)
    front zero h f = omega arith
    front (suc k) h f =
        omega (arith, place_gt no_token r (tokens es) k s (omega (arith, n)) (ap (before r) (token_at es k no_entry) ∙ not-true _ (f k no_entry (omega arith) (omega arith))))

    low : p ≤ place_for r (tokens es)
    low = front p h q.0

-- entries that rise step by step
rising : (es : List Entry) → ((k : ℕ) (d : Entry) → suc k < length es → under before (get_or es k d).token (get_or es (suc k) d).token ≡ true) → true ≡ ascending es
rising [] h = refl
rising (e ∷ []) h = refl
rising (e ∷ f ∷ es) h = rw (h 0 e (omega arith)) (rising (f ∷ es) (λ k d q. h (suc k) d (omega arith)))

falling : (es : List Entry) (k : ℕ) → suc k < length es → ((d : Entry) → under before (get_or es k d).token (get_or es (suc k) d).token ≡ false) → false ≡ ascending es
falling [] k q h = absurd (omega arith)
falling (e ∷ []) k q h = absurd (omega arith)
falling (e ∷ f ∷ es) zero q h = rw (h e)
falling (e ∷ f ∷ es) (suc k) q h = go (under before e.token f.token) (falling (f ∷ es) k (omega arith) h)
  where
    go : (b : Bool) → false ≡ ascending (f ∷ es) → false ≡ b && ascending (f ∷ es)
    go true e = e
    go false e = refl

-- the library's test of an order that is theirs
pub ascending_is : (es : List Entry) (b : Bool) → IsAllAdjacentAnswer (λ e f b. b ≡ under before e.token f.token) es b → b ≡ ascending es
ascending_is es true h = rising es (λ k d q. sym (rw add-one at (h k d (rw add-one q))))
ascending_is es false h = falling es h.0 (rw add-one at h.1) (λ d. sym (rw add-one at (h.2 d)))
