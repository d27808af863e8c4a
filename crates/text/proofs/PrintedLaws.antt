-- Printed numbers and lists, as the code counts and lays them: a number digit by digit, a list number by number.
use Prim.Native.Nat.{ℕ, zero, suc, ◌+◌, ◌-◌, ◌/◌, ◌%◌, ◌≤◌, ◌<◌}
use mathlib.Core.Path.{◌≡◌, refl, ◌∙◌}
use mathlib.Core.List.{List, [], ◌∷◌, ◌++◌}
use native.Mathlib.Omega.{arith}
use native.Mathlib.Numerals.{add-one}
use lib.ListN.{length, drop, set, get_or, length-append, length-drop, drop_of_length-le}
use lib.Seq.{sets, drop-cons}
use Rattle.text.specs.Lists.{stop_of}
use Rattle.text.specs.Bytes.{lf, star}
use Rattle.text.specs.Printed.{decimal, items_text, end_text, counts_text}
use Rattle.text.proofs.DecimalLaws.{decimal-small, decimal_large, length_large}
use Rattle.text.proofs.SetsLaws.{sets_append, sets-set}

-- a number below 10 is one store
pub lay-one : (l : List ℕ) (at n : ℕ) → n < 10 → set l at (48 + n) ≡ sets l at (decimal n)
lay-one l at n h = rw (decimal-small n h)

-- the last digit may be laid before the others
pub lay_last : (l : List ℕ) (at k n : ℕ) → 10 ≤ n → k + 1 ≡ at + length (decimal n)
    → sets (set l k (48 + n % 10)) at (decimal (n / 10)) ≡ sets l at (decimal n)
lay_last l at k n h e =
    let w = length_large n h in
    let p : k ≡ at + length (decimal (n / 10)) = omega arith in
    rw (decimal_large n h, sets_append (decimal (n / 10)) ((48 + n % 10) ∷ []) l at, p)
    (sets-set (decimal (n / 10)) l at (at + length (decimal (n / 10))) (48 + n % 10) (omega arith))

-- a list, number by number
items_at : (last : ℕ) (vs : List ℕ) (i : ℕ) → i < length vs
    → items_text decimal last (drop i vs) ≡ decimal (get_or vs i 0) ++ (stop_of last (length vs - i - 1) ∷ items_text decimal last (drop (i + 1) vs))
unfolding items_text
items_at last vs i h =
    let e : length (drop (suc i) vs) ≡ length vs - i - 1 = length-drop (suc i) vs ∙ (omega arith) in
    rw (add-one i, drop-cons vs i 0 h, e)

pub items_over : (last : ℕ) (vs : List ℕ) (i : ℕ) → length vs ≤ i → items_text decimal last (drop i vs) ≡ []
unfolding items_text
items_over last vs i h = rw (drop_of_length-le vs h)

pub length-items : (last : ℕ) (vs : List ℕ) (i : ℕ) → i < length vs
    → length (items_text decimal last (drop i vs)) ≡ length (decimal (get_or vs i 0)) + 1 + length (items_text decimal last (drop (i + 1) vs))
length-items last vs i h =
    rw (items_at last vs i h, length-append) (omega arith)

-- a number laid with the byte that ends it, and the rest to come
pub lay-item : (last : ℕ) (vs l : List ℕ) (i at : ℕ) {m : List ℕ} {k stop : ℕ} → i < length vs → k ≡ length (decimal (get_or vs i 0)) → m ≡ sets l at (decimal (get_or vs i 0))
    → stop ≡ stop_of last (length vs - i - 1)
    → sets (set m (at + k) stop) (at + k + 1) (items_text decimal last (drop (i + 1) vs)) ≡ sets l at (items_text decimal last (drop i vs))
lay-item last vs l i at h p q e =
    let v = get_or vs i 0 in
    rw (p, q, e, items_at last vs i h, sets_append (decimal v) (stop_of last (length vs - i - 1) ∷ items_text decimal last (drop (i + 1) vs)) l at, add-one (at + length (decimal v)))

pub end_none : (last : ℕ) (vs : List ℕ) → length vs ≡ 0 → end_text decimal last vs ≡ (last ∷ [])
unfolding end_text
end_none last [] e = refl
end_none last (v ∷ vs) e = absurd (omega arith)

pub end_some : (last : ℕ) (vs : List ℕ) → (length vs ≡ 0 → ⊥) → end_text decimal last vs ≡ items_text decimal last vs
unfolding end_text
end_some last [] n = absurd (n refl)
end_some last (v ∷ vs) n = refl

-- the counts of one net-token, and those of none or of several
pub counts_one : (l : List ℕ) (n : ℕ) → n ≡ 1 → counts_text l n ≡ end_text decimal lf l
unfolding counts_text
counts_one l n e = rw e

pub counts_many : (l : List ℕ) (n : ℕ) → (n ≡ 1 → ⊥) → counts_text l n ≡ end_text decimal star l ++ (decimal n ++ (lf ∷ []))
unfolding counts_text
counts_many l zero h = refl
counts_many l (suc zero) h = absurd (h refl)
counts_many l (suc (suc n)) h = refl
