-- The digits that a number is printed with.
use Prim.Native.Nat.{ℕ, zero, suc, ◌+◌, ◌*◌, ◌/◌, ◌%◌, ◌^◌, ◌≤◌, ◌<◌}
use mathlib.Core.Path.{◌≡◌, refl, sym, ◌∙◌}
use mathlib.Core.List.{[], ◌∷◌, ◌++◌, append_assoc}
use mathlib.Core.Bool.{Bool, true, ◌&&◌, and_assoc}
use native.Mathlib.Omega.{arith}
use native.Mathlib.Nat.{pow-suc}
use native.Mathlib.Numerals.{add-one}
use lib.Dec.{ltb}
use borrow.Author.Tests.{lt-ltb, le-ltb, ltb-true, ltb-false, le-leb}
use lib.ListN.{length, get_or, length-append}
use Rattle.text.specs.Bytes.{Text}
use Rattle.text.proofs.Basics.{by_test}
use Rattle.text.specs.Number.{is_digit}
use Rattle.text.specs.Lines.{every}
use Rattle.text.specs.Printed.{decimal, decimal_of}

of_small : (k n : ℕ) → n < 10 → decimal_of (suc k) n ≡ ((48 + n) ∷ [])
unfolding decimal_of
of_small k n h = rw (lt-ltb n 10 h, decimal_of)

of_large : (k n : ℕ) → 10 ≤ n → decimal_of (suc k) n ≡ decimal_of k (n / 10) ++ ((48 + n % 10) ∷ [])
unfolding decimal_of
of_large k n h = rw (le-ltb n 10 h, decimal_of)

-- room for more digits changes nothing
of_enough : (k m n : ℕ) → n < k → n < m → decimal_of k n ≡ decimal_of m n
of_enough zero m n h p = absurd (omega arith)
of_enough (suc k) zero n h p = absurd (omega arith)
of_enough (suc k) (suc m) n h p =
    by_test (ltb n 10)
    (λ t. of_small k n (ltb-true n 10 t) ∙ sym (of_small m n (ltb-true n 10 t)))
    (λ t.
    let q : 10 ≤ n = ltb-false n 10 t in
    let r = of_enough k m (n / 10) (omega arith) (omega arith) in
    rw (of_large k n q, r) (sym (of_large m n q)))

-- a number below 10 is one digit
pub decimal-small : (n : ℕ) → n < 10 → decimal n ≡ ((48 + n) ∷ [])
unfolding decimal
decimal-small n h = rw add-one (of_small n n h)

-- the last digit of a larger number stands behind the others
pub decimal_large : (n : ℕ) → 10 ≤ n → decimal n ≡ decimal (n / 10) ++ ((48 + n % 10) ∷ [])
unfolding decimal
decimal_large n h = rw (add-one n, of_large n n h, of_enough n (n / 10 + 1) (n / 10) (omega arith) (omega arith))

-- to show a fact of every number by its digits
pub by_digits : (P : ℕ → Type 0) → ((n : ℕ) → n < 10 → P n) → ((n : ℕ) → 10 ≤ n → P (n / 10) → P n) → (n : ℕ) → P n
by_digits P small large n = go (suc n) n (omega arith)
  where
    go : (k n : ℕ) → n < k → P n
    go zero n h = absurd (omega arith)
    go (suc k) n h =
        by_test (ltb n 10)
        (λ t. small n (ltb-true n 10 t))
        (λ t. large n (ltb-false n 10 t) (go k (n / 10) (omega (arith, ltb-false n 10 t))))

-- one digit more is printed behind
pub decimal_more : (v d : ℕ) → 0 < v → d < 10 → decimal (v * 10 + d) ≡ decimal v ++ ((48 + d) ∷ [])
decimal_more v d p h =
    let q : (v * 10 + d) / 10 ≡ v = omega arith in
    let r : (v * 10 + d) % 10 ≡ d = omega arith in
    rw (decimal_large (v * 10 + d) (omega arith), q, r)

-- the bytes of the ten digits
pub is_digit_lem : (d : ℕ) → d < 10 → is_digit (48 + d) ≡ true
is_digit_lem d h = rw (le-leb 48 (48 + d) (omega arith), le-leb (48 + d) 57 (omega arith))

every_append : (f : ℕ → Bool) (a b : Text) → every f (a ++ b) ≡ (every f a && every f b)
every_append f [] b = refl
every_append f (c ∷ a) b = rw (every_append f a b, and_assoc)

-- a number is printed with digits alone
pub decimal-digits : (n : ℕ) → every is_digit (decimal n) ≡ true
decimal-digits = by_digits (λ n. every is_digit (decimal n) ≡ true)
    (λ n h. rw (decimal-small n h, is_digit_lem n h))
    (λ n h r. rw (decimal_large n h, every_append, r, is_digit_lem (n % 10) (omega arith)))

-- c is a digit, and '0' for 0 alone
abbrev pub Leads : ℕ → ℕ → Type 0
Leads n c = (48 ≤ c) × (c ≤ 57) × (0 < n → 48 < c)

-- a number begins with a digit, which is '0' for 0 alone
pub decimal_leads : (n : ℕ) (t : Text) → Leads n (get_or (decimal n ++ t) 0 0)
decimal_leads =
    by_digits (λ n. (t : Text) → Leads n (get_or (decimal n ++ t) 0 0))
    (λ n h t. rw (decimal-small n h) (omega arith))
    (λ n h r t.
    let q = r ((48 + n % 10) ∷ t) in
    rw (decimal_large n h, append_assoc) (q.0, q.1, λ p. q.2 (omega arith)))

-- a number below 10 has one digit
pub length-small : (n : ℕ) → n < 10 → length (decimal n) ≡ 1
length-small n h = rw (decimal-small n h)

-- a larger number has one digit more than its tenth
pub length_large : (n : ℕ) → 10 ≤ n → length (decimal n) ≡ length (decimal (n / 10)) + 1
length_large n h = rw (decimal_large n h, length-append)

-- a number has a digit
pub length-positive : (n : ℕ) → 0 < length (decimal n)
length-positive = by_digits (λ n. 0 < length (decimal n)) (λ n h. omega (arith, length-small n h)) (λ n h r. omega (arith, length_large n h))

-- a number below 10 ^ (k + 1) has at most k + 1 digits
pub length-below : (k n : ℕ) → n < 10 ^ suc k → length (decimal n) ≤ suc k
length-below zero n h = omega (arith, length-small n (omega arith))
length-below (suc k) n h =
    by_test (ltb n 10)
    (λ q. omega (arith, length-small n (ltb-true n 10 q)))
    (λ q. omega (arith, length_large n (ltb-false n 10 q), length-below k (n / 10) (omega (arith, pow-suc 10 (suc k)))))
