-- A product of weights and counts as it is added up, from the first on; a sum that stays within its type.
use Prim.Native.Nat.{ℕ, suc, ◌+◌, ◌*◌, ◌^◌, ◌≤◌, ◌<◌}
use mathlib.Core.Path.{◌≡◌, refl, ap, ap₂}
use mathlib.Core.Logic.{◌⊎◌, inl, inr}
use mathlib.Core.List.{List, [], ◌∷◌, ◌++◌}
use native.Mathlib.Omega.{arith}
use native.Mathlib.Nat.{mul-le-mul}
use lib.IntN.{ℤ, pos, negsuc, neg_ℤ, nat_abs, ◌+ℤ◌, ◌*ℤ◌}
use lib.ListN.{length, length-append}
use lib.Signed.{◌≤ℤ◌}
use mir.Syntax.{w64}
use mir.Val.{SFits, to_z, of_z}
use Rattle.std.proofs.lemmas.Int.{ints}
use Rattle.std.specs.List.{All}
use Rattle.eos.specs.Weights.{dot}

-- a sum of at most `so_far`, and a summand of at most `more`, either side of 0
pub sum_step : (bits so_far more : ℕ) (r : ℤ) → so_far + more < 2 ^ 63 → neg_ℤ (pos so_far) ≤ℤ to_z w64 bits → to_z w64 bits ≤ℤ pos so_far
    → neg_ℤ (pos more) ≤ℤ r → r ≤ℤ pos more
    → (to_z w64 (of_z w64 (to_z w64 bits +ℤ to_z w64 (of_z w64 r))) ≡ to_z w64 bits +ℤ r)
    × (neg_ℤ (pos (so_far + more)) ≤ℤ (to_z w64 bits +ℤ r)) × ((to_z w64 bits +ℤ r) ≤ℤ pos (so_far + more))
sum_step bits so_far more r few low high rl rh = (omega (arith, ints), omega (arith, ints), omega (arith, ints))

-- one weight further: what is added up, with the product of what is still to come, stays the same
dot_step : (a rest : List ℤ) (b rest_b : List ℕ) (w : ℤ) (n : ℕ) (sum next t : ℤ) → a ≡ w ∷ rest → b ≡ n ∷ rest_b → sum +ℤ dot a b ≡ t
    → next ≡ sum +ℤ (w *ℤ pos n) → next +ℤ dot rest rest_b ≡ t
dot_step a rest b rest_b w n sum next t p q h e =
    let d : sum +ℤ dot a b ≡ sum +ℤ (w *ℤ pos n +ℤ dot rest rest_b) = ap₂ (λ (x : List ℤ) (y : List ℕ). sum +ℤ dot x y) p q in
    omega (arith, ints, d, e, h)

-- the product of the same weights and counts
pub dot_same : {a b : List ℤ} {x y : List ℕ} → a ≡ b → x ≡ y → dot a x ≡ dot b y
dot_same p q = ap₂ dot p q

-- no weight or no count is still to come
no_more : (a : List ℤ) (b : List ℕ) → (length a ≡ 0) ⊎ (length b ≡ 0) → dot a b ≡ pos 0
no_more [] b h = refl
no_more (w ∷ a) [] h = refl
no_more (w ∷ a) (n ∷ b) (inl z) = absurd (omega arith)
no_more (w ∷ a) (n ∷ b) (inr z) = absurd (omega arith)

-- a product of which each summand is at most `most`, with what was yielded added up and the rest still to come
pub record Adding (most : ℕ) (weights : List ℤ) (counts : List ℕ) (sum : ℤ) (yielded : ℕ) (a : List ℤ) (b : List ℕ) : Type 0 where
  pub whole : sum +ℤ dot a b ≡ dot weights counts
  pub left : yielded + length a ≡ length weights
  pub low : neg_ℤ (pos (yielded * most)) ≤ℤ sum
  pub high : sum ≤ℤ pos (yielded * most)

module _ (most : ℕ) {weights : List ℤ} {counts : List ℕ} where
  -- one turn: w times n, which the code has as r, is added to the sum
  pub added_next : {P : Type 0} {n : ℕ} {w r : ℤ} {a rest : List ℤ} {b rest_b : List ℕ} (bits : ℕ) (yielded : List P) (p : P)
      → length weights * most < 2 ^ 63 → Adding most weights counts (to_z w64 bits) (length yielded) a b → a ≡ w ∷ rest → b ≡ n ∷ rest_b
      → r ≡ w *ℤ pos n → neg_ℤ (pos most) ≤ℤ r → r ≤ℤ pos most
      → Adding most weights counts (to_z w64 (of_z w64 (to_z w64 bits +ℤ to_z w64 (of_z w64 r)))) (length (yielded ++ p ∷ [])) rest rest_b
  added_next {r = r} bits yielded p few i ea eb value low high =
      let next : length (yielded ++ p ∷ []) ≡ length yielded + 1 = length-append yielded (p ∷ []) in
      let long = ap length ea in
      let more : length yielded * most + most ≡ (length yielded + 1) * most = omega arith in
      let within : (length yielded + 1) * most ≤ length weights * most = mul-le-mul (omega (arith, i.left, long)) (omega arith) in
      let e = sum_step bits (length yielded * most) most r (omega (arith, more, within, few)) i.low i.high low high in
      rw (e.0, next)
      record {
        whole = dot_step _ _ _ _ _ _ _ _ _ ea eb i.whole (ap (λ (z : ℤ). to_z w64 bits +ℤ z) value);
        left = omega (arith, long, i.left);
        low = rw (← more) e.1;
        high = rw (← more) e.2;
      }

  -- there is room for one product more
  pub added_fits : {w r : ℤ} {a rest : List ℤ} {b : List ℕ} (bits yielded : ℕ) → length weights * most < 2 ^ 63
      → Adding most weights counts (to_z w64 bits) yielded a b → a ≡ w ∷ rest → neg_ℤ (pos most) ≤ℤ r → r ≤ℤ pos most
      → SFits w64 (to_z w64 bits +ℤ to_z w64 (of_z w64 r))
  added_fits bits yielded few i ea low high =
      let long = ap length ea in
      let more : yielded * most + most ≡ (yielded + 1) * most = omega arith in
      let within : (yielded + 1) * most ≤ length weights * most = mul-le-mul (omega (arith, i.left, long)) (omega arith) in
      omega (arith, ints, more, within, few, i.low, i.high, low, high)

  -- nothing is still to come
  pub added_up : {sum : ℤ} {yielded : ℕ} {a : List ℤ} {b : List ℕ} → Adding most weights counts sum yielded a b → (length a ≡ 0) ⊎ (length b ≡ 0) → sum ≡ dot weights counts
  added_up {a = a} {b = b} i h = let z = no_more a b h in omega (arith, ints, z, i.whole)

  -- what is added up of at most 32
  pub added_within : {sum : ℤ} {yielded : ℕ} {a : List ℤ} {b : List ℕ} → Adding most weights counts sum yielded a b → length weights ≤ 32
      → (neg_ℤ (pos (32 * most)) ≤ℤ sum) × (sum ≤ℤ pos (32 * most))
  added_within {yielded = yielded} i few =
      let p : yielded * most ≤ 32 * most = mul-le-mul (omega (arith, i.left)) (omega arith) in
      (omega (arith, ints, p, i.low), omega (arith, ints, p, i.high))

-- a product of two numbers that have limits
times_most : (g : ℤ) (n most few : ℕ) → nat_abs g ≤ most → n ≤ few → (neg_ℤ (pos (most * few)) ≤ℤ (g *ℤ pos n)) × ((g *ℤ pos n) ≤ℤ pos (most * few))
times_most (pos a) n most few h k = let p : a * n ≤ most * few = mul-le-mul h k in (omega (arith, ints, p), omega (arith, ints, p))
times_most (negsuc a) n most few h k = let p : suc a * n ≤ most * few = mul-le-mul h k in (omega (arith, ints, p), omega (arith, ints, p))

-- the product of w and n as the code has it, and of how many the sum fits
module _ {x y w : ℤ} {n most few : ℕ} (first : (x ≡ w) × (nat_abs w ≤ most) × (most ≤ 137436856320)) (second : (y ≡ pos n) × (n ≤ few) × (few ≤ 65535)) where
  abbrev held : ℤ
  held = to_z w64 (of_z w64 x) *ℤ to_z w64 (of_z w64 y)

  pub held_is : held ≡ w *ℤ pos n
  held_is =
      let p : to_z w64 (of_z w64 x) ≡ w = omega (arith, ints, first) in
      let q : to_z w64 (of_z w64 y) ≡ pos n = omega (arith, ints, second) in
      ap₂ ◌*ℤ◌ p q

  pub held_within : (neg_ℤ (pos (most * few)) ≤ℤ held) × (held ≤ℤ pos (most * few))
  held_within = rw held_is (times_most w n most few first.1 second.1)

  pub held_fits : SFits w64 held
  held_fits = let p : most * few ≤ 137436856320 * 65535 = mul-le-mul first.2 second.2 in omega (arith, ints, p, held_within)

  pub sum_fits : (l : ℕ) → l ≤ 32 → l * (most * few) < 2 ^ 63
  sum_fits l h =
      let p : most * few ≤ 137436856320 * 65535 = mul-le-mul first.2 second.2 in
      let q : l * (most * few) ≤ 32 * (137436856320 * 65535) = mul-le-mul h p in
      omega (arith, q)

-- a number between two limits
pub between : (z : ℤ) (most : ℕ) → neg_ℤ (pos most) ≤ℤ z → z ≤ℤ pos most → nat_abs z ≤ most
between (pos a) most low high = omega (arith, ints)
between (negsuc a) most low high = omega (arith, ints)

pub within : (z : ℤ) (most : ℕ) → nat_abs z ≤ most → (neg_ℤ (pos most) ≤ℤ z) × (z ≤ℤ pos most)
within (pos a) most h = (omega (arith, ints), omega (arith, ints))
within (negsuc a) most h = (omega (arith, ints), omega (arith, ints))

-- what holds of all of a list holds of those behind the first
pub all_rest : {A : Type 0} (P : A → Type 0) {a rest : List A} {x : A} → a ≡ x ∷ rest → All P a → All P rest
all_rest P e all k d h = (rw e at all) (suc k) d (omega (arith, h))
