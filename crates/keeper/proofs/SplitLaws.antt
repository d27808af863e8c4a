-- A signed number is its part above 0 less its part below 0; sums, differences and weighted sums go part by part.
use Prim.Native.Nat.{ℕ, zero, suc, ◌+◌, ◌-◌, ◌*◌, ◌≤◌, ◌<◌}
use mathlib.Core.Path.{◌≡◌, refl, ap, ap₂, ◌∙◌}
use mathlib.Core.List.{List, [], ◌∷◌, map}
use native.Mathlib.Omega.{arith}
use lib.IntN.{ℤ, pos, negsuc, ◌+ℤ◌, ◌-ℤ◌, ◌*ℤ◌, sub_ℕ}
use Rattle.std.proofs.lemmas.Int.{ints}
use borrow.Author.Tests.{lt-ltb, le-ltb}
use Rattle.keeper.specs.Split.{above, below}
use Rattle.eos.specs.Model as eos
use Rattle.eos.specs.Firing.{outer, inner, inside_of}
use Rattle.eos.specs.Vector.{◌⊕◌, zeros, unit}
use Rattle.model.specs.Rules.{nth}
use Rattle.eos.specs.Weights.{Weights, dot, dots, value}
use Rattle.model.proofs.SlotLaws.{by_index}

-- ---- differences of two numbers

-- a difference by the larger of the two
less : (a b : ℕ) → a < b → sub_ℕ a b ≡ negsuc (b - suc a)
less a b h = rw (lt-ltb a b h)

more : (a b : ℕ) → b ≤ a → sub_ℕ a b ≡ pos (a - b)
more a b h = rw (le-ltb a b h)

-- the difference of the two as signed numbers
sub_is : (a b : ℕ) → sub_ℕ a b ≡ pos a -ℤ pos b
sub_is a zero = more a 0 (omega arith) ∙ ap pos {x = a - 0} {y = a + 0} (omega arith)
sub_is a (suc b) = refl

pub sub_plus : (a b c d : ℕ) → sub_ℕ a b +ℤ sub_ℕ c d ≡ sub_ℕ (a + c) (b + d)
sub_plus a b c d = omega (arith, ints, sub_is a b, sub_is c d, sub_is (a + c) (b + d))

-- its parts
pub sub_above : (a b : ℕ) → above (sub_ℕ a b) ≡ a - b
sub_above a b = by_index b a (λ p. ap above (less a b p) ∙ omega arith) (λ p. ap above (more a b p))

pub sub_below : (a b : ℕ) → below (sub_ℕ a b) ≡ b - a
sub_below a b = by_index b a (λ p. ap below (less a b p) ∙ omega arith) (λ p. ap below (more a b p) ∙ omega arith)

-- ---- weighted sums in two parts

-- a weight times a number
times_split : (w : ℤ) (a : ℕ) → w *ℤ pos a ≡ sub_ℕ (above w * a) (below w * a)
times_split (pos n) a = omega (arith, ints, sub_is (n * a) (0 * a))
times_split (negsuc n) a = omega (arith, ints, sub_is (0 * a) (suc n * a))

-- over lists of numbers
abbrev pub dot_n : List ℕ → List ℕ → ℕ
dot_n [] x = 0
dot_n (u ∷ us) [] = 0
dot_n (u ∷ us) (a ∷ x) = u * a + dot_n us x

abbrev pub dots_n : List (List ℕ) → ℕ → (ℕ → List ℕ) → ℕ
dots_n [] n i = 0
dots_n (u ∷ us) n i = dot_n u (i n) + dots_n us (suc n) i

dot_split : (w : List ℤ) (x : List ℕ) → dot w x ≡ sub_ℕ (dot_n (map above w) x) (dot_n (map below w) x)
dot_split [] x = refl
dot_split (w ∷ ws) [] = refl
dot_split (w ∷ ws) (a ∷ x) =
    ap₂ ◌+ℤ◌ (times_split w a) (dot_split ws x) ∙ sub_plus (above w * a) (below w * a) (dot_n (map above ws) x) (dot_n (map below ws) x)

dots_split : (ws : List (List ℤ)) (n : ℕ) (i : ℕ → List ℕ) → dots ws n i ≡ sub_ℕ (dots_n (map (map above) ws) n i) (dots_n (map (map below) ws) n i)
dots_split [] n i = refl
dots_split (w ∷ ws) n i =
    ap₂ ◌+ℤ◌ (dot_split w (i n)) (dots_split ws (suc n) i)
    ∙ sub_plus (dot_n (map above w) (i n)) (dot_n (map below w) (i n)) (dots_n (map (map above) ws) (suc n) i) (dots_n (map (map below) ws) (suc n) i)

-- an outer vector and the inner ones, weighted by one part of each weight
abbrev pub value_by : (ℤ → ℕ) → Weights → List ℕ → (ℕ → List ℕ) → ℕ
value_by f w o i = dot_n (map f w.outward) o + dots_n (map (map f) w.inward) 0 i

pub value_split : (w : Weights) (o : List ℕ) (i : ℕ → List ℕ) → value w o i ≡ sub_ℕ (value_by above w o i) (value_by below w o i)
unfolding value
value_split w o i =
    ap₂ ◌+ℤ◌ (dot_split w.outward o) (dots_split w.inward 0 i)
    ∙ sub_plus (dot_n (map above w.outward) o) (dot_n (map below w.outward) o) (dots_n (map (map above) w.inward) 0 i)
    (dots_n (map (map below) w.inward) 0 i)

pub dot_n_none : (u : List ℕ) → dot_n u [] ≡ 0
dot_n_none [] = refl
dot_n_none (a ∷ u) = refl

pub dot_n-⊕ : (u x y : List ℕ) → dot_n u (x ⊕ y) ≡ dot_n u x + dot_n u y
dot_n-⊕ [] x y = refl
dot_n-⊕ (a ∷ u) [] y = omega arith
dot_n-⊕ (a ∷ u) (b ∷ x) [] = omega arith
dot_n-⊕ (a ∷ u) (b ∷ x) (c ∷ y) = omega (arith, dot_n-⊕ u x y)

pub dot_n_zeros : (u : List ℕ) (k : ℕ) → dot_n u (zeros k) ≡ 0
dot_n_zeros [] k = refl
dot_n_zeros (a ∷ u) zero = refl
dot_n_zeros (a ∷ u) (suc k) = omega (arith, dot_n_zeros u k)

pub dot_n_unit : (u : List ℕ) (p : ℕ) → dot_n u (unit p) ≡ nth u p
dot_n_unit [] p = refl
dot_n_unit (a ∷ u) zero = omega (arith, dot_n_none u)
dot_n_unit (a ∷ u) (suc p) = omega (arith, dot_n_unit u p)

-- ---- a marking's weight is the sum of its net-tokens' weights

dots_n-⊕ : (us : List (List ℕ)) (n : ℕ) (i j : ℕ → List ℕ) → dots_n us n (λ k. i k ⊕ j k) ≡ dots_n us n i + dots_n us n j
dots_n-⊕ [] n i j = refl
dots_n-⊕ (u ∷ us) n i j = omega (arith, dot_n-⊕ u (i n) (j n), dots_n-⊕ us (suc n) i j)

dots_n_zeros : (us : List (List ℕ)) (n : ℕ) (f : ℕ → ℕ) → dots_n us n (λ k. zeros (f k)) ≡ 0
dots_n_zeros [] n f = refl
dots_n_zeros (u ∷ us) n f = omega (arith, dot_n_zeros u (f n), dots_n_zeros us (suc n) f)

module _ (m : eos.Model) (w : Weights) (f : ℤ → ℕ) where
  abbrev pub weight_of : eos.NetToken → ℕ
  weight_of t = nth (map f w.outward) t.place + dots_n (map (map f) w.inward) 0 (λ n. inside_of m n t)

  abbrev pub weight_by : eos.Marking → ℕ
  weight_by μ = value_by f w (outer m μ) (λ n. inner m n μ)

  pub weight_none : weight_by [] ≡ 0
  unfolding outer inner
  weight_none = omega (arith, dot_n_zeros (map f w.outward) (eos.places m), dots_n_zeros (map (map f) w.inward) 0 (λ n. (eos.net m n).size))

  pub weight_more : (t : eos.NetToken) (μ : eos.Marking) → weight_by (t ∷ μ) ≡ weight_of t + weight_by μ
  unfolding outer inner
  weight_more t μ =
      omega (
        arith,
        dot_n-⊕ (map f w.outward) (unit t.place) (outer m μ),
        dot_n_unit (map f w.outward) t.place,
        dots_n-⊕ (map (map f) w.inward) 0 (λ n. inside_of m n t) (λ n. inner m n μ),
      )
