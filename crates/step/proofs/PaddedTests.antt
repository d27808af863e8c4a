-- Laws of padded vectors: the tests of vectors do not see the padding.
use Prim.Native.Nat.{ℕ, ◌≤◌}
use mathlib.Core.Path.{◌≡◌, sym, ◌∙◌}
use mathlib.Core.List.{List}
use native.Mathlib.Omega.{arith}
use lib.ListN.{length}
use lib.Seq.{ext_get_or}
use Rattle.eos.specs.Vector.{◌⊕◌, ◌⊖◌, le_v}
use Rattle.eos.proofs.Basics.{same_test}
use Rattle.eos.proofs.VectorLaws.{le_v_le, le_le_v, get_d-⊕, get_d-⊖}
use Rattle.eos.proofs.VectorSums.{long-left}
use Rattle.text.specs.Answers.{padded}
use Rattle.text.proofs.PaddedLaws.{length-padded, at-padded}
use Rattle.model.specs.Rules.{nth}
use Rattle.step.proofs.VectorArrays.{length-less}

-- ---- order
module _ (x y v w : List ℕ) (p : (i : ℕ) → nth x i ≡ nth v i) (q : (i : ℕ) → nth y i ≡ nth w i) where
  -- it is decided by the numbers
  pub le_same : le_v x y ≡ le_v v w
  le_same =
      same_test (le_v x y) (le_v v w) (λ t. le_le_v v w (λ i. omega (arith, le_v_le x y t i, p i, q i))) (λ t. le_le_v x y (λ i. omega (arith, le_v_le v w t i, p i, q i)))

pub le_padded : (x y : List ℕ) → length x ≤ 32 → length y ≤ 32 → le_v (padded x) (padded y) ≡ le_v x y
le_padded x y h k = le_same (padded x) (padded y) x y (at-padded x h) (at-padded y k)

-- ---- a vector of 32 numbers is another, padded
pub padded_of : (x y : List ℕ) → length x ≡ 32 → length y ≤ 32 → ((i : ℕ) → nth x i ≡ nth y i) → x ≡ padded y
padded_of x y e h p = ext_get_or 0 x (padded y) (e ∙ sym (length-padded y)) (λ i b. p i ∙ sym (at-padded y h i))

-- what is left and given, padded
pub moved_long : (x y z : List ℕ) (n : ℕ) → length x ≡ n → length y ≡ n → length z ≡ n → length (x ⊖ y ⊕ z) ≡ n
moved_long x y z n p q r = long-left (x ⊖ y) z (omega (arith, length-less x y)) ∙ length-less x y ∙ p

pub moved_padded : (x y z : List ℕ) (n : ℕ) → n ≤ 32 → length x ≡ n → length y ≡ n → length z ≡ n → padded x ⊖ padded y ⊕ padded z ≡ padded (x ⊖ y ⊕ z)
moved_padded x y z n h p q r =
    let a : length (padded x ⊖ padded y) ≡ 32 = length-less (padded x) (padded y) ∙ length-padded x in
    let b : length (padded x ⊖ padded y ⊕ padded z) ≡ 32 = long-left (padded x ⊖ padded y) (padded z) (omega (arith, length-padded z)) ∙ a in
    let c : length (x ⊖ y ⊕ z) ≡ n = moved_long x y z n p q r in
    padded_of (padded x ⊖ padded y ⊕ padded z) (x ⊖ y ⊕ z) b (omega arith) λ i.
    omega (
      arith,
      get_d-⊕ (padded x ⊖ padded y) (padded z) i,
      get_d-⊖ (padded x) (padded y) i,
      get_d-⊕ (x ⊖ y) z i,
      get_d-⊖ x y i,
      at-padded x (omega arith) i,
      at-padded y (omega arith) i,
      at-padded z (omega arith) i,
    )
