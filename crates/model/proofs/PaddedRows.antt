-- Laws of padded rows: looking up a number does not see the padding.
use Prim.Native.Nat.{ℕ, zero, suc, ◌+◌, ◌-◌, ◌≤◌}
use mathlib.Core.Path.{◌≡◌, refl, ap, sym, ◌∙◌, fun_ext}
use mathlib.Core.List.{List, [], ◌∷◌, ◌++◌}
use mathlib.Core.Bool.{Bool, true, ◌&&◌, and_assoc}
use native.Mathlib.Omega.{arith}
use lib.Dec.{eqb}
use borrow.Author.Tests.{eqb-true, eq-eqb, leb-true}
use lib.ListN.{length, take, drop, replicate, length-replicate, length-take, take-append-drop, get_or-eq_default}
use lib.Seq.{ext_get_or, get_or-drop}
use Rattle.std.specs.List.{flat_map}
use Rattle.text.specs.Lines.{every}
use Rattle.text.specs.Answers.{padded}
use Rattle.text.proofs.Basics.{by_test, and_true}
use Rattle.text.proofs.TestLaws.{and_both}
use Rattle.text.proofs.PaddedLaws.{padded-is, at-padded, length-padded}
use Rattle.eos.specs.Vector.{eq_v}
use Rattle.eos.proofs.Basics.{is_true}
use Rattle.eos.proofs.VectorLaws.{eq_v_refl}
use Rattle.model.specs.Rules.{nth, byte}
use Rattle.model.specs.Test.{empty}

-- ---- nothing but 0

-- each number of an empty row is 0
pub empty-at : (l : List ℕ) → empty l ≡ true → (i : ℕ) → nth l i ≡ 0
empty-at [] h i = refl
empty-at (a ∷ l) h zero = eqb-true a 0 (and_true (eqb a 0) (empty l) h).0
empty-at (a ∷ l) h (suc i) = empty-at l (and_true (eqb a 0) (empty l) h).1 i

-- a row of which each number is 0 is empty
pub empty_of : (l : List ℕ) → ((i : ℕ) → nth l i ≡ 0) → empty l ≡ true
empty_of [] h = refl
empty_of (a ∷ l) h = and_both (eqb a 0) (empty l) (eq-eqb a 0 (h 0)) (empty_of l (λ i. h (suc i)))

-- zeros, looked up anywhere
pub nth-zeros : (n i : ℕ) → nth (replicate n 0) i ≡ 0
nth-zeros zero i = refl
nth-zeros (suc n) zero = refl
nth-zeros (suc n) (suc i) = nth-zeros n i

-- an empty row is one of zeros
pub empty-zeros : (l : List ℕ) (n : ℕ) → length l ≡ n → empty l ≡ true → l ≡ replicate n 0
empty-zeros l n e h = ext_get_or 0 l (replicate n 0) (e ∙ sym (length-replicate n 0)) (λ i p. empty-at l h i ∙ sym (nth-zeros n i))

-- two rows, one behind the other
empty_join : (a b : List ℕ) → empty (a ++ b) ≡ (empty a && empty b)
empty_join [] b = refl
empty_join (x ∷ a) b = rw (empty_join a b) (sym (and_assoc (eqb x 0) (empty a) (empty b)))

-- rows, one behind the other
pub empty_flat : (t : List (List ℕ)) → empty (flat_map (λ (x : List ℕ). x) t) ≡ every empty t
empty_flat [] = refl
empty_flat (r ∷ t) = empty_join r (flat_map (λ (x : List ℕ). x) t) ∙ ap (λ (b : Bool). empty r && b) (empty_flat t)

-- a row in two parts
pub empty_split : (n : ℕ) (l : List ℕ) → (empty (take n l) && empty (drop n l)) ≡ empty l
empty_split n l = sym (empty_join (take n l) (drop n l)) ∙ rw (take-append-drop n l)

-- ---- a row and its first numbers

-- what is not taken is 0, so that it is not missed
pub nth-taken : (k : ℕ) (l : List ℕ) → empty (drop k l) ≡ true → (i : ℕ) → nth (take k l) i ≡ nth l i
nth-taken zero l h i = sym (empty-at l h i)
nth-taken (suc k) [] h i = refl
nth-taken (suc k) (a ∷ l) h zero = refl
nth-taken (suc k) (a ∷ l) h (suc i) = nth-taken k l h i

-- ---- padded

-- a number is looked up in a padded row as in the row
pub nth-padded : (l : List ℕ) → length l ≤ 32 → (i : ℕ) → nth (padded l) i ≡ nth l i
nth-padded = at-padded

-- the same, of the two as functions
pub nth_padded_all : (l : List ℕ) → length l ≤ 32 → nth (padded l) ≡ nth l
nth_padded_all l h = fun_ext (nth-padded l h)

-- behind the row there is nothing but 0
pub padded_past : (l : List ℕ) (k : ℕ) → length l ≤ 32 → length l ≤ k → empty (drop k (padded l)) ≡ true
padded_past l k h p =
    empty_of (drop k (padded l)) λ i.
    get_or-drop k (padded l) i 0 ∙ nth-padded l h (k + i) ∙ get_or-eq_default l 0 (omega arith)

-- a padded row is empty where the row is
pub empty-padded : (l : List ℕ) → length l ≤ 32 → empty (padded l) ≡ empty l
empty-padded l h =
    by_test (empty l)
    (λ t. empty_of (padded l) (λ i. nth-padded l h i ∙ empty-at l t i) ∙ sym t)
    (λ t. by_test (empty (padded l)) (λ u. u ∙ sym (empty_of l (λ i. sym (nth-padded l h i) ∙ empty-at (padded l) u i))) (λ u. u ∙ sym t))

-- a row of 32 that is 0 behind its first k numbers is those, padded
pub padded-take : (k : ℕ) (l : List ℕ) → length l ≡ 32 → empty (drop k l) ≡ true → padded (take k l) ≡ l
padded-take k l e h =
    let few : length (take k l) ≤ 32 = omega (arith, length-take k l) in
    ext_get_or 0 (padded (take k l)) l (length-padded (take k l) ∙ sym e) (λ i p. nth-padded (take k l) few i ∙ nth-taken k l h i)

-- no value
pub padded_none : padded [] ≡ replicate 32 0
unfolding padded
padded_none = refl

-- each number of a row of bytes
pub small_at : (l : List ℕ) → every byte l ≡ true → (i : ℕ) → nth l i ≤ 255
small_at [] h i = omega arith
small_at (a ∷ l) h zero = leb-true a 255 (and_true (byte a) (every byte l) h).0
small_at (a ∷ l) h (suc i) = small_at l (and_true (byte a) (every byte l) h).1 i

-- ---- equality does not see the padding

-- what follows alike does not count
eq_behind : (x y z : List ℕ) → length x ≡ length y → eq_v (x ++ z) (y ++ z) ≡ eq_v x y
eq_behind [] [] z e = is_true (eq_v z z) (eq_v_refl z)
eq_behind [] (b ∷ y) z e = absurd (omega arith)
eq_behind (a ∷ x) [] z e = absurd (omega arith)
eq_behind (a ∷ x) (b ∷ y) z e = ap (λ (t : Bool). eqb a b && t) (eq_behind x y z (omega arith))

pub eq_padded : (x y : List ℕ) → length x ≡ length y → length x ≤ 32 → eq_v (padded x) (padded y) ≡ eq_v x y
eq_padded x y e h =
    let k : length y ≤ 32 = omega arith in
    rw (padded-is x h, padded-is y k, e) (eq_behind x y (replicate (32 - length y) 0) e)
