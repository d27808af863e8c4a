-- Sums of rows of arcs, number by number.
use Prim.Native.Nat.{ℕ, zero, suc, ◌+◌, ◌-◌, ◌*◌, ◌≤◌, ◌<◌}
use mathlib.Core.Path.{◌≡◌, refl, ap, sym, ◌∙◌}
use mathlib.Core.List.{List, [], ◌∷◌, append-nil}
use native.Mathlib.Omega.{arith}
use native.Mathlib.Nat.{mul-le-mul}
use native.Mathlib.Numerals.{add-one}
use lib.ListN.{length, set, replicate}
use Rattle.eos.specs.Vector.{◌⊕◌, times}
use Rattle.eos.proofs.VectorLaws.{get_d-⊕}
use Rattle.eos.proofs.VectorSums.{length-times, nth-times}
use Rattle.model.specs.Rules.{nth}
use Rattle.text.specs.Repeat.{fill}
use Rattle.text.specs.Answers.{padded}
use Rattle.text.proofs.PaddedLaws.{padded-is}
use lib.Seq.{ext_get_or}
use Rattle.model.specs.Held.{no_row, put_at, tabled, row, listed}
use Rattle.step.specs.RuleParts.{sum_rows}

-- of two vectors of the same length
pub length-⊕ : (x y : List ℕ) → length x ≡ length y → length (x ⊕ y) ≡ length x
length-⊕ [] y e = sym e
length-⊕ (a ∷ x) [] e = refl
length-⊕ (a ∷ x) (b ∷ y) e = ap suc (length-⊕ x y (omega arith))

-- one number of a sum with a row
pub plus_at : (v row : List ℕ) (count k : ℕ) → nth v k + count * nth row k ≡ nth (v ⊕ times count row) k
plus_at v row count k = sym (get_d-⊕ v (times count row) k ∙ ap (λ (n : ℕ). nth v k + n) (nth-times count row k))

pub length_plus : (v row : List ℕ) (count : ℕ) → length v ≡ 32 → length row ≡ 32 → length (v ⊕ times count row) ≡ 32
length_plus v row count e h = length-⊕ v (times count row) (e ∙ sym (length-times count row ∙ h)) ∙ e

-- a count of 0 adds nothing
pub plus_none : (v row : List ℕ) (count : ℕ) → length v ≡ 32 → length row ≡ 32 → count ≡ 0 → v ≡ v ⊕ times count row
plus_none v row count e h z =
    ext_get_or 0 v (v ⊕ times count row) (e ∙ sym (length_plus v row count e h)) (λ k p.
    let n : nth v k ≡ nth v k + count * nth row k = rw z (omega arith) in
    n ∙ plus_at v row count k)

-- a product of two bytes
pub bytes_product : (a b : ℕ) → a ≤ 255 → b ≤ 255 → a * b ≤ 65025
bytes_product a b p q = mul-le-mul p q

-- a list below a bound stays there when a number below it is stored
pub set_below : (f : ℕ → ℕ) (l : List ℕ) (k x : ℕ) → ((i : ℕ) → nth l i ≤ f i) → x ≤ f k → (i : ℕ) → nth (set l k x) i ≤ f i
set_below f [] k x h p i = h i
set_below f (a ∷ l) zero x h p zero = p
set_below f (a ∷ l) zero x h p (suc i) = h (suc i)
set_below f (a ∷ l) (suc k) x h p zero = h 0
set_below f (a ∷ l) (suc k) x h p (suc i) = set_below (λ j. f (suc j)) l k x (λ j. h (suc j)) p i

-- ---- rows added up

module _ (count : ℕ → ℕ) (rows : ℕ → List ℕ) where
  pub sum_next : (t n : ℕ) (v w : List ℕ) → t < n → w ≡ v ⊕ times (count t) (rows t) → sum_rows count rows (t + 1) (n - (t + 1)) w ≡ sum_rows count rows t (n - t) v
  unfolding sum_rows
  sum_next t n v w h e =
      let k : n - t ≡ suc (n - (t + 1)) = omega arith in
      rw (k, e, add-one t)

  pub sum_done : (t n : ℕ) (v : List ℕ) → n ≤ t → sum_rows count rows t (n - t) v ≡ v
  unfolding sum_rows
  sum_done t n v h =
      let k : n - t ≡ 0 = omega arith in
      rw k

-- ---- the numbers of net after net laid in their rows

pub whole_row : (v : List ℕ) → length v ≡ 32 → padded v ≡ v
whole_row v e =
    let z : 32 - length v ≡ 0 = omega arith in
    padded-is v (omega arith) ∙ rw z (append-nil v)

-- the rows of the nets from n on are laid
pub nets_begin : (l : List (List ℕ)) → fill (put_at padded) 0 l (replicate 8 no_row) ≡ tabled row 8 l
unfolding tabled
nets_begin l = refl

module _ (f : ℕ → List ℕ) where
  pub nets_next : (n nets : ℕ) (rows : List (List ℕ)) (row : List ℕ) → n < nets → length (f n) ≡ 32 → row ≡ f n
      → fill (put_at padded) (n + 1) (listed f (n + 1) (nets - (n + 1))) (set rows n row) ≡ fill (put_at padded) n (listed f n (nets - n)) rows
  unfolding fill
  nets_next n nets rows row h w e =
      let k : nets - n ≡ suc (nets - (n + 1)) = omega arith in
      rw (k, e, add-one n)
      (ap (λ (v : List ℕ). fill (put_at padded) (suc n) (listed f (suc n) (nets - suc n)) (set rows n v)) (sym (whole_row (f n) w)))

  pub nets_done : (n nets : ℕ) (rows : List (List ℕ)) → nets ≤ n → fill (put_at padded) n (listed f n (nets - n)) rows ≡ rows
  unfolding fill
  nets_done n nets rows h =
      let k : nets - n ≡ 0 = omega arith in
      rw k
