-- The first index at which a test fails: as it is looked for, and what it is.
use Prim.Native.Nat.{ℕ, zero, suc, ◌+◌, ◌-◌, ◌<◌, ◌≤◌}
use mathlib.Core.Path.{◌≡◌, refl, ◌∙◌}
use mathlib.Core.Bool.{Bool, true, false, cond}
use mathlib.Core.Option.{none, some}
use native.Mathlib.Omega.{arith}
use native.Mathlib.Nat.{add-zero}
use native.Mathlib.Numerals.{add-one}
use Rattle.eos.specs.Causes.{failing}

-- ---- as it is looked for, from n on
module _ (d n : ℕ) (f : ℕ → Bool) where
  failing-step : n < d → failing (d - n) n f ≡ cond (f n) (failing (d - (n + 1)) (n + 1) f) (some n)
  failing-step h =
      let e : d - n ≡ suc (d - (n + 1)) = omega arith in
      rw (e, add-one n)

  pub failing_on : n < d → f n ≡ true → failing (d - n) n f ≡ failing (d - (n + 1)) (n + 1) f
  failing_on h e = failing-step h ∙ rw e

  pub failing_here : n < d → f n ≡ false → failing (d - n) n f ≡ some n
  failing_here h e = failing-step h ∙ rw e

  pub failing_end : d ≤ n → failing (d - n) n f ≡ none
  failing_end h = let e : d - n ≡ 0 = omega arith in rw e

-- ---- what it is

-- the one before which all pass
pub failing_first : (d n : ℕ) (f : ℕ → Bool) (k : ℕ) → k < d → ((i : ℕ) → i < k → f (n + i) ≡ true) → f (n + k) ≡ false → failing d n f ≡ some (n + k)
failing_first zero n f k h p q = absurd (omega arith)
failing_first (suc d) n f zero h p q = rw (add-zero n) (rw (rw (add-zero n) at q))
failing_first (suc d) n f (suc k) h p q =
    let e : n + suc k ≡ suc n + k = omega arith in
    let here : f n ≡ true = rw (add-zero n) at (p 0 (omega arith)) in
    rw (here, e)
    (failing_first d (suc n) f k (omega arith) (λ i r. let c : suc n + i ≡ n + suc i = omega arith in rw c (p (suc i) (omega arith))) (rw e at q))

-- none, where all pass
pub failing_none : (d n : ℕ) (f : ℕ → Bool) → ((i : ℕ) → i < d → f (n + i) ≡ true) → failing d n f ≡ none
failing_none zero n f p = refl
failing_none (suc d) n f p =
    let here : f n ≡ true = rw (add-zero n) at (p 0 (omega arith)) in
    rw here (failing_none d (suc n) f (λ i r. let c : suc n + i ≡ n + suc i = omega arith in rw c (p (suc i) (omega arith))))

-- the same for two tests that agree
pub failing_same : (d n : ℕ) (f g : ℕ → Bool) → ((i : ℕ) → i < n + d → f i ≡ g i) → failing d n f ≡ failing d n g
failing_same zero n f g h = refl
failing_same (suc d) n f g h = rw (h n (omega arith), failing_same d (suc n) f g (λ i k. h i (omega arith)))
