-- Where 01's rule of cause 5 fails, in 01's words.
use Prim.Native.Nat.{ℕ, zero, suc, ◌<◌}
use mathlib.Core.Path.{◌≡◌, refl, ap}
use mathlib.Core.List.{List}
use mathlib.Core.Bool.{Bool, true, false, not, beq, true≢false, false≢true}
use mathlib.Core.Logic.{◌↔◌, ◌⊎◌, inl, inr, ⊎_elim}
use native.Mathlib.Omega.{arith}
use lib.Dec.{eqb}
use borrow.Author.Tests.{eqb-true, eqb-false, eq-eqb}
use Rattle.text.specs.Lines.{every}
use Rattle.text.proofs.Basics.{by_test}
use Rattle.model.specs.Rules.{takes_part}

same_not : (x z : Bool) → (beq x (not z) ≡ false) ↔ (((x ≡ true) × (z ≡ true)) ⊎ ((x ≡ false) × (z ≡ false)))
same_not true true = (λ h. inl (refl, refl), λ h. refl)
same_not true false = (λ h. absurd (true≢false h), ⊎_elim (λ h. absurd (false≢true h.1)) (λ h. absurd (true≢false h.0)))
same_not false true = (λ h. absurd (true≢false h), ⊎_elim (λ h. absurd (false≢true h.0)) (λ h. absurd (true≢false h.1)))
same_not false false = (λ h. inr (refl, refl), λ h. refl)

module _ (own n : ℕ) (v : List ℕ) where
  -- an event idles in the net `own`, from 1; of this net, of index n, all counts are 0, or it is another and some are not
  abbrev pub PartFails : Type 0
  PartFails = (0 < own) × (((own ≡ suc n) × (every (λ c. eqb c 0) v ≡ true)) ⊎ ((own ≡ suc n → ⊥) × (every (λ c. eqb c 0) v ≡ false)))

-- 01: "another net's count not 0, or own counts all 0"
pub wrong_part : (own n : ℕ) (v : List ℕ) → (takes_part own n v ≡ false) ↔ PartFails own n v
unfolding takes_part
wrong_part zero n v = (λ h. absurd (true≢false h), λ h. absurd (omega (arith, h.0)))
wrong_part (suc own) n v = (
  λ h. (
    omega arith,
    ⊎_elim
        (λ k. inl (ap suc (eqb-true own n k.0), k.1))
        (λ k. inr ((λ e. eqb-false own n k.0 (omega (arith, e))), k.1))
        ((same_not (eqb own n) (every (λ c. eqb c 0) v)).0 h),
  ),
  λ h. (same_not (eqb own n) (every (λ c. eqb c 0) v)).1 (⊎_elim
      (λ k. inl (eq-eqb own n (omega (arith, k.0)), k.1))
      (λ k. inr (by_test (eqb own n) (λ t. absurd (k.0 (ap suc (eqb-true own n t)))) (λ t. t), k.1))
      h.1),
)
