-- The rows of nets laid over rows of which those behind them are not used: what stood in the rows of the nets is of no account.
use Prim.Native.Nat.{ℕ, suc, ◌+◌, ◌≤◌, ◌<◌}
use mathlib.Core.Path.{◌≡◌, refl, sym, ◌∙◌}
use mathlib.Core.List.{List, [], ◌∷◌}
use native.Mathlib.Omega.{arith}
use lib.ListN.{length, replicate, set, length-set, length-replicate, get_or-replicate, get_or-eq_default}
use lib.Seq.{ext_get_or, get_or-set_same, get_or-set_other}
use Rattle.text.specs.Repeat.{fill}
use Rattle.text.specs.Answers.{padded}
use Rattle.text.proofs.Basics.{by_le}
use Rattle.model.specs.Held.{no_row, put_at, tabled, row, row_at, listed}
use Rattle.model.proofs.SlotLaws.{length-listed}
use Rattle.step.specs.RuleParts.{Unused}
use Rattle.step.proofs.ArcSums.{nets_begin}

abbrev laid : ℕ → List (List ℕ) → List (List ℕ) → List (List ℕ)
laid i l rows = fill (put_at padded) i l rows

-- rows that nothing is laid over stay
stays_behind : (l : List (List ℕ)) (i k : ℕ) (rows : List (List ℕ)) → i + length l ≤ k → row_at (laid i l rows) k ≡ row_at rows k
unfolding fill
stays_behind [] i k rows h = refl
stays_behind (a ∷ l) i k rows h = stays_behind l (suc i) k (set rows i (padded a)) (omega arith) ∙ get_or-set_other rows i k (padded a) [] (λ e. omega (arith, e))

laid_long : (l : List (List ℕ)) (i : ℕ) (rows : List (List ℕ)) → length (laid i l rows) ≡ length rows
unfolding fill
laid_long [] i rows = refl
laid_long (a ∷ l) i rows = laid_long l (suc i) (set rows i (padded a)) ∙ length-set rows i (padded a)

-- over rows that are the same before and behind what is laid, it gives the same
laid_same : (l : List (List ℕ)) (i : ℕ) (t u : List (List ℕ)) → length t ≡ length u → i + length l ≤ length t → ((k : ℕ) → i + length l ≤ k → row_at t k ≡ row_at u k)
    → ((k : ℕ) → k < i → row_at t k ≡ row_at u k) → laid i l t ≡ laid i l u
unfolding fill
laid_same [] i t u long fits behind before = ext_get_or [] t u long (λ k p. by_le i k (λ h. behind k (omega (arith, h))) (λ h. before k h))
laid_same (a ∷ l) i t u long fits behind before =
    laid_same l (suc i) (set t i (padded a)) (set u i (padded a)) (length-set t i (padded a) ∙ long ∙ sym (length-set u i (padded a))) (omega (arith, length-set t i (padded a)))
    (λ k h. get_or-set_other t i k (padded a) [] (λ e. omega (arith, e)) ∙ behind k (omega arith) ∙ sym (get_or-set_other u i k (padded a) [] (λ e. omega (arith, e))))
    (λ k h.
    by_le i k
    (λ q. let e : k ≡ i = omega arith in rw e (get_or-set_same t i (padded a) [] (omega arith) ∙ sym (get_or-set_same u i (padded a) [] (omega arith))))
    (λ q. get_or-set_other t i k (padded a) [] (λ e. omega (arith, e)) ∙ before k q ∙ sym (get_or-set_other u i k (padded a) [] (λ e. omega (arith, e)))))

-- no row is used of room that is all 0
pub none_used : (n : ℕ) → Unused n (replicate 8 no_row)
none_used n = record { long = length-replicate 8 no_row; none = λ k h p. get_or-replicate 8 k no_row [] p }

module _ (f : ℕ → List ℕ) (nets : ℕ) (few : nets ≤ 8) where
  -- what is laid over rows that are not used behind it is the table of its rows
  pub laid_over : (rows : List (List ℕ)) → Unused nets rows → fill (put_at padded) 0 (listed f 0 nets) rows ≡ tabled row 8 (listed f 0 nets)
  laid_over rows u =
      laid_same (listed f 0 nets) 0 rows (replicate 8 no_row) (u.long ∙ sym (length-replicate 8 no_row)) (omega (arith, length-listed f 0 nets, u.long))
      (λ k h.
      by_le 8 k
      (λ q. get_or-eq_default rows [] (omega (arith, u.long)) ∙ sym (get_or-eq_default (replicate 8 no_row) [] (omega (arith, length-replicate 8 no_row))))
      (λ q. u.none k (omega (arith, h, length-listed f 0 nets)) q ∙ sym (get_or-replicate 8 k no_row [] q)))
      (λ k h. absurd (omega arith))
      ∙ nets_begin (listed f 0 nets)

  -- behind the table of the nets no row is used
  pub unused_behind : Unused nets (tabled row 8 (listed f 0 nets))
  unused_behind =
      rw (← (nets_begin (listed f 0 nets)))
      (record {
        long = laid_long (listed f 0 nets) 0 (replicate 8 no_row) ∙ length-replicate 8 no_row;
        none = λ k h p. stays_behind (listed f 0 nets) 0 k (replicate 8 no_row) (omega (arith, length-listed f 0 nets)) ∙ get_or-replicate 8 k no_row [] p;
      })
