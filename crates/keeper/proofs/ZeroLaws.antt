-- All weights are 0 exactly where all that is held of them is.
use Prim.Native.Nat.{ℕ, zero, suc, ◌≤◌}
use mathlib.Core.Path.{◌≡◌, ap, sym, ◌∙◌}
use mathlib.Core.List.{List, []}
use native.Mathlib.Omega.{arith}
use lib.IntN.{ℤ, pos}
use lib.ListN.{length, get_or, get_or-eq_default}
use Rattle.text.proofs.TestLaws.{every-at, every_of}
use Rattle.eos.specs.Multiset.{every}
use Rattle.eos.specs.Weights.{Weights, is_zero, all_zero}
use Rattle.model.specs.declared.Model.{Model}
use Rattle.model.proofs.SlotLaws.{by_index}
use Rattle.keeper.specs.Held.{weight_lists, weight_row, hold_weights}
use Rattle.std.specs.Cmp.{both_ways}
use Rattle.keeper.proofs.HeldRows.{Kept, few-nets, few-places, outer-long, inner-long, net-long, net-small, number_held, length_row, rows, length_rows, row_held}

-- a test that 0 passes, of every number of a row
module _ (ws : List ℤ) (few : length ws ≤ 32) where
  row_zero : every is_zero (weight_row ws) ≡ every is_zero ws
  row_zero =
      both_ways (every is_zero (weight_row ws)) (every is_zero ws)
      (λ h. every_of is_zero ws (pos 0) λ i p.
      ap is_zero (sym (number_held ws few i)) ∙ every-at is_zero (weight_row ws) i (pos 0) h (omega (arith, length_row ws)))
      (λ h. every_of is_zero (weight_row ws) (pos 0) λ i p.
      ap is_zero (number_held ws few i)
      ∙ by_index (length ws) i (λ q. every-at is_zero ws i (pos 0) h q) (λ q. ap is_zero (get_or-eq_default ws (pos 0) q)))

module _ (l : List (List ℤ)) (few : length l ≤ 9) (small : (r : ℕ) → length (get_or l r []) ≤ 32) where
  rows_zero : every (every is_zero) (rows l) ≡ every (every is_zero) l
  rows_zero =
      both_ways (every (every is_zero) (rows l)) (every (every is_zero) l)
      (λ h. every_of (every is_zero) l [] λ r p.
      sym (ap (every is_zero) (row_held l few r (omega arith)) ∙ row_zero (get_or l r []) (small r))
      ∙ every-at (every is_zero) (rows l) r [] h (omega (arith, length_rows l)))
      (λ h. every_of (every is_zero) (rows l) [] λ r p.
      ap (every is_zero) (row_held l few r (omega (arith, length_rows l))) ∙ row_zero (get_or l r []) (small r)
      ∙ by_index (length l) r (λ q. every-at (every is_zero) l r [] h q) (λ q. ap (every is_zero) (get_or-eq_default l [] q)))

module _ (m : Model) (w : Weights) (kept : Kept m w) where
  pub row_small : (r : ℕ) → length (get_or (weight_lists w) r []) ≤ 32
  row_small zero = omega (arith, outer-long m w kept, few-places m w kept)
  row_small (suc n) =
      by_index m.nets n
      (λ p. omega (arith, net-long m w kept n p, net-small m w kept n))
      (λ p. rw (get_or-eq_default w.inward [] {n = n} (omega (arith, inner-long m w kept))) (omega arith))

  -- all weights are 0, by the rows
  pub zero_is : all_zero w ≡ every (every is_zero) (hold_weights w).rows
  unfolding hold_weights
  zero_is = sym (rows_zero (weight_lists w) (omega (arith, inner-long m w kept, few-nets m w kept)) row_small)
