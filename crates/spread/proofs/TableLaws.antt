-- A table that follows the binomial rule is the table of the spreads: the rule is one test, computed over all entries, and an induction over n and k carries it to each.
use mathlib.Core.Path.{refl, sym, ◌∙◌}
use mathlib.Core.Bool.{Bool}
use mathlib.Core.List.{List}
use Prim.Native.Nat.{ℕ, zero, suc, ◌+◌, ◌≤◌}
use native.Mathlib.Omega.{arith}
use lib.Dec.{T, eqb, eqb→eq}
use Rattle.eos.specs.Firing.{all_below}
use Rattle.eos.specs.Spread.{spread}
use Rattle.eos.proofs.FiringLaws.{all_below-at}
use Rattle.eos.proofs.SpreadLaws.{spread_none, spread_more}
use Rattle.spread.specs.Table.{entry_of, SpreadTable}

-- ---- the binomial rule: the table against itself, since the binomial of the last entry would take 5 · 10¹¹ sums

-- one way to share no token, none among no racks, else the entry before and the entry above added up
abbrev pub rule_at : List (List ℕ) → ℕ → ℕ → Bool
rule_at t zero k = eqb (entry_of t zero k) 1
rule_at t (suc n) zero = eqb (entry_of t (suc n) zero) 0
rule_at t (suc n) (suc k) = eqb (entry_of t (suc n) (suc k)) (entry_of t (suc n) k + entry_of t n (suc k))

abbrev pub ruled : List (List ℕ) → Bool
ruled t = all_below 32 (λ n. all_below 17 (rule_at t n))

-- ---- from the rule to each entry

module _ (t : List (List ℕ)) (test : T (ruled t)) where
  rule_at_lem : (n k : ℕ) → n ≤ 31 → k ≤ 16 → T (rule_at t n k)
  rule_at_lem n k few some = all_below-at 17 (rule_at t n) (all_below-at 32 (λ n. all_below 17 (rule_at t n)) test n (omega arith)) k (omega arith)

  pub holds_spreads : SpreadTable t
  unfolding SpreadTable
  holds_spreads zero k few some = eqb→eq _ _ (rule_at_lem zero k few some) ∙ sym (spread_none k)
  holds_spreads (suc n) zero few some = eqb→eq _ _ (rule_at_lem (suc n) zero few some) ∙ unfold spread in refl
  holds_spreads (suc n) (suc k) few some =
      eqb→eq _ _ (rule_at_lem (suc n) (suc k) few some)
      ∙ rw (holds_spreads (suc n) k few (omega arith), holds_spreads n (suc k) (omega arith) some, spread_more n k)
