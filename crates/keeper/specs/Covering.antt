-- Weights that cover for so many net-tokens, part by part (01): all are at least 1, the sum divided by the least outer weight is at most
-- that many, and divided by each inner weight at most a count's limit, rounded down.
use Rattle.std.specs.Prelude.{ℕ, ◌/◌, ◌≤◌, ◌<◌, [], pos, nat_abs, length, get_or}
use Rattle.keeper.specs.Split.{above}
use Rattle.eos.specs.Weights.{Weights, least}
use Rattle.model.specs.Limits.{count_limit}

pub record Covering (most : ℕ) (w : Weights) (sum : ℕ) : Type 0 where
  pub outer_some : (p : ℕ) → p < length w.outward → 1 ≤ above (get_or w.outward p (pos 0))
  pub inner_some : (n i : ℕ) → n < length w.inward → i < length (get_or w.inward n []) → 1 ≤ above (get_or (get_or w.inward n []) i (pos 0))
  pub tokens : sum / least w.outward ≤ most
  pub counts : (n i : ℕ) → n < length w.inward → i < length (get_or w.inward n []) → sum / nat_abs (get_or (get_or w.inward n []) i (pos 0)) ≤ count_limit
