-- What the line of a net-token says.
use Rattle.std.specs.Prelude.{ℕ, List}

-- the place's number, from 1, and the counts
pub record Token : Type 0 where
  pub place : ℕ
  pub counts : List ℕ
  -- how many net-tokens the line stands for: n of `*n` behind it, else 1 (02, K7)
  pub times : ℕ
