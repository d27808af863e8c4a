-- What an engine has room for (02, K7): so many unlike net-tokens, so many alike, and counts inside up to a limit.
use Rattle.std.specs.Prelude.{Bool, ℕ, ◌≤◌, T, get_or}
use Rattle.eos.specs.Multiset as M
use Rattle.eos.specs.Counted.{fits}
use Rattle.eos.specs.Model.{NetToken, Marking, like, before}

pub record Room : Type 0 where
  pub unlike : ℕ
  pub alike : ℕ
  pub counts : ℕ

-- the test of cause 12: no more unlike net-tokens, and no more alike, than there is room for
abbrev pub has_room : Room → Marking → Bool
has_room r μ = fits before like r.unlike r.alike μ

-- each count inside is at most `counts`
abbrev pub Small : ℕ → Marking → Type 0
Small counts μ = (t : NetToken) → 1 ≤ M.count like t μ → (i : ℕ) → get_or t.inside i 0 ≤ counts

-- a marking that there is room for
pub record Fits (r : Room) (μ : Marking) : Type 0 where
  pub room : T (has_room r μ)
  pub small : Small r.counts μ
