-- Net-tokens that leave the system: an event takes some of a net and gives none (02, K2). 000 forbids such moves by its typing; in 004 they are
-- ordinary, and what they ask is its emptiness constraint (section 7).
use Rattle.std.specs.Prelude.{◌≡◌, ◌≤◌, ◌<◌, ℕ, suc, List, get_or}
use Rattle.eos.specs.Multiset as M
use Rattle.eos.specs.Model.{NetToken, Marking, like, Event, Model, type_of}
use Rattle.eos.specs.Firing.{inner, pre, post, outer_of, inner_of}

-- a side has a place that net n types
abbrev pub HasPlace : Model → ℕ → List ℕ → Type 0
HasPlace m n side = (p : ℕ) × (type_of m p ≡ suc n) × (0 < get_or side p 0)

-- a net-token of net n is among these
abbrev pub HasToken : Model → ℕ → Marking → Type 0
HasToken m n μ = (t : NetToken) × (1 ≤ M.count like t μ) × (type_of m t.place ≡ suc n)

-- pre(τ̂) has a place of net n, and post(τ̂) has none: N ∈ d(•τ̂) and N ∉ d(τ̂•)
pub record Loses (m : Model) (e : Event) (n : ℕ) : Type 0 where
  pub taking : HasPlace m n (outer_of pre m e)
  pub giving : HasPlace m n (outer_of post m e) → ⊥

-- net-tokens of net n are taken and none is given; at every place of the net, what the taken hold together is what pre_N(θ(N)) takes, and
-- post_N(θ(N)) is 0
pub record LeaveEmpty (m : Model) (e : Event) (taken given : Marking) (n : ℕ) : Type 0 where
  pub some : HasToken m n taken
  pub none : HasToken m n given → ⊥
  pub emptied : (i : ℕ) → get_or (inner m n taken) i 0 ≡ get_or (inner_of pre m e n) i 0
  pub nothing : (i : ℕ) → get_or (inner_of post m e n) i 0 ≡ 0
