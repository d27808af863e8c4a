-- What a held marking stands for, whatever the range of its counts, which an array of 16-bit numbers does not tell.
use mathlib.Core.Path.{◌≡◌, refl, sym}
use mathlib.Core.List.{List, [], ◌∷◌, map}
use mathlib.Core.Bool.{Bool, true}
use native.Mathlib.Omega.{arith}
use lib.Dec.{T}
use lib.ListN.{length}
use Prim.Native.Nat.{ℕ}
use Rattle.text.proofs.Basics.{and_true}
use Rattle.text.specs.Lines.{every}
use Rattle.text.proofs.TestLaws.{and_both}
use Rattle.eos.specs.Multiset as M
use Rattle.eos.specs.Model as eos
use Rattle.eos.specs.Firing.{Step, after}
use Rattle.eos.proofs.MultisetLaws.{every_append, every_part, less_part}
use Rattle.eos.proofs.FiringLaws.{alike, count-canonical}
use Rattle.model.specs.Limits.{room_limit}
use Rattle.marking.specs.Tokens.{tokens_in, Kept}
use Rattle.marking.specs.Held.{Sizes, Roomy, hold_token, lines_of, tokens_of, held_marking}
use Rattle.marking.specs.Reading.{Limits, free, right_net_token}
use Rattle.marking.specs.declared.Marking.{Marking}
use Rattle.marking.proofs.HeldOrder.{All}
use Rattle.marking.proofs.HoldMarking.{right_is, is_right, all_right, held_tested, spelt_is, tested_right}
use Rattle.marking.proofs.RightTokens.{right_one, spelt_right}

-- ---- the net-tokens of a held marking

-- they are kept, and are those that stand for net-tokens of the model
pub record Stands (z : Sizes) (k : Marking) : Type 0 where
  pub kept : Kept k
  pub held_are : tokens_in k ≡ map hold_token (tokens_of z k)
  pub right : every (right_net_token free z) (lines_of z k) ≡ true

pub held_stands : (z : Sizes) → Roomy z → (k : Marking) → length k.entries ≡ room_limit → held_marking room_limit z k ≡ true → Stands z k
held_stands z roomy k long h =
    let t = held_tested z k long h in
    record { kept = t.kept; held_are = sym (spelt_is z roomy k t); right = tested_right z roomy k t }

module _ (z : Sizes) (k : Marking) (st : Stands z k) where
  pub stands_all : Roomy z → All z (tokens_of z k)
  unfolding tokens_of
  stands_all roomy = all_right free z roomy (lines_of z k) st.right

  pub stands_right : T (M.every (right_one free.counts z) (tokens_of z k))
  unfolding tokens_of
  stands_right = spelt_right free z (lines_of z k) st.right

-- ---- the net-tokens after a step

-- where no range is asked, all counts are in it
any_counts : (l : List ℕ) → every free.counts l ≡ true
any_counts [] = refl
any_counts (v ∷ l) = any_counts l

-- lines right for some range are right for any
pub any_range : (lim : Limits) (z : Sizes) (ls : eos.Lines) → every (right_net_token lim z) ls ≡ true → every (right_net_token free z) ls ≡ true
any_range lim z [] h = refl
any_range lim z (l ∷ ls) h =
    let p = and_true (right_net_token lim z l) _ h in
    let r = right_is lim z l p.0 in
    let t = r.token in
    and_both (right_net_token free z l) _
    (is_right free z l (record { token = record { place = t.place; size = t.size; counts = any_counts l.one.inside }; some = r.some; times = refl }))
    (any_range lim z ls p.1)

-- what holds of the marking's net-tokens and of those given holds of those after
pub after-every : (f : eos.NetToken → Bool) (t : Step) (μ : eos.Marking) → M.Within eos.like t.taken μ → T (M.every f μ) → T (M.every f t.given)
    → T (M.every f (eos.canonical (after t μ)))
after-every f t μ w h g =
    let rest : T (M.every f (M.less eos.like μ t.taken)) =
    every_part eos.like alike f (M.less eos.like μ t.taken) μ (less_part eos.like alike t.taken μ w) h in
    let all : T (M.every f (after t μ)) = every_append f (M.less eos.like μ t.taken) t.given rest g in
    every_part eos.like alike f (eos.canonical (after t μ)) (after t μ) (λ x. omega (arith, count-canonical x (after t μ))) all
