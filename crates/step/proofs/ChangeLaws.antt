-- Held net-tokens are taken away and given as those are that they stand for. So what a marking holds, changed by a step's lines, is what the
-- marking after the step holds.
use mathlib.Core.Path.{◌≡◌, refl, ap, sym, ◌∙◌}
use mathlib.Core.List.{List, [], ◌∷◌, ◌++◌, map, map-append}
use mathlib.Core.Bool.{Bool, true, false, cond}
use Rattle.eos.specs.Multiset as M
use Rattle.eos.specs.Counted.{spelt}
use Rattle.eos.specs.Model as eos
use Rattle.eos.specs.Firing.{Written, step_of, after}
use Rattle.marking.specs.Tokens.{like, held_by}
use Rattle.marking.specs.declared.NetToken.{NetToken}
use Rattle.marking.specs.Held.{Sizes, hold_token, hold_line, hold_marking}
use Rattle.marking.proofs.HeldOrder.{Fitting, All, none, more}
use Rattle.marking.proofs.HeldBy.{spelt_held, held_by_is}
use Rattle.marking.proofs.CountLaws.{like-held}
use Rattle.step.specs.Verdict.{left_held}

module _ (z : Sizes) where
  -- ---- differences and sums

  all_without : (t : eos.NetToken) (μ : eos.Marking) → All z μ → All z (M.without eos.like t μ)
  all_without t [] none = none
  all_without t (u ∷ μ) (more g a) = go (eos.like t u) (all_without t μ a)
    where
      go : (b : Bool) → All z (M.without eos.like t μ) → All z (cond b μ (u ∷ M.without eos.like t μ))
      go true r = a
      go false r = more g r

  map-without : (t : eos.NetToken) (μ : eos.Marking) → Fitting z t → All z μ
      → map hold_token (M.without eos.like t μ) ≡ M.without like (hold_token t) (map hold_token μ)
  map-without t [] f none = refl
  map-without t (u ∷ μ) f (more g a) = go (eos.like t u) (like-held z t u f g) (map-without t μ f a)
    where
      go : (b : Bool) → like (hold_token t) (hold_token u) ≡ b → map hold_token (M.without eos.like t μ) ≡ M.without like (hold_token t) (map hold_token μ)
          → map hold_token (cond b μ (u ∷ M.without eos.like t μ)) ≡ M.without like (hold_token t) (hold_token u ∷ map hold_token μ)
      go true e r = rw e
      go false e r = rw e (ap (λ (l : List NetToken). hold_token u ∷ l) r)

  all_less : (l μ : eos.Marking) → All z μ → All z (M.less eos.like μ l)
  all_less [] μ a = a
  all_less (t ∷ l) μ a = all_less l (M.without eos.like t μ) (all_without t μ a)

  map-less : (l μ : eos.Marking) → All z l → All z μ → map hold_token (M.less eos.like μ l) ≡ M.less like (map hold_token μ) (map hold_token l)
  map-less [] μ none a = refl
  map-less (t ∷ l) μ (more f b) a =
      map-less l (M.without eos.like t μ) b (all_without t μ a) ∙ ap (λ (m : List NetToken). M.less like m (map hold_token l)) (map-without t μ f a)

  all_append : (μ ν : eos.Marking) → All z μ → All z ν → All z (μ ++ ν)
  all_append [] ν none b = b
  all_append (t ∷ μ) ν (more f a) b = more f (all_append μ ν a b)

  -- ---- the marking after a step

  module _ (w : Written) (μ : eos.Marking) (a : All z μ) (b : All z (spelt w.taken)) where
    pub left_after : left_held (map hold_token μ) (map hold_line w.taken) (map hold_line w.given) ≡ map hold_token (after (step_of w) μ)
    left_after =
        let taken = spelt w.taken in
        let given = spelt w.given in
        rw (spelt_held w.taken, spelt_held w.given)
        (ap (λ (l : List NetToken). l ++ map hold_token given) (sym (map-less taken μ b a)) ∙ sym (map-append hold_token (M.less eos.like μ taken) given))

    pub all_after : All z (spelt w.given) → All z (after (step_of w) μ)
    all_after c = all_append (M.less eos.like μ (spelt w.taken)) (spelt w.given) (all_less (spelt w.taken) μ a) c

    pub change_is : All z (spelt w.given)
        → held_by (left_held (map hold_token μ) (map hold_line w.taken) (map hold_line w.given)) ≡ hold_marking (eos.canonical (after (step_of w) μ))
    change_is c = ap held_by left_after ∙ held_by_is z (after (step_of w) μ) (all_after c)
