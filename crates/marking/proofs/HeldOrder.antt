-- The canonical order of net-tokens is that of held ones, so sorting the ones sorts the others.
use Prim.Native.Nat.{ℕ, suc, ◌-◌, ◌≤◌}
use mathlib.Core.Path.{◌≡◌, refl, ap, sym, ◌∙◌}
use mathlib.Core.List.{List, [], ◌∷◌, ◌++◌, map}
use mathlib.Core.Bool.{Bool, true, false, cond}
use native.Mathlib.Omega.{arith}
use lib.Dec.{eqb, eqb→eq, eqb-suc-suc, leb-suc-suc}
use lib.ListN.{length, replicate}
use borrow.Author.Tests.{eq-eqb}
use Rattle.text.specs.Answers.{padded}
use Rattle.text.proofs.Basics.{by_test}
use Rattle.text.proofs.PaddedLaws.{padded-is}
use Rattle.eos.specs.Vector.{lex_v}
use Rattle.eos.specs.Multiset as M
use Rattle.eos.specs.Model as eos
use Rattle.eos.proofs.Basics.{true_is}
use Rattle.eos.proofs.OrderLaws.{sort_sorted}
use Rattle.marking.specs.Tokens.{before}
use Rattle.marking.specs.declared.NetToken.{NetToken}
use Rattle.marking.specs.Held.{Sizes, hold_token}
use Rattle.marking.proofs.TokenOrder.{held_order}

-- a net-token with as many counts as its place asks for, and no more than there is room for
pub record Fitting (z : Sizes) (t : eos.NetToken) : Type 0 where
  pub size : length t.inside ≡ z.size (suc t.place)
  pub room : length t.inside ≤ 32

pub data All (z : Sizes) : eos.Marking → Type 0 where
  none : All z []
  more : {t : eos.NetToken} {μ : eos.Marking} → Fitting z t → All z μ → All z (t ∷ μ)

pub all_append : (z : Sizes) (μ ν : eos.Marking) → All z μ → All z ν → All z (μ ++ ν)
all_append z [] ν none b = b
all_append z (t ∷ μ) ν (more f a) b = more f (all_append z μ ν a b)

lex_self : (z : List ℕ) → lex_v z z ≡ true
lex_self [] = refl
lex_self (a ∷ z) = rw (eq-eqb a a refl) (lex_self z)

-- what follows alike does not count
lex_behind : (x y z : List ℕ) → length x ≡ length y → lex_v (x ++ z) (y ++ z) ≡ lex_v x y
lex_behind [] [] z e = lex_self z
lex_behind [] (b ∷ y) z e = absurd (omega arith)
lex_behind (a ∷ x) [] z e = absurd (omega arith)
lex_behind (a ∷ x) (b ∷ y) z e = by_test (eqb a b) (λ h. rw h (lex_behind x y z (omega arith))) (λ h. rw h)

lex_padded : (x y : List ℕ) → length x ≡ length y → length x ≤ 32 → lex_v (padded x) (padded y) ≡ lex_v x y
lex_padded x y e h =
    let k : length y ≤ 32 = omega arith in
    rw (padded-is x h, padded-is y k, e) (lex_behind x y (replicate (32 - length y) 0) e)

module _ (z : Sizes) where
  pub before-held : (t u : eos.NetToken) → Fitting z t → Fitting z u → before (hold_token t) (hold_token u) ≡ eos.before t u
  before-held t u f g =
      by_test (eqb t.place u.place)
      (λ h.
      let p : t.place ≡ u.place = eqb→eq t.place u.place (true_is h) in
      let n : length t.inside ≡ length u.inside = f.size ∙ ap (λ (p : ℕ). z.size (suc p)) p ∙ sym g.size in
      rw (eqb-suc-suc t.place u.place, h) (lex_padded t.inside u.inside n f.room))
      (λ h. rw (eqb-suc-suc t.place u.place, h) (leb-suc-suc (suc t.place) u.place))

  pub all_insert : (t : eos.NetToken) (μ : eos.Marking) → Fitting z t → All z μ → All z (M.insert eos.before t μ)
  all_insert t [] f a = more f a
  all_insert t (u ∷ μ) f (more g a) = go (eos.before t u) (all_insert t μ f a)
    where
      go : (b : Bool) → All z (M.insert eos.before t μ) → All z (cond b (t ∷ u ∷ μ) (u ∷ M.insert eos.before t μ))
      go true r = more f (more g a)
      go false r = more g r

  -- a net-token put in is the held one put in
  pub map-insert : (t : eos.NetToken) (μ : eos.Marking) → Fitting z t → All z μ → map hold_token (M.insert eos.before t μ) ≡ M.insert before (hold_token t) (map hold_token μ)
  map-insert t [] f a = refl
  map-insert t (u ∷ μ) f (more g a) = go (eos.before t u) (before-held t u f g) (map-insert t μ f a)
    where
      go : (b : Bool) → before (hold_token t) (hold_token u) ≡ b → map hold_token (M.insert eos.before t μ) ≡ M.insert before (hold_token t) (map hold_token μ)
          → map hold_token (cond b (t ∷ u ∷ μ) (u ∷ M.insert eos.before t μ)) ≡ M.insert before (hold_token t) (hold_token u ∷ map hold_token μ)
      go true e r = rw e
      go false e r = rw e (ap (λ (l : List NetToken). hold_token u ∷ l) r)

  pub all_canonical : (μ : eos.Marking) → All z μ → All z (eos.canonical μ)
  all_canonical [] a = none
  all_canonical (t ∷ μ) (more f a) = all_insert t (eos.canonical μ) f (all_canonical μ a)

  -- those held of the canonical list are those held in order
  pub map-canonical : (μ : eos.Marking) → All z μ → map hold_token (eos.canonical μ) ≡ M.sort before (map hold_token μ)
  map-canonical [] a = refl
  map-canonical (t ∷ μ) (more f a) =
      map-insert t (eos.canonical μ) f (all_canonical μ a) ∙ ap (M.insert before (hold_token t)) (map-canonical μ a)

  pub held-sorted : (μ : eos.Marking) → All z μ → M.Sorted before (map hold_token (eos.canonical μ))
  held-sorted μ a = rw (map-canonical μ a) (sort_sorted before held_order (map hold_token μ))
