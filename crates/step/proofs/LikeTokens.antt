-- Held net-tokens are like exactly where those are that they stand for, so that what a marking lacks is lacking where it is held.
use Prim.Native.Nat.{ℕ, zero, suc, ◌-◌, ◌≤◌}
use mathlib.Core.Path.{◌≡◌, refl, ap₂}
use mathlib.Core.Bool.{Bool, true, cond}
use mathlib.Core.List.{[], ◌∷◌, map}
use mathlib.Core.Option.{Option, some}
use native.Mathlib.Omega.{arith}
use lib.Dec.{T, leb}
use lib.ListN.{length}
use Rattle.eos.specs.Multiset as M
use Rattle.eos.specs.Counted.{ones, total}
use Rattle.eos.specs.Model as eos
use Rattle.eos.specs.Causes.{lacking}
use Rattle.eos.proofs.Basics.{and_l, and_r}
use Rattle.model.specs.Rules.{under, right_plant}
use Rattle.model.proofs.RuleLaws.{right_is, right_type}
use Rattle.marking.specs.Tokens.{like, all_counted}
use Rattle.marking.specs.Held.{Sizes, hold_token, hold_line, sizes_of}
use Rattle.marking.proofs.HeldOrder.{Fitting, All, none, more}
use Rattle.marking.proofs.CountLaws.{like-held, count-held}
use Rattle.step.specs.Verdict.{lacking_lines}
use Rattle.step.proofs.SidesHeld.{net-small}
use Rattle.step.proofs.ProjectionLaws.{fit}

module _ (header : ℕ) (m : eos.Model) (right : right_plant (under header m) ≡ true) where
  size_small : (d : ℕ) → d ≤ length m.nets → eos.size_of m d ≤ 32
  size_small zero h = omega arith
  size_small (suc n) h = net-small _ m right n h

  -- a net-token of the model fits its room
  fitting : (t : eos.NetToken) → T (eos.proper m t) → Fitting (sizes_of m) t
  fitting t h =
      let f = fit m t h in
      let k = size_small (eos.type_of m t.place) (right_type _ (right_is _ right) t.place f.place) in
      let e : suc t.place - 1 ≡ t.place = omega arith in
      record { size = rw e f.size; room = omega (arith, f.size) }

  pub all_fit : (μ : eos.Marking) → T (M.every (eos.proper m) μ) → All (sizes_of m) μ
  all_fit [] h = none
  all_fit (t ∷ μ) h =
      more (fitting t (and_l (eos.proper m t) (M.every (eos.proper m) μ) h)) (all_fit μ (and_r (eos.proper m t) (M.every (eos.proper m) μ) h))

module _ (z : Sizes) where
  total_held : (t : eos.NetToken) (ls : eos.Lines) → Fitting z t → All z (ones ls) → total like (hold_token t) (all_counted (map hold_line ls)) ≡ total eos.like t ls
  total_held t [] f none = refl
  total_held t (l ∷ ls) f (more g a) = rw (like-held z t l.one f g, total_held t ls f a)

  pub lacking_held : (μ : eos.Marking) (i : ℕ) (seen ls : eos.Lines) → All z μ → All z (ones seen) → All z (ones ls)
      → lacking_lines (map hold_token μ) i (map hold_line seen) (map hold_line ls) ≡ lacking μ i seen ls
  lacking_held μ i seen [] a b none = refl
  lacking_held μ i seen (l ∷ ls) a b (more f c) =
      ap₂ (λ (x : Bool) (y : Option ℕ). cond x y (some i))
      (ap₂ leb (total_held l.one (l ∷ seen) f (more f b)) (count-held z l.one μ f a))
      (lacking_held μ (suc i) (l ∷ seen) ls a (more f b) c)
