-- Held net-tokens are like, and counted, as those that they stand for are.
use Prim.Native.Nat.{ℕ, suc}
use mathlib.Core.Path.{◌≡◌, refl, ap, sym, ◌∙◌}
use mathlib.Core.List.{[], ◌∷◌, map}
use lib.Dec.{eqb, eqb→eq, eqb-suc-suc}
use lib.ListN.{length}
use Rattle.text.proofs.Basics.{by_test}
use Rattle.eos.specs.Multiset as M
use Rattle.eos.specs.Model as eos
use Rattle.eos.proofs.Basics.{true_is}
use Rattle.model.proofs.PaddedRows.{eq_padded}
use Rattle.marking.specs.Tokens.{like}
use Rattle.marking.specs.Held.{Sizes, hold_token}
use Rattle.marking.proofs.HeldOrder.{Fitting, All, none, more}

module _ (z : Sizes) where
  -- they are like where those are
  pub like-held : (t u : eos.NetToken) → Fitting z t → Fitting z u → like (hold_token t) (hold_token u) ≡ eos.like t u
  like-held t u f g =
      by_test (eqb t.place u.place)
      (λ h.
      let p : t.place ≡ u.place = eqb→eq t.place u.place (true_is h) in
      let n : length t.inside ≡ length u.inside = f.size ∙ ap (λ (p : ℕ). z.size (suc p)) p ∙ sym g.size in
      rw (eqb-suc-suc t.place u.place, h) (eq_padded t.inside u.inside n f.room))
      (λ h. rw (eqb-suc-suc t.place u.place, h))

  -- one is counted as often as the other
  pub count-held : (t : eos.NetToken) (μ : eos.Marking) → Fitting z t → All z μ → M.count like (hold_token t) (map hold_token μ) ≡ M.count eos.like t μ
  count-held t [] f none = refl
  count-held t (u ∷ μ) f (more g a) = rw (like-held t u f g, count-held t μ f a)
