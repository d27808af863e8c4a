-- A weight file is accepted exactly where it is the printed text of weights for every place of the model, each within 01's limit.
use Prim.Native.Nat.{ℕ}
use mathlib.Core.Path.{◌≡◌, refl, ap, sym, ◌∙◌, subst, fun_ext}
use mathlib.Core.Logic.{◌↔◌}
use mathlib.Core.Bool.{true, ◌&&◌}
use mathlib.Core.List.{[]}
use native.Mathlib.Omega.{arith}
use native.Mathlib.Nat.{zero-add}
use lib.Dec.{eqb}
use lib.ListN.{length, get_or, get_or-eq_default}
use borrow.Author.Tests.{eqb-true}
use Rattle.text.specs.declared.Cause.TheVariants.{Syntax}
use Rattle.text.specs.Bytes.{Text, bytes}
use Rattle.text.proofs.Basics.{and_true}
use Rattle.text.specs.Lines.{got, need, every, modest}
use Rattle.text.specs.Printed.{weights_text}
use Rattle.text.proofs.TestLaws.{and_both, every_at-at}
use Rattle.text.proofs.Exactly.{Exactly, then-then}
use Rattle.text.proofs.LinesExactly.{head_exactly, weights_exactly}
use Rattle.text.proofs.ManyExactly.{many_at_exactly}
use Rattle.text.proofs.ChainExactly.{exactly_by, first_makes, last_makes}
use Rattle.eos.specs.Model as eos
use Rattle.eos.specs.Weights.{Weights, Shaped}
use Rattle.model.specs.Limits.{weight_limit}
use Rattle.model.proofs.SlotLaws.{by_index}
use Rattle.keeper.specs.Printed.{weight_file_text}
use Rattle.reader.proofs.EndLaws.{ended, whole_printed, whole_exactly}
use Rattle.keeper.specs.Reading.{read_inner, read_weights_at, read_weight_file, right_inner, right_weights}
use Rattle.keeper.specs.Parts.{read_outer, read_weight_lines}
use Rattle.keeper.proofs.ChainLaws.{blocks_are_lines}

module _ (m : eos.Model) where
  pub inner_exactly : (s : Text) (n : ℕ) → Exactly s (read_inner m s n) (weights_text (bytes "inner=")) (right_inner m n)
  unfolding read_inner right_inner
  inner_exactly s n = weights_exactly (bytes "inner=") (eos.net m n).size (modest weight_limit) s

  lines_exactly : (s : Text) → Exactly s (read_weight_lines m s) weight_file_text (right_weights m)
  unfolding weight_file_text right_weights read_weight_lines read_outer need
  lines_exactly s =
      subst (λ f. Exactly s f weight_file_text (right_weights m)) (sym (fun_ext (λ at. then-then _ _ _)))
      (exactly_by
      (first_makes (head_exactly (bytes "inv=1\n") s)
      (λ v. first_makes (weights_exactly (bytes "outer=") (eos.places m) (modest weight_limit) s)
      (λ o. last_makes (many_at_exactly s (read_inner m s) (weights_text (bytes "inner=")) (right_inner m) (inner_exactly s) 0 (length m.nets))
      (λ i. true) Syntax (λ i. record { outward = o; inward = i }) (λ w. w.inward) (λ i h. refl))
      (λ w. w.outward) (λ o w h r. ap (λ (w : Weights). w.outward) r.2))
      (λ w. tt) (λ v w h r. refl))
      (λ w h. and_both (eqb (length w.outward) (eos.places m) && every (modest weight_limit) w.outward) _ h.1.0 h.1.1.0)
      (λ w h.
      let p = and_true (eqb (length w.outward) (eos.places m) && every (modest weight_limit) w.outward) _ h in
      (refl, (p.0, (p.1, refl, refl)))))

  -- what is read from a position on is right
  pub weights_are_right : (s : Text) (at : ℕ) (w : Weights) (x : ℕ) → read_weights_at m s at ≡ got w x → right_weights m w ≡ true
  weights_are_right s at w x e = ((lines_exactly s).back at w x (ended (read_weight_lines m s at) s w x (blocks_are_lines m s at ∙ e)).0).fine-is

  -- what is accepted is the printed text of right weights
  pub weights_were_printed : (s : Text) (w : Weights) (x : ℕ) → read_weight_file m s ≡ got w x → (s ≡ weight_file_text w) × (right_weights m w ≡ true)
  weights_were_printed s w x e = whole_printed (read_weight_lines m) weight_file_text (right_weights m) lines_exactly s w x (blocks_are_lines m s 0 ∙ e)

  -- a weight file is accepted with weights exactly where it is their printed text and they are right
  pub weights_read_what_they_say : (s : Text) (w : Weights) → (read_weight_file m s ≡ got w (length s)) ↔ ((s ≡ weight_file_text w) × (right_weights m w ≡ true))
  weights_read_what_they_say s w = rw (← (blocks_are_lines m s 0)) (whole_exactly (read_weight_lines m) weight_file_text (right_weights m) lines_exactly s w)

  -- right weights have the model's shape
  pub right_shaped : (w : Weights) → right_weights m w ≡ true → Shaped m w
  unfolding right_weights right_inner
  right_shaped w h =
      let p = and_true (eqb (length w.outward) (eos.places m) && every (modest weight_limit) w.outward) _ h in
      let q = and_true (eqb (length w.inward) (length m.nets)) _ p.1 in
      let long = eqb-true (length w.inward) (length m.nets) q.0 in
      record {
        outward = eqb-true (length w.outward) (eos.places m) (and_true (eqb (length w.outward) (eos.places m)) _ p.0).0;
        inward = long;
        each = λ n.
            by_index (length w.inward) n
            (λ k.
            let r = rw (zero-add n) at (every_at-at (right_inner m) w.inward 0 n [] q.1 k) in
            eqb-true (length (get_or w.inward n [])) (eos.net m n).size (and_true (eqb (length (get_or w.inward n [])) (eos.net m n).size) _ r).0)
            (λ k. rw (get_or-eq_default w.inward [] k, get_or-eq_default m.nets eos.no_net {n = n} (omega arith)));
      }
