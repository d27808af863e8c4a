-- A step is read exactly where it is printed and right.
use Prim.Native.Nat.{ℕ, suc, ◌-◌}
use mathlib.Core.Path.{◌≡◌, refl, sym, ap, subst, ◌∙◌, fun_ext}
use mathlib.Core.Bool.{true}
use native.Mathlib.Omega.{arith}
use lib.Dec.{ltb}
use borrow.Author.Tests.{ltb-true, lt-ltb}
use Rattle.text.specs.Bytes.{Text, bytes}
use Rattle.text.proofs.Basics.{and_true}
use Rattle.text.specs.Lines.{Outcome, got, then, need, in_range, read_number}
use Rattle.text.proofs.TestLaws.{and_both, within-is, is_within}
use Rattle.text.proofs.Exactly.{Exactly, then-then}
use Rattle.text.proofs.LinesExactly.{number_exactly}
use Rattle.text.proofs.ChainExactly.{exactly_by, first_makes, last_makes}
use Rattle.eos.specs.Firing.{Written}
use Rattle.marking.specs.Held.{Sizes}
use Rattle.marking.specs.Reading.{Limits, read_block, right_block}
use Rattle.marking.proofs.BlockExactly.{block_exactly}
use Rattle.step.specs.Reading.{read_taking, read_step, right_step}
use Rattle.step.specs.Printed.{step_text}
use Rattle.text.specs.declared.Cause.TheVariants.{Syntax}

module _ (lim : Limits) (z : Sizes) (events : ℕ) (s : Text) where
  -- an event's number, from 1, found again from its index
  event_again : (v e : ℕ) → in_range 1 events v ≡ true → v - 1 ≡ e → v ≡ suc e
  event_again v e h k = let w = within-is 1 events v h in omega (arith, w.0)

  index_again : (e : ℕ) → suc e - 1 ≡ e
  index_again e = omega arith

  again : (t : Written) → record { event = suc t.event - 1; taken = t.taken; given = t.given } ≡ t
  again t = λ i. record { event = index_again t.event i; taken = t.taken; given = t.given }

  -- the lines of a step one after the other
  abbrev pub in_aRow : ℕ → Outcome Written
  in_aRow at =
      then (read_number (bytes "fire=") (in_range 1 events) s at) λ e x₁.
      then (read_block (bytes "take=") lim z s x₁) λ taken x₂.
      then (read_block (bytes "give=") lim z s x₂) λ given x₃.
      got (record { event = e - 1; taken = taken; given = given }) x₃

  pub in_a_row : in_aRow ≡ read_step lim z events s
  unfolding read_step read_taking then
  in_a_row =
      fun_ext (λ at.
      let fire = read_number (bytes "fire=") (in_range 1 events) s at in
      sym (then-then fire _ _ ∙ ap (then fire) (fun_ext (λ e. fun_ext (λ x. then-then (read_block (bytes "take=") lim z s x) _ _)))))

  pub step_exactly : Exactly s (read_step lim z events s) step_text (right_step lim z events)
  unfolding step_text right_step need
  step_exactly =
      subst (λ (f : ℕ → Outcome Written). Exactly s f step_text (right_step lim z events)) in_a_row
      (exactly_by
      (first_makes (number_exactly (bytes "fire=") (in_range 1 events) s)
      (λ v. first_makes (block_exactly lim z s (bytes "take="))
      (λ taken. last_makes (block_exactly lim z s (bytes "give=")) (λ given. true) Syntax
      (λ given. record { event = v - 1; taken = taken; given = given }) (λ t. t.given) (λ given h. refl))
      (λ t. t.taken) (λ taken t h r. ap (λ (t : Written). t.taken) r.2))
      (λ t. suc t.event) (λ v t h r. event_again v t.event h (ap (λ (t : Written). t.event) r.1.2)))
      (λ t h.
      let w = within-is 1 events (suc t.event) h.0 in
      and_both (ltb t.event events) _ (lt-ltb t.event events w.1) (and_both (right_block lim z t.taken) _ h.1.0 h.1.1.0))
      (λ t h.
      let p = and_true (ltb t.event events) _ h in
      let q = and_true (right_block lim z t.taken) _ p.1 in
      (is_within 1 events (suc t.event) (omega arith) (ltb-true t.event events p.0), (q.0, (q.1, refl, again t)))))
