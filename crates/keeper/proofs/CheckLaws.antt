-- The weight check, case by case: a text that is too long, a model or marking that is not held, a line at fault, weights that are judged.
use Prim.Native.Nat.{ℕ, ◌≤◌, ◌<◌}
use mathlib.Core.Path.{◌≡◌, refl, sym, ◌∙◌}
use native.Mathlib.Omega.{arith}
use mathlib.Core.Bool.{true, false}
use lib.ListN.{length}
use borrow.Author.Tests.{lt-leb, le-leb}
use Rattle.text.specs.Bytes.{Text}
use Rattle.text.specs.Lines.{Outcome, got, bad}
use Rattle.text.specs.Answers.{kept, accepted}
use Rattle.std.specs.declared.result.Result.TheVariants.{Ok, Err}
use Rattle.text.specs.declared.Fault.{Fault}
use Rattle.eos.specs.Weights.{Weights}
use Rattle.model.specs.Limits.{longest, cover_limit}
use Rattle.model.specs.Held.{model_of}
use Rattle.model.specs.declared.Model.{Model}
use Rattle.marking.specs.Held.{tokens_of}
use Rattle.marking.specs.declared.Marking.{Marking}
use Rattle.reader.specs.Answers.{held_both, admitted, faulty}
use Rattle.marking.specs.Sizes.{sizes_for}
use Rattle.keeper.specs.Reading.{read_weight_file}
use Rattle.keeper.specs.Held.{hold_weights}
use Rattle.keeper.specs.Answers.{judged_weights, weighed, weights_or, weight_checking}
use Rattle.keeper.specs.Parts.{Holds}
use Rattle.keeper.specs.declared.WeightCheck.{WeightCheck}
use Rattle.keeper.specs.declared.HeldWeights.{HeldWeights}
use Rattle.keeper.proofs.WeightsReadBack.{weights_are_right, right_shaped}
use Rattle.reader.specs.declared.ReadRefusal.{ReadRefusal}
use Rattle.std.specs.Prelude.{Result}
use Rattle.keeper.specs.declared.WeightRefusal.{WeightRefusal}
use Rattle.keeper.specs.declared.WeightRefusal.TheVariants.{Unread}
use Rattle.reader.specs.declared.ReadRefusal.TheVariants.{NotHeld, TooLong}
use Rattle.reader.proofs.ReadingLaws.{admitted_err, admitted_long, admitted_unheld, short_past}

-- weights that were read up to a place, as they are held
record Passed (o : Outcome Weights) (h : HeldWeights) : Type 0 where
  pub value : Weights
  pub end : ℕ
  pub is : o ≡ got value end
  pub held : h ≡ hold_weights value

passed : (o : Outcome Weights) (h : HeldWeights) → Ok h ≡ accepted (kept hold_weights o) → Passed o h
unfolding accepted kept
passed (got w x) h e = record { value = w; end = x; is = refl; held = cc }
passed (bad d) h e = let z : ◌≡◌ {A = ℕ} 0 1 = cc in absurd (omega arith)

refused : (o : Outcome Weights) (d : Fault) → Err d ≡ accepted (kept hold_weights o) → o ≡ bad d
unfolding accepted kept
refused (got w x) d e = let z : ◌≡◌ {A = ℕ} 0 1 = cc in absurd (omega arith)
refused (bad c) d e = cc

module _ (m : Model) (k : Marking) (s : Text) where
  abbrev file : Outcome Weights
  file = read_weight_file (model_of m) s

  -- the call is refused before the lines of the file
  pub check_unread : (e : ReadRefusal) → Err e ≡ admitted m k s → Err (Unread e) ≡ weight_checking m k s
  unfolding weight_checking weights_or
  check_unread e h =
      admitted_err m k s e h
      (λ p long. rw (p, lt-leb (length s) longest long, weight_checking))
      (λ p few unheld. rw (p, le-leb (length s) longest few, weight_checking, unheld))

  pub check_long : longest < length s → Err (Unread TooLong) ≡ weight_checking m k s
  check_long h = check_unread TooLong (admitted_long m k s TooLong (short_past longest s h))

  module _ (few : length s ≤ longest) where
    pub check_unheld : held_both m k ≡ false → Err (Unread NotHeld) ≡ weight_checking m k s
    check_unheld h = check_unread NotHeld (admitted_unheld m k s few h)

    module _ (held : held_both m k ≡ true) where
      pub check_bad : (d : Fault) → file ≡ bad d → weight_checking m k s ≡ Err (Unread (faulty s d))
      unfolding weight_checking weights_or weighed
      check_bad d e = rw (le-leb (length s) longest few, weight_checking, held, e)

      pub check_got : (w : Weights) (x : ℕ) → file ≡ got w x → weight_checking m k s ≡ judged_weights cover_limit (model_of m) (tokens_of (sizes_for m) k) w
      unfolding weight_checking weights_or weighed
      check_got w x e = rw (le-leb (length s) longest few, weight_checking, held, e)

      -- ---- by the answer of the lines

      pub check_stopped : (d : Fault) → Err d ≡ accepted (kept hold_weights file) → Err (Unread (faulty s d)) ≡ weight_checking m k s
      check_stopped d e = sym (check_bad d (refused file d e))

      pub check_past : (h : HeldWeights) → Ok h ≡ accepted (kept hold_weights file) → (c : Result WeightCheck WeightRefusal)
          → ((w : Weights) → Holds m w h → c ≡ judged_weights cover_limit (model_of m) (tokens_of (sizes_for m) k) w) → c ≡ weight_checking m k s
      check_past h e c is =
          let g = passed file h e in
          let right = weights_are_right (model_of m) s 0 g.value g.end g.is in
          is g.value (record { shaped = right_shaped (model_of m) g.value right; is = g.held }) ∙ sym (check_got g.value g.end g.is)
