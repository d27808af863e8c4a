-- The frame that the code makes of what it holds is the frame of what was read.
use Prim.Native.Nat.{ℕ, zero, suc, ◌≤◌}
use mathlib.Core.Path.{◌≡◌, refl, sym, fun_ext}
use mathlib.Core.List.{List, [], ◌∷◌}
use mathlib.Core.Bool.{Bool, true}
use native.Mathlib.Omega.{arith}
use lib.Dec.{leb, eqb}
use borrow.Author.Tests.{leb-true}
use lib.ListN.{length, get_or}
use Rattle.text.specs.Lines.{every}
use Rattle.text.specs.Answers.{padded}
use Rattle.text.proofs.Basics.{and_true}
use Rattle.eos.specs.Model as eos
use Rattle.model.specs.Rules.{nth, Frame, frame_of}
use Rattle.model.specs.Held.{no_net, hold_nets}
use Rattle.model.proofs.PaddedRows.{nth-padded}
use Rattle.model_text.specs.Reading.{eventless}
use Rattle.model.proofs.HoldModel.{steps-at}

-- ---- the number of transitions of each net

abbrev step_of : eos.ObjectNet → ℕ
step_of m = length m.transitions

-- a test that all pass is passed by each, and past the end by what stands for none
every-at : {A : Type 0} (fine : A → Bool) (d : A) → fine d ≡ true → (l : List A) → every fine l ≡ true → (k : ℕ) → fine (get_or l k d) ≡ true
every-at fine d e [] h k = e
every-at fine d e (a ∷ l) h zero = (and_true (fine a) (every fine l) h).0
every-at fine d e (a ∷ l) h (suc k) = every-at fine d e l (and_true (fine a) (every fine l) h).1 k

module _ (l : List eos.ObjectNet) (eight : length l ≤ 8) (few : every (λ m. leb (step_of m) 32) l ≡ true) (k : ℕ) where
  pub step-few : (get_or (hold_nets l) k no_net).transitions ≤ 32
  step-few = omega (arith, steps-at l k eight, leb-true _ 32 (every-at (λ m. leb (step_of m) 32) eos.no_net refl l few k))

-- ---- the frame

frame_same : (h : Bool) (p q k n m : ℕ) (t u x y : ℕ → ℕ) → p ≡ q → n ≡ m → t ≡ u → x ≡ y
    → ◌≡◌ {A = Frame} (record { alone = h; places = p; moves = k; nets = n; type = t; steps = x })
    (record { alone = h; places = q; moves = k; nets = m; type = u; steps = y })
frame_same h p q k n m t u x y a b c d = rw (a, b, c, d)

module _ (header : ℕ) (types : List ℕ) (places : ℕ) (long : length types ≡ places) (few : places ≤ 32) where
  types-nth : nth (padded types) ≡ nth types
  types-nth = fun_ext (nth-padded types (omega (arith, long, few)))

  pub frame_is : (moves : List eos.Transition) (l : List eos.ObjectNet) (nets : ℕ) → length l ≡ nets → nets ≤ 8
      → record { alone = eqb header 2; places = places; moves = length moves; nets = nets; type = nth (padded types); steps = λ n. (get_or (hold_nets l) n no_net).transitions }
      ≡ frame_of (eventless header types moves l)
  frame_is moves l nets many eight =
      frame_same (eqb header 2) places (length types) (length moves) nets (length l) (nth (padded types)) (nth types)
      (λ n. (get_or (hold_nets l) n no_net).transitions) (λ n. step_of (get_or l n eos.no_net))
      (sym long) (sym many) types-nth (fun_ext λ i. steps-at l i (omega (arith, many, eight)))
