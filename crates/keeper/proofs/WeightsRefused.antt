-- With which faults a weight file is refused: those of its first line that is not as it should be, and 2 where bytes stand behind its lines.
use Prim.Native.Nat.{ℕ, ◌+◌, ◌≤◌}
use mathlib.Core.Path.{◌≡◌, refl}
use mathlib.Core.Logic.{◌↔◌}
use mathlib.Core.Option.{Option, none, some}
use native.Mathlib.Omega.{arith}
use borrow.Author.Tests.{leb-true, le-leb}
use mathlib.Core.Bool.{true, ◌&&◌}
use lib.Dec.{leb, eqb}
use lib.IntN.{ℤ}
use lib.ListN.{length}
use Rattle.text.specs.Bytes.{Text, bytes}
use Rattle.text.specs.Lines.{Outcome, got, bad, spot_of, every, modest}
use Rattle.text.specs.Repeat.{every_at}
use Rattle.text.specs.Printed.{weights_text, texts}
use Rattle.text.specs.declared.Fault.{Fault}
use Rattle.text.specs.declared.Spot.{Spot}
use Rattle.text.proofs.Basics.{by_test}
use Rattle.text.proofs.LinesExactly.{weights_exactly}
use Rattle.text.proofs.ManyExactly.{many_at_exactly}
use Rattle.text.proofs.Refusals.{Refuses, ThenFaults, ManyFaults, then_refuses, many_at_refuses}
use Rattle.text.proofs.LinesRefused.{WeightsFaults, HeadThen, weights_refuses, head_then}
use Rattle.eos.specs.Model as eos
use Rattle.eos.specs.Weights.{Weights, weigh, WeightCause, weight_refusal, unbalanced, weightless}
use Rattle.model.specs.Limits.{longest, cover_limit}
use Rattle.model.specs.Held.{model_of}
use Rattle.model.specs.declared.Model.{Model}
use Rattle.marking.specs.Held.{tokens_of}
use Rattle.marking.specs.Sizes.{sizes_for}
use Rattle.marking.specs.declared.Marking.{Marking}
use Rattle.reader.specs.Answers.{held_both}
use Rattle.reader.proofs.TextRefused.{EndFaults, end_refuses}
use Rattle.keeper.specs.Reading.{read_inner, read_weights_at, right_inner}
use Rattle.keeper.specs.Answers.{passed_weights, turned_or, judged_weights, weighed, weights_or, weight_checking}
use Rattle.keeper.proofs.WeightsReadBack.{inner_exactly}
use Rattle.std.specs.Prelude.{Err, Result}
use Rattle.keeper.specs.declared.WeightCheck.{WeightCheck}
use Rattle.keeper.specs.declared.WeightRefusal.{WeightRefusal}
use Rattle.keeper.specs.declared.WeightRefusal.TheVariants.{Unread}
use Rattle.reader.specs.declared.ReadRefusal.TheVariants.{Faulty, NotHeld, TooLong}

module _ (m : eos.Model) (s : Text) where
  -- of the weights of net n
  abbrev pub InnerFaults : ℕ → ℕ → Fault → Type 0
  InnerFaults n = WeightsFaults s (bytes "inner=") (eos.net m n).size (modest 1000)

  -- of `inv=1`, of `outer`, of each net's `inner`, and of the end
  abbrev pub WeightFileFaults : ℕ → Fault → Type 0
  WeightFileFaults =
      HeadThen s (bytes "inv=1\n")
      (ThenFaults s (weights_text (bytes "outer=")) (WeightsFaults s (bytes "outer=") (eos.places m) (modest 1000))
      (λ ws. eqb (length ws) (eos.places m) && every (modest 1000) ws) λ o.
      ThenFaults s (texts (weights_text (bytes "inner="))) (ManyFaults s (weights_text (bytes "inner=")) InnerFaults (right_inner m) 0 (length m.nets))
      (λ l. eqb (length l) (length m.nets) && every_at (right_inner m) 0 l) λ i.
      EndFaults s)

  inner_refuses : (n : ℕ) → Refuses (read_inner m s n) (InnerFaults n)
  unfolding read_inner
  inner_refuses n = weights_refuses (bytes "inner=") (eos.net m n).size (modest 1000) s

  pub weight_file_refuses : Refuses (read_weights_at m s) WeightFileFaults
  unfolding read_weights_at
  weight_file_refuses =
      head_then (bytes "inv=1\n") s
      (then_refuses (weights_exactly (bytes "outer=") (eos.places m) (modest 1000) s) (weights_refuses (bytes "outer=") (eos.places m) (modest 1000) s) (λ o.
      then_refuses (many_at_exactly s (read_inner m s) (weights_text (bytes "inner=")) (right_inner m) (inner_exactly m s) 0 (length m.nets))
      (many_at_refuses (inner_exactly m s) inner_refuses 0 (length m.nets)) (λ i.
      end_refuses s (record { outward = o; inward = i }))))

-- ---- at the call

faulty-is : {p q : Spot} → ◌≡◌ {A = Result WeightCheck WeightRefusal} (Err (Unread (Faulty q))) (Err (Unread (Faulty p))) → p ≡ q
faulty-is e = cc

-- an answer that names no fault
long≢faulty : {G : Type 0} {p : Spot} → ◌≡◌ {A = Result WeightCheck WeightRefusal} (Err (Unread TooLong)) (Err (Unread (Faulty p))) → G
long≢faulty e = let z : ◌≡◌ {A = ℕ} 0 1 = cc in absurd (omega arith)

unheld≢faulty : {G : Type 0} {p : Spot} → ◌≡◌ {A = Result WeightCheck WeightRefusal} (Err (Unread NotHeld)) (Err (Unread (Faulty p))) → G
unheld≢faulty e = let z : ◌≡◌ {A = ℕ} 0 1 = cc in absurd (omega arith)

-- weights that are judged have no faulty line
judged_names : (last : ℕ) (c : Option WeightCause) (most : ℕ) (w : Weights) (z : ℤ) (p : Spot) → turned_or last c (passed_weights most w z) ≡ Err (Unread (Faulty p)) → ⊥
unfolding turned_or
judged_names last none most w z p h = let u : ◌≡◌ {A = ℕ} 0 1 = cc in omega arith
judged_names last (some weightless) most w z p h = let u : ◌≡◌ {A = ℕ} 0 1 = cc in omega arith
judged_names last (some (unbalanced k)) most w z p h = let u : ◌≡◌ {A = ℕ} 0 1 = cc in omega arith

weighed_names : (most : ℕ) (m : eos.Model) (μ : eos.Marking) (s : Text) (o : Outcome Weights) (p : Spot) → weighed most m μ s o ≡ Err (Unread (Faulty p))
    → (e : Fault) × (o ≡ bad e) × (p ≡ spot_of s e)
unfolding weighed judged_weights
weighed_names most m μ s (got w x) p h = absurd (judged_names (2 + length m.nets) (weight_refusal m w) most w (weigh m w μ) p h)
weighed_names most m μ s (bad e) p h = (e, refl, faulty-is h)

-- a weight check answers a fault, by its cause and its line, exactly where model and marking are held and the text is not too long and has
-- that fault
pub weights_answers : (m : Model) (k : Marking) (s : Text) (p : Spot)
    → (weight_checking m k s ≡ Err (Unread (Faulty p)))
    ↔ ((length s ≤ longest) × (held_both m k ≡ true) × ((e : Fault) × WeightFileFaults (model_of m) s 0 e × (p ≡ spot_of s e)))
unfolding weight_checking weights_or weighed
weights_answers m k s p = (
  λ h.
      by_test (leb (length s) longest)
      (λ l.
      by_test (held_both m k)
      (λ t.
      let n = weighed_names cover_limit (model_of m) (tokens_of (sizes_for m) k) s (read_weights_at (model_of m) s 0) p (rw (l, weight_checking, t, weights_or) at h) in
      (leb-true (length s) longest l, t, (n.0, (weight_file_refuses (model_of m) s).back 0 n.0 n.1, n.2)))
      (λ t. unheld≢faulty (rw (l, weight_checking, t, weights_or) at h)))
      (λ l. long≢faulty (rw (l, weight_checking) at h)),
  λ h.
      let e = h.2 in
      rw (le-leb (length s) longest h.0, weight_checking, h.1, weights_or, (weight_file_refuses (model_of m) s).forth 0 e.0 e.1, e.2),
)
