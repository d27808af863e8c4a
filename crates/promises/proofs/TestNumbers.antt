-- The tests of a step and of weights, with their numbers, are the causes of the theory, with the numbers that 01's table gives them.
use Prim.Native.Nat.{ℕ, suc, ◌+◌, ◌<◌}
use mathlib.Core.Path.{◌≡◌, refl, ap, ap₂, ◌∙◌}
use mathlib.Core.Logic.{◌⊎◌, inl, inr}
use mathlib.Core.Bool.{Bool, not}
use mathlib.Core.List.{[], ◌∷◌, map}
use mathlib.Core.Option.{some}
use native.Mathlib.Omega.{arith}
use lib.ListN.{length}
use Rattle.eos.specs.Model as eos
use Rattle.eos.specs.Firing.{Step, Written, step_of, outer_taken, outer_given, inner_taken, inner_given, after}
use Rattle.eos.specs.Causes.{Refusal, Cause, taking, giving, short, unequal, missing, crowded, first, unless, at, failing, lacking, causes, refusal}
use Rattle.eos.specs.Weights.{Weights, effect, is_zero, all_zero, weightless, unbalanced, weight_refusal}
use Rattle.eos.proofs.FirstLaws.{renamed, first_renamed, unless_renamed, at_renamed, first-each, unless-each, at_each, failing-least, lacking-within}
use Rattle.model.specs.Limits.{room_limit}
use Rattle.reader.specs.Answers.{pair}
use Rattle.marking.specs.Held.{has_room}
use Rattle.step.specs.Verdict.{cause_triple}
use Rattle.keeper.specs.Answers.{weight_cause_triple}
use Rattle.promises.specs.Numbers.{Among, step_numbers, weight_numbers, step_tests, StepBeside, weight_tests, WeightBeside}

-- ---- a step

module _ (d : eos.Model) (μ : eos.Marking) (w : Written) where
  abbrev t : Step
  t = step_of w

  abbrev e : eos.Event
  e = eos.event d t.event

  abbrev nets : ℕ
  nets = length d.nets

  abbrev numbers : Cause → Refusal
  numbers = cause_triple (length w.taken)

  tests_are : step_tests d μ w ≡ map (renamed numbers) (causes (has_room room_limit) d w μ)
  unfolding step_tests causes
  tests_are =
      ap₂ ◌∷◌ (unless_renamed numbers (outer_taken d e t.taken) taking)
      (ap₂ ◌∷◌ (unless_renamed numbers (outer_given d e t.taken t.given) giving)
      (ap₂ ◌∷◌ (at_renamed numbers short (failing nets 0 (inner_taken d e t.taken)))
      (ap₂ ◌∷◌ (at_renamed numbers unequal (failing nets 0 (inner_given d e t.taken t.given)))
      (ap₂ ◌∷◌ (at_renamed numbers missing (lacking μ 0 [] w.taken))
      (ap₂ ◌∷◌ (unless_renamed numbers (has_room room_limit (after t μ)) crowded) refl)))))

  -- the first of them is the theory's, with its number
  pub step-first : first (step_tests d μ w) ≡ renamed numbers (refusal (has_room room_limit) d w μ)
  unfolding refusal
  step-first = ap first tests_are ∙ first_renamed numbers (causes (has_room room_limit) d w μ)

  -- its number, what stands beside it, and no column
  abbrev Right : Refusal → Type 0
  Right c = Among step_numbers.tests c.number × StepBeside nets (length w.taken) c × (c.column ≡ 0)

  on_places : (b : ℕ) → (b ≡ 2) ⊎ (b ≡ 3 + length w.taken) → Right (pair 8 b)
  on_places b h = (
    inl refl,
    record {
      eight = λ _. h;
      nine = λ z. absurd (omega (arith, z));
      ten = λ z. absurd (omega (arith, z));
      eleven = λ z. absurd (omega (arith, z));
      twelve = λ z. absurd (omega (arith, z));
    },
    refl,
  )

  on_short : (n : ℕ) → n < nets → Right (pair 9 (suc n))
  on_short n h = (
    inr (inl refl),
    record {
      eight = λ z. absurd (omega (arith, z));
      nine = λ _. (omega arith, omega arith);
      ten = λ z. absurd (omega (arith, z));
      eleven = λ z. absurd (omega (arith, z));
      twelve = λ z. absurd (omega (arith, z));
    },
    refl,
  )

  on_unequal : (n : ℕ) → n < nets → Right (pair 10 (suc n))
  on_unequal n h = (
    inr (inr (inl refl)),
    record {
      eight = λ z. absurd (omega (arith, z));
      nine = λ z. absurd (omega (arith, z));
      ten = λ _. (omega arith, omega arith);
      eleven = λ z. absurd (omega (arith, z));
      twelve = λ z. absurd (omega (arith, z));
    },
    refl,
  )

  on_missing : (i : ℕ) → i < length w.taken → Right (pair 11 (3 + i))
  on_missing i h = (
    inr (inr (inr (inl refl))),
    record {
      eight = λ z. absurd (omega (arith, z));
      nine = λ z. absurd (omega (arith, z));
      ten = λ z. absurd (omega (arith, z));
      eleven = λ _. (omega arith, omega arith);
      twelve = λ z. absurd (omega (arith, z));
    },
    refl,
  )

  on_room : Right (pair 12 (3 + length w.taken))
  on_room = (
    inr (inr (inr (inr (inl refl)))),
    record {
      eight = λ z. absurd (omega (arith, z));
      nine = λ z. absurd (omega (arith, z));
      ten = λ z. absurd (omega (arith, z));
      eleven = λ z. absurd (omega (arith, z));
      twelve = λ _. refl;
    },
    refl,
  )

  pub step_right : (c : Refusal) → first (step_tests d μ w) ≡ some c → Right c
  unfolding step_tests
  step_right =
      let give = 3 + length w.taken in
      first-each Right (step_tests d μ w) (
        unless-each Right (outer_taken d e t.taken) (pair 8 2) (on_places 2 (inl refl)),
        (
          unless-each Right (outer_given d e t.taken t.given) (pair 8 give) (on_places give (inr refl)),
          (
            at_each Right (λ n. pair 9 (suc n)) (failing nets 0 (inner_taken d e t.taken))
                (λ n q. on_short n (failing-least nets (inner_taken d e t.taken) n q).within),
            (
              at_each Right (λ n. pair 10 (suc n)) (failing nets 0 (inner_given d e t.taken t.given))
                  (λ n q. on_unequal n (failing-least nets (inner_given d e t.taken t.given) n q).within),
              (
                at_each Right (λ i. pair 11 (3 + i)) (lacking μ 0 [] w.taken) (λ i q. on_missing i (lacking-within μ w.taken i q)),
                (
                  unless-each Right (has_room room_limit (after t μ)) (pair 12 give) on_room,
                  tt,
                ),
              ),
            ),
          ),
        ),
      )

-- ---- weights

module _ (last : ℕ) (d : eos.Model) (w : Weights) where
  abbrev events : ℕ
  events = length d.events

  abbrev balanced : ℕ → Bool
  balanced k = is_zero (effect d w (eos.event d k))

  pub weight_first : first (weight_tests last d w) ≡ renamed (weight_cause_triple last) (weight_refusal d w)
  unfolding weight_tests weight_refusal
  weight_first =
      ap first (
      ap₂ ◌∷◌ (unless_renamed (weight_cause_triple last) (not (all_zero w)) weightless)
      (ap₂ ◌∷◌ (at_renamed (weight_cause_triple last) unbalanced (failing events 0 balanced)) refl)
      )
      ∙ first_renamed (weight_cause_triple last) (unless (not (all_zero w)) weightless ∷ at unbalanced (failing events 0 balanced) ∷ [])

  abbrev Fit : Refusal → Type 0
  Fit c = Among weight_numbers.tests c.number × WeightBeside last events c × (c.column ≡ 0)

  pub weight_right : (c : Refusal) → first (weight_tests last d w) ≡ some c → Fit c
  unfolding weight_tests
  weight_right =
      first-each Fit (weight_tests last d w) (
        unless-each Fit (not (all_zero w)) (pair 6 last) (inl refl, record { six = λ _. refl; seven = λ z. absurd (omega (arith, z)) }, refl),
        (
          at_each Fit (λ k. pair 7 (suc k)) (failing events 0 balanced)
              (λ k q.
              let h = (failing-least events balanced k q).within in
              (inr (inl refl), record { six = λ z. absurd (omega (arith, z)); seven = λ _. (omega arith, omega (arith, h)) }, refl)),
          tt,
        ),
      )
