-- With which faults the lines of a step are refused: those of its first line that is not as it should be.
use Prim.Native.Nat.{ℕ, ◌-◌}
use mathlib.Core.Path.{subst}
use Rattle.text.specs.Bytes.{Text, bytes}
use Rattle.text.specs.Lines.{Outcome, in_range}
use Rattle.text.specs.declared.Fault.{Fault}
use Rattle.text.proofs.Refusals.{Refuses, ThenFaults, made_refuses, then_refuses}
use Rattle.text.proofs.LinesRefused.{NumberThen, number-then}
use Rattle.eos.specs.Firing.{Written}
use Rattle.marking.specs.Held.{Sizes}
use Rattle.marking.specs.Reading.{Limits, right_block}
use Rattle.marking.specs.Printed.{block_text}
use Rattle.marking.proofs.BlockExactly.{block_exactly}
use Rattle.marking.proofs.BlockRefused.{BlockFaults, block_refuses}
use Rattle.step.specs.Reading.{read_step}
use Rattle.step.proofs.StepExactly.{in_a_row}

module _ (lim : Limits) (z : Sizes) (events : ℕ) (s : Text) where
  -- of `fire` and an event, of `take` and its token lines, and of `give` and its token lines
  abbrev pub StepFaults : ℕ → Fault → Type 0
  StepFaults =
      NumberThen s (bytes "fire=") (in_range 1 events) λ e.
      ThenFaults s (block_text (bytes "take=")) (BlockFaults s lim z (bytes "take=")) (right_block lim z) λ taken.
      BlockFaults s lim z (bytes "give=")

  pub step_refuses : Refuses (read_step lim z events s) StepFaults
  step_refuses =
      subst (λ (f : ℕ → Outcome Written). Refuses f StepFaults) (in_a_row lim z events s)
      (number-then (bytes "fire=") (in_range 1 events) s (λ e.
      then_refuses (block_exactly lim z s (bytes "take=")) (block_refuses lim z s (bytes "take=")) (λ taken.
      made_refuses (block_refuses lim z s (bytes "give=")) (λ given. record { event = e - 1; taken = taken; given = given }))))
