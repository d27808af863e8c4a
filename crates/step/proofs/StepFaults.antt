-- The lines of a step are refused with 2 or 3 alone.
use Prim.Native.Nat.{ℕ}
use Rattle.text.specs.Bytes.{Text, bytes}
use Rattle.text.specs.Lines.{in_range, read_number}
use Rattle.text.proofs.FaultLaws.{Faults, then_faults, number_faults}
use Rattle.marking.specs.Held.{Sizes}
use Rattle.marking.specs.Reading.{Limits, read_block}
use Rattle.marking.proofs.BlockFaults.{block_faults}
use Rattle.step.specs.Reading.{read_taking, read_step}

module _ (P : ℕ → Type 0) (two : P 2) (three : P 3) (lim : Limits) (z : Sizes) (events : ℕ) (s : Text) (at : ℕ) where
  taking_faults : Faults P (read_taking lim z events s at)
  unfolding read_taking
  taking_faults =
      then_faults P (read_number (bytes "fire=") (in_range 1 events) s at) _ (number_faults P two three (bytes "fire=") (in_range 1 events) s at)
      (λ e x₁. then_faults P (read_block (bytes "take=") lim z s x₁) _ (block_faults P two three lim z s (bytes "take=") x₁) (λ taken x₂. tt))

  pub step_faults : Faults P (read_step lim z events s at)
  unfolding read_step
  step_faults =
      then_faults P (read_taking lim z events s at) _ taking_faults
      (λ t x₁. then_faults P (read_block (bytes "give=") lim z s x₁) _ (block_faults P two three lim z s (bytes "give=") x₁) (λ given x₂. tt))
