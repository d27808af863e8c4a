-- Lines of net-tokens are refused with 2 or 3 alone, and those of a start with 12 too.
use Prim.Native.Nat.{ℕ}
use mathlib.Core.List.{[]}
use Rattle.text.specs.Bytes.{Text, bytes}
use Rattle.text.specs.Lines.{read_number}
use Rattle.text.specs.TokenLine.{read_token}
use Rattle.text.specs.declared.Cause.TheVariants.{Crowded}
use Rattle.text.proofs.FaultLaws.{Faults, then_faults, many_faults, within_faults, number_faults, token_faults}
use Rattle.eos.specs.Counted.{spelt}
use Rattle.marking.specs.Held.{Sizes, has_room}
use Rattle.marking.specs.Reading.{Limits, read_net_token, read_block, read_start}

module _ (P : ℕ → Type 0) (two : P 2) (three : P 3) (lim : Limits) (z : Sizes) (s : Text) where
  net_token_faults : (at : ℕ) → Faults P (read_net_token lim z s at)
  unfolding read_net_token
  net_token_faults at =
      then_faults P (read_token (bytes "token=") z.places z.size lim.counts lim.times s at) _
      (token_faults P two three (bytes "token=") z.places z.size lim.counts lim.times s at) (λ t x. tt)

  pub block_faults : (key : Text) (at : ℕ) → Faults P (read_block key lim z s at)
  unfolding read_block
  block_faults key at =
      then_faults P (read_number key lim.lines s at) _ (number_faults P two three key lim.lines s at)
      (λ n x. many_faults P (read_net_token lim z s) net_token_faults n x)

  pub start_faults : P 12 → (room at : ℕ) → Faults P (read_start room lim z s at)
  unfolding read_start
  start_faults twelve room at =
      then_faults P (read_number (bytes "start=") lim.lines s at) _ (number_faults P two three (bytes "start=") lim.lines s at)
      (λ n x. within_faults P (λ ls. has_room room (spelt ls)) Crowded (read_net_token lim z s) twelve net_token_faults [] n x)
