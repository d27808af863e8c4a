-- With which faults the lines of net-tokens are refused.
use Prim.Native.Nat.{ℕ}
use Rattle.text.specs.Bytes.{Text, bytes}
use Rattle.text.specs.declared.Fault.{Fault}
use Rattle.text.specs.declared.Cause.TheVariants.{Crowded}
use Rattle.text.proofs.Refusals.{Refuses, ManyFaults, made_refuses, many_refuses}
use Rattle.text.proofs.ManyWithin.{WithinFaults, within_refuses}
use Rattle.text.proofs.LinesRefused.{TokenFaults, NumberThen, token_refuses, number-then}
use Rattle.eos.specs.Counted.{spelt}
use Rattle.marking.specs.Held.{Sizes, has_room}
use Rattle.marking.specs.Reading.{Limits, line_token, read_net_token, read_block, read_start, right_net_token}
use Rattle.marking.specs.Printed.{net_token_text}
use Rattle.marking.proofs.BlockExactly.{room_fronts, room_none, net_token_exactly}

module _ (s : Text) (lim : Limits) (z : Sizes) where
  -- of the line of net-tokens: those of a token's line
  abbrev pub NetTokenFaults : ℕ → Fault → Type 0
  NetTokenFaults = TokenFaults s (bytes "token=") z.places z.size lim.counts lim.times

  -- of the line of key and a number, and of that many lines of net-tokens
  abbrev pub BlockFaults : Text → ℕ → Fault → Type 0
  BlockFaults key = NumberThen s key lim.lines λ n. ManyFaults s net_token_text (λ i. NetTokenFaults) (λ i. right_net_token lim z) 0 n

  -- of those of a start: the same, or 12 at the first line whose net-tokens, with those of the lines before it, have no room
  abbrev pub StartFaults : ℕ → ℕ → Fault → Type 0
  StartFaults room =
      NumberThen s (bytes "start=") lim.lines λ n.
      WithinFaults s net_token_text NetTokenFaults (right_net_token lim z) (λ ls. has_room room (spelt ls)) Crowded n

module _ (lim : Limits) (z : Sizes) (s : Text) where
  pub net_token_refuses : Refuses (read_net_token lim z s) (NetTokenFaults s lim z)
  unfolding read_net_token
  net_token_refuses = made_refuses (token_refuses (bytes "token=") z.places z.size lim.counts lim.times s) line_token

  pub block_refuses : (key : Text) → Refuses (read_block key lim z s) (BlockFaults s lim z key)
  unfolding read_block
  block_refuses key = number-then key lim.lines s (λ n. many_refuses (net_token_exactly lim z s) net_token_refuses n)

  pub start_refuses : (room : ℕ) → Refuses (read_start room lim z s) (StartFaults s lim z room)
  unfolding read_start
  start_refuses room =
      number-then (bytes "start=") lim.lines s
      (λ n. within_refuses (net_token_exactly lim z s) (λ ls. has_room room (spelt ls)) Crowded (room_fronts room) net_token_refuses (room_none room) n)
