-- `net_tokens` lays the net-tokens that are read: what is read from the first on is what is read from here on, behind those laid.
use Rattle.marking.specs.Held.{as_sizes, hold_line}
use Rattle.marking.specs.Reading.{limits, read_net_token}
use Rattle.step.proofs.TokenLoop.{lay}
use Rattle.text_reader.proofs.LoopLaws.{Going}
use Rattle.step_read.proofs.net_tokens.Given as goal

abbrev pub invariant-loop-i : goal.invariant-loop-i
invariant-loop-i l = Going hold_line lay (λ s _ at. read_net_token (limits 256 65535) (as_sizes l.z) s at) l.n l.fn.r l.fn.room l.i l.room l.r
