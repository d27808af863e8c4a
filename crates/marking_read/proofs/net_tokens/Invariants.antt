-- `net_tokens` holds the net-tokens that are read: those of as many lines as were read, and the reading goes on from here.
use Rattle.marking.specs.Held.{as_sizes}
use Rattle.marking.specs.Reading.{limits}
use Rattle.marking.proofs.BlockLaws.{Going}
use Rattle.marking_read.proofs.net_tokens.Given as goal

abbrev pub invariant-loop : goal.invariant-loop
invariant-loop l = Going (limits 256 65535) (as_sizes l.z) l.room l.n l.fn.r l.counter l.marking l.r
