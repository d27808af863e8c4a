-- `act_gain` looks the gain of a move up.
use borrow.Author.Rules.{rules}
use lib.IntN.{pos}
use lib.ListN.{get_or}
use mir.Syntax.{w64}
use Rattle.std.proofs.lemmas.Int.{to_z-of_z}
use Rattle.weigh.specs.Sums.{move_gain}
use Rattle.weigh_events.proofs.act_gain.Goals as goal

pub returns-in-Move : goal.returns-in-Move
unfolding move_gain
returns-in-Move c = rw c.in-Move.is (to_z-of_z w64 (get_or c.args.gains.now c.in-Move.index (pos 0)) (search rules))

pub returns-in-Idle : goal.returns-in-Idle
unfolding move_gain
returns-in-Idle c = rw c.in-Idle.is

pub returns-in-Alone : goal.returns-in-Alone
unfolding move_gain
returns-in-Alone c = rw c.in-Alone.is
