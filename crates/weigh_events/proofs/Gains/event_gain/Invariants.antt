-- `event_gain` is a sum. The loop's invariant: what is added up is the gain of the move and those of the first n nets.
use Prim.Native.Nat.{◌+◌, ◌*◌, suc}
use mathlib.Core.Path.{◌≡◌}
use lib.IntN.{pos, neg_ℤ, ◌+ℤ◌}
use lib.Signed.{◌≤ℤ◌}
use Rattle.eos.specs.Weights.{dot}
use Rattle.model.specs.Acts.{move_in}
use Rattle.model.specs.Held.{row_at}
use Rattle.weigh.specs.Sums.{total, move_gain}
use Rattle.weigh_events.proofs.Gains.event_gain.Given as goal

abbrev pub invariant-loop-n : goal.invariant-loop-n
invariant-loop-n l =
    (l.sum ≡ move_gain (row_at l.self.rows 0) (move_in l.e.kind l.e.index) +ℤ total l.n (λ n. dot (row_at l.self.rows (suc n)) (row_at l.e.sync n)))
    × (neg_ℤ (pos (l.n * 1121484747571200 + 137436856320)) ≤ℤ l.sum)
    × (l.sum ≤ℤ pos (l.n * 1121484747571200 + 137436856320))
