-- `enough` compares two rows. The loop's invariant: all that were compared were enough, and what is still to come decides.
use mathlib.Core.Path.{◌≡◌}
use mathlib.Core.Bool.{◌&&◌}
use lib.ListN.{length}
use Rattle.eos.specs.Vector.{le_v}
use Rattle.step_projections.proofs.nets.enough.Given as goal

abbrev pub invariant-loop-ask : goal.invariant-loop-ask
invariant-loop-ask l =
    (goal.iterator-loop-ask).can_next l.ask-iterator
    × (goal.iterator-loop-ask).is_finite l.ask-iterator
    × (length l.ask-iterator.a.rest.now ≡ length l.ask-iterator.b.rest.now)
    × (le_v l.asked l.held ≡ (l.all && le_v l.ask-iterator.a.rest.now l.ask-iterator.b.rest.now))
