-- The loop's invariant: what is added up, with the product of what is still to come, is the product of all.
use Prim.Native.Nat.{◌*◌}
use Rattle.std.proofs.Common.{length, map}
use Rattle.std.specs.List.{All}
use Rattle.weigh.proofs.DotLaws.{Adding}
use Rattle.weigh.proofs.dot.Given as goal

abbrev pub invariant-loop-factor : goal.invariant-loop-factor
invariant-loop-factor g l =
    (goal.iterator-loop-factor g).can_next l.factor-iterator
    × (goal.iterator-loop-factor g).is_finite l.factor-iterator
    × Adding (g.F.Factor.limit * g.C.Count.limit) (map g.F.Factor.number l.factors) (map g.C.Count.count l.counts) l.sum (length l.yielded)
    (map g.F.Factor.number l.factor-iterator.a.rest.now) (map g.C.Count.count l.factor-iterator.b.rest.now)
    × All g.F.Factor.within l.factor-iterator.a.rest.now
