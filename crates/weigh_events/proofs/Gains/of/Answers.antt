use Prim.Native.Nat.{◌+◌}
use mathlib.Core.Path.{◌≡◌}
use mathlib.Core.List.{[]}
use native.Mathlib.Omega.{arith}
use native.Mathlib.Numerals.{add-one}
use borrow.Author.Rules.{rules}
use lib.ListN.{length}
use Rattle.model.specs.Held.{no_net}
use Rattle.model.specs.declared.ObjectNet.{ObjectNet}
use Rattle.model.proofs.HeldTestLoops.{at_any}
use Rattle.weigh.proofs.NumberLaws.{row_numbers}
use Rattle.weigh.proofs.GainLaws.{laid_none, laid_next, laid_done}
use Rattle.weigh_events.proofs.Gains.of.Goals as goal

-- what the code reads past the last net
abbrev outside : ObjectNet
outside = record { places = 0; transitions = 0; pre = []; post = [] }

pub loop-n-init : goal.loop-n-init
loop-n-init g c =
    let row = row_numbers g.W.Factor.number c.args.weights.now 0 [] (search rules) in
    laid_none _ _ _ (rw (← row) at c.gain_row.ensures)

pub loop-n-preserved : goal.loop-n-preserved
loop-n-preserved g c =
    let l = c.loop-n in
    let long : length c.args.m.now.objects ≡ 8 = search rules in
    let same = at_any c.args.m.now.objects l.n outside no_net (omega arith) in
    let row = row_numbers g.W.Factor.number c.args.weights.now (l.n + 1) [] (search rules) in
    laid_next _ _ _ _ _ l.invariant (omega arith) (rw (same, ← row, add-one l.n) at c.gain_row-in-loop-n.ensures)

pub returns-clause-rows : goal.returns-clause-rows
returns-clause-rows g c =
    let l = c.loop-n in
    let e : l.n ≡ c.args.m.now.nets = omega arith in
    laid_done _ _ _ (rw e at l.invariant)
