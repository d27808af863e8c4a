-- `add_inside` adds the counts of an entry's net-tokens to the sums of their net, and nothing of black tokens.
use Prim.Native.Nat.{◌-◌, ◌≤◌}
use mathlib.Core.Path.{◌≡◌, refl, sym, ap, ◌∙◌}
use native.Mathlib.Omega.{arith}
use lib.ListN.{length, get_or, set}
use Rattle.eos.specs.Vector.{◌⊕◌, times}
use Rattle.model.specs.Held.{row_at}
use Rattle.step.proofs.InsideLaws.{added_none, added_inside}
use Rattle.step_projections.proofs.add_inside.Goals as goal
use Rattle.step_projections.proofs.add_inside.Goals.{After-from-d}

-- the type of its place
type_is : (c : After-from-d) → c.from-d.result ≡ get_or c.args.types.now (c.args.e.now.token.place - 1) 0
type_is c = c.from-d.ensures ∙ ap (λ k. get_or c.args.types.now (k - 1) 0) c.from.ensures

pub returns-then-d-eq0 : goal.returns-then-d-eq0
returns-then-d-eq0 c =
    added_none c.args.types.now c.args.e.now 0 (sym (type_is (goal.at.returns-then-d-eq0 c).After-from-d) ∙ c.if-d-eq0.true) c.args.sums.now c.requires.3 refl

pub returns : goal.returns
returns c =
    let p = c.args.e.now.token.place - 1 in
    let d = get_or c.args.types.now p 0 in
    let is : c.from-d.result ≡ d = type_is (goal.at.returns c).After-from-d in
    let least : 1 ≤ d = omega (arith, is, c.if-d-eq0.false) in
    let g = c.add_counts.ensures in
    let row : c.add_counts.new.row ≡ row_at c.args.sums.now (d - 1) ⊕ times c.args.e.now.times c.args.e.now.token.counts = rw is at g.added in
    added_inside c.args.types.now c.args.e.now d refl c.args.sums.now c.requires.3 least (c.requires.2 p) (sym (ap length row) ∙ g.long) g.small _
    (rw is (ap (set c.args.sums.now (d - 1)) row))
