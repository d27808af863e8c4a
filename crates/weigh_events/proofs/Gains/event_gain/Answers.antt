use Prim.Native.Nat.{◌+◌, ◌*◌}
use mathlib.Core.Path.{◌≡◌, ap, ◌∙◌}
use borrow.Author.Rules.{rules}
use native.Mathlib.Omega.{arith}
use native.Mathlib.Numerals.{add-one}
use mir.Syntax.{w64}
use mir.Val.{to_z, of_z}
use Rattle.std.proofs.lemmas.Int.{ints}
use Rattle.std.proofs.lemmas.List.{map-id}
use Rattle.eos.specs.Model.{Act}
use Rattle.model.specs.Acts.{as_act, index_of, move_of}
use Rattle.model.proofs.HeldActs.{index_back}
use Rattle.model.specs.Held.{row_at}
use Rattle.weigh.specs.Sums.{move_gain, event_gain}
use Rattle.weigh.proofs.TotalLaws.{total_begins, total_further}
use Rattle.weigh.proofs.DotLaws.{sum_step, within}
use Rattle.weigh.proofs.GainLaws.{move_small, small_all}
use Rattle.weigh_events.proofs.Gains.event_gain.Goals as goal

pub act_gain-sum-requires : goal.act_gain-sum-requires
act_gain-sum-requires c =
    let e = c.args.e.now in
    omega (arith, ap index_of c.act.ensures, index_back e.kind e.index c.requires.least, c.requires.most)

pub loop-n-init : goal.loop-n-init
loop-n-init c =
    let r = c.act_gain-sum.result in
    let row = row_at c.args.self.now.rows 0 in
    let held : to_z w64 (of_z w64 r) ≡ r = omega (arith, ints) in
    let p = within (move_gain row (move_of (as_act c.act.result))) 137436856320 (move_small row (c.args.self.now.small 0) (move_of (as_act c.act.result))) in (
      rw held (c.act_gain-sum.ensures ∙ ap (λ (a : Act). move_gain row (move_of a)) c.act.ensures ∙ total_begins _ _),
      rw (held, c.act_gain-sum.ensures) p.0,
      rw (held, c.act_gain-sum.ensures) p.1,
    )

pub dot-sum-requires : goal.dot-sum-requires
dot-sum-requires c = record { few = search rules; small = small_all _ (c.args.self.now.small (c.loop-n.n + 1)) }

pub loop-n-preserved : goal.loop-n-preserved
loop-n-preserved c =
    let l = c.loop-n in
    let i = l.invariant in
    let t = c.dot-sum.ensures in
    let e = sum_step l.sum-bits (l.n * 1121484747571200 + 137436856320) 1121484747571200 c.dot-sum.result (omega (arith, c.args.self.now.few)) i.1 i.2 t.low t.high in
    let more : l.n * 1121484747571200 + 137436856320 + 1121484747571200 ≡ (l.n + 1) * 1121484747571200 + 137436856320 = omega arith in (
      rw e.0 (total_further _ _ _ l.n _ i.0 (rw (map-id, map-id, add-one l.n) at t.value)),
      rw (e.0, ← more) e.1,
      rw (e.0, ← more) e.2,
    )

pub returns : goal.returns
unfolding event_gain
returns c =
    let l = c.loop-n in
    let e : l.n ≡ c.args.self.now.nets = omega arith in
    rw e at l.invariant.0
