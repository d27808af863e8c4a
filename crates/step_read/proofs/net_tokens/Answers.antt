use Prim.Native.Nat.{ℕ}
use mathlib.Core.Path.{refl}
use mathlib.Core.List.{map}
use native.Mathlib.Omega.{arith}
use Rattle.text.proofs.Basics.{handed_on}
use Rattle.text.specs.Bytes.{Text}
use Rattle.text.specs.Lines.{Outcome}
use Rattle.text_reader.proofs.LoopLaws.{filling, begins, ends, stops, turns, of_many}
use Rattle.eos.specs.Counted.{Counted}
use Rattle.eos.specs.Model as eos
use Rattle.marking.specs.Held.{Sizes, as_sizes, hold_line}
use Rattle.marking.specs.Reading.{limits, read_net_token}
use Rattle.step.proofs.TokenLoop.{lay, first_held, still_refused}
use Rattle.step_read.proofs.net_tokens.Goals as goal

-- the reading of one line, by its index
abbrev one : Sizes → Text → ℕ → ℕ → Outcome (Counted eos.NetToken)
one z s i at = read_net_token (limits 256 65535) z s at

pub loop-i-init : goal.loop-i-init
loop-i-init c = let a = c.args in begins hold_line lay (one (as_sizes a.z.now)) a.n a.r.now a.room.now

pub returns-in_err-room : goal.returns-in_err-room
returns-in_err-room c =
    let a = c.args in
    let l = c.loop-i in
    let f = one (as_sizes a.z.now) in
    rw (handed_on _ c.from_residual.ensures.1)
    (still_refused (filling hold_line lay a.room.now) (map hold_line) _ _
    (of_many (filling hold_line lay a.room.now) (f a.r.now.src.now 0) a.n a.r.now.at
    (stops hold_line lay f a.n a.r.now a.room.now l.i l.room l.r l.invariant c.loop-i-test.true _ _ c.in_err-room.ensures)))

pub loop-i-preserved : goal.loop-i-preserved
loop-i-preserved c =
    let a = c.args in
    let l = c.loop-i in
    turns hold_line lay (one (as_sizes a.z.now)) a.n a.r.now a.room.now l.i l.room l.r l.invariant c.loop-i-test.true _ c.in_ok-room.field-0 _ c.in_ok-room.ensures refl

pub returns : goal.returns
returns c =
    let a = c.args in
    let l = c.loop-i in
    let f = one (as_sizes a.z.now) in
    first_held a.room.now (f a.r.now.src.now 0) a.n a.r.now.at _ _ l.room (omega (arith, c.requires, c.told-room))
    (of_many (filling hold_line lay a.room.now) (f a.r.now.src.now 0) a.n a.r.now.at
    (ends hold_line lay f a.n a.r.now a.room.now l.i l.room l.r l.invariant c.loop-i-test.false))
