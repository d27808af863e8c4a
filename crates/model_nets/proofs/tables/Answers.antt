use Prim.Native.Nat.{ℕ}
use mathlib.Core.Path.{refl}
use Rattle.text.proofs.Basics.{handed_on}
use Rattle.text.specs.Bytes.{Text}
use Rattle.text.specs.Lines.{Outcome}
use Rattle.text_reader.proofs.LoopLaws.{filling, begins, ends, stops, turns, as_held, of_many}
use Rattle.eos.specs.Model.{Transition}
use Rattle.model_text.specs.Reading.{read_sides}
use Rattle.model_text.specs.Answers.{hold_sides, hold_tables}
use Rattle.model_text.proofs.TransitionLines.{lay_sides, no_tables, tables_held}
use Rattle.model_nets.proofs.tables.Goals as goal

-- the reading of one transition, by its index
abbrev one : ℕ → Text → ℕ → ℕ → Outcome Transition
one size s i at = read_sides size s at

pub loop-i-init : goal.loop-i-init
loop-i-init c = begins hold_sides lay_sides _ c.args.n c.args.r.now no_tables

pub returns-in_err-pre : goal.returns-in_err-pre
returns-in_err-pre c =
    let a = c.args in
    let l = c.loop-i in
    let f = one a.size in
    rw (handed_on _ c.from_residual.ensures.1)
    (of_many hold_tables (f a.r.now.src.now 0) a.n a.r.now.at
    (as_held (filling hold_sides lay_sides no_tables) hold_tables _ tables_held
    (stops hold_sides lay_sides f a.n a.r.now no_tables l.i l.table l.r l.invariant c.loop-i-test.true _ _ c.in_err-pre.ensures)))

pub loop-i-preserved : goal.loop-i-preserved
loop-i-preserved c =
    let a = c.args in
    let l = c.loop-i in
    let f = one a.size in
    turns hold_sides lay_sides f a.n a.r.now no_tables l.i l.table l.r l.invariant c.loop-i-test.true _ _ _ c.in_ok-pre.ensures refl

pub returns : goal.returns
returns c =
    let a = c.args in
    let l = c.loop-i in
    let f = one a.size in
    of_many hold_tables (f a.r.now.src.now 0) a.n a.r.now.at
    (as_held (filling hold_sides lay_sides no_tables) hold_tables _ tables_held
    (ends hold_sides lay_sides f a.n a.r.now no_tables l.i l.table l.r l.invariant c.loop-i-test.false))
