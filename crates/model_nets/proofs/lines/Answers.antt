use Prim.Native.Nat.{ℕ}
use mathlib.Core.List.{List}
use mathlib.Core.Path.{refl}
use lib.ListN.{replicate, set}
use Rattle.text.proofs.Basics.{handed_on}
use Rattle.text.specs.Bytes.{Text}
use Rattle.text.specs.Lines.{Outcome}
use Rattle.text_reader.proofs.LoopLaws.{filling, begins, ends, stops, turns, as_held, of_many}
use Rattle.eos.specs.Model as eos
use Rattle.model.specs.Held.{hold_net, hold_nets, no_net}
use Rattle.model.specs.declared.ObjectNet.{ObjectNet}
use Rattle.model_text.specs.Reading.{read_net}
use Rattle.model_nets.proofs.lines.Goals as goal

-- the reading of one net, by its index, and where it is laid
abbrev one : Text → ℕ → ℕ → Outcome eos.ObjectNet
one s i at = read_net s at

abbrev lay : ℕ → ObjectNet → List ObjectNet → List ObjectNet
lay i n t = set t i n

abbrev none : List ObjectNet
none = replicate 8 no_net

pub loop-i-init : goal.loop-i-init
loop-i-init c = rw c.empty-objects.ensures (begins hold_net lay one c.args.n c.args.r.now none)

pub returns-in_err-objects : goal.returns-in_err-objects
unfolding hold_nets
returns-in_err-objects c =
    let a = c.args in
    let l = c.loop-i in
    rw (handed_on _ c.from_residual.ensures.1)
    (of_many hold_nets (one a.r.now.src.now 0) a.n a.r.now.at
    (as_held (filling hold_net lay none) hold_nets _ (λ l. refl)
    (stops hold_net lay one a.n a.r.now none l.i l.objects l.r l.invariant c.loop-i-test.true _ _ c.in_err-objects.ensures)))

pub loop-i-preserved : goal.loop-i-preserved
loop-i-preserved c =
    let l = c.loop-i in
    turns hold_net lay one c.args.n c.args.r.now none l.i l.objects l.r l.invariant c.loop-i-test.true _ c.in_ok-objects.field-0 _ c.in_ok-objects.ensures refl

pub returns : goal.returns
unfolding hold_nets
returns c =
    let a = c.args in
    let l = c.loop-i in
    of_many hold_nets (one a.r.now.src.now 0) a.n a.r.now.at
    (as_held (filling hold_net lay none) hold_nets _ (λ l. refl) (ends hold_net lay one a.n a.r.now none l.i l.objects l.r l.invariant c.loop-i-test.false))
