use Prim.Native.Nat.{ℕ}
use mathlib.Core.Path.{refl, ap, subst}
use Rattle.std.specs.declared.result.Result.TheVariants.{Ok, Err}
use Rattle.text.proofs.Basics.{handed_on}
use Rattle.text.specs.Bytes.{Text}
use Rattle.text.specs.Lines.{Outcome}
use Rattle.text.specs.Answers.{kept}
use Rattle.text_reader.specs.Place.{Reads}
use Rattle.text_reader.proofs.LoopLaws.{filling, begins, ends, stops, turns, of_many}
use Rattle.eos.specs.Model as eos
use Rattle.model.specs.Rules.{Frame}
use Rattle.model.specs.Held.{hold_event}
use Rattle.model.specs.Test.{frame_in}
use Rattle.model.specs.declared.Model.{Model}
use Rattle.model_text.specs.Reading.{read_event}
use Rattle.model_text.proofs.EventLaws.{lay_event, emptied, events_held, events_bad}
use Rattle.model_events.proofs.lines.Goals as goal
use Rattle.model_events.proofs.lines.Goals.{At-loop-i}

-- the reading of one event, by its index
abbrev one : Model → Text → ℕ → ℕ → Outcome eos.Event
one m s i at = read_event (frame_in m) s at

pub loop-i-init : goal.loop-i-init
loop-i-init c = let a = c.args in rw c.empty-m.ensures (refl {a = emptied a.m.now}, begins hold_event lay_event (one a.m.now) a.n a.r.now (emptied a.m.now))

pub returns-in_err-m : goal.returns-in_err-m
returns-in_err-m c =
    let a = c.args in
    let l = c.loop-i in
    rw (handed_on _ c.from_residual.ensures.1)
    (events_bad a.m.now (one a.m.now a.r.now.src.now 0) a.n a.r.now.at _ _ _
    (of_many (filling hold_event lay_event (emptied a.m.now)) (one a.m.now a.r.now.src.now 0) a.n a.r.now.at
    (stops hold_event lay_event (one a.m.now) a.n a.r.now (emptied a.m.now) l.i l.m l.r l.invariant.1 c.loop-i-test.true _ _
    (subst (λ (f : Frame). Reads (kept hold_event (read_event f l.r.src.now l.r.at)) l.r c.event.new.r (Err c.in_err-m.field-0.0)) (ap frame_in l.invariant.0) c.in_err-m.ensures))))

pub loop-i-preserved : goal.loop-i-preserved
loop-i-preserved c =
    let a = c.args in
    let l = c.loop-i in (
      ap (lay_event l.i c.in_ok-m.field-0) l.invariant.0,
      turns hold_event lay_event (one a.m.now) a.n a.r.now (emptied a.m.now) l.i l.m l.r l.invariant.1 c.loop-i-test.true _ c.in_ok-m.field-0 _
          (subst (λ (f : Frame). Reads (kept hold_event (read_event f l.r.src.now l.r.at)) l.r c.event.new.r (Ok c.in_ok-m.field-0)) (ap frame_in l.invariant.0) c.in_ok-m.ensures) refl,
    )

pub returns : goal.returns
returns c =
    let a = c.args in
    let l = c.loop-i in
    events_held a.m.now (one a.m.now a.r.now.src.now 0) a.n a.r.now.at _ _ l.m
    (of_many (filling hold_event lay_event (emptied a.m.now)) (one a.m.now a.r.now.src.now 0) a.n a.r.now.at
    (ends hold_event lay_event (one a.m.now) a.n a.r.now (emptied a.m.now) l.i l.m l.r l.invariant.1 c.loop-i-test.false))
