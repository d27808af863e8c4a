-- `lines` holds the events that are read: what is read from the first on is what is read from here on, behind the events laid. Nothing
-- that they depend on moves.
use mathlib.Core.Path.{◌≡◌}
use Rattle.model.specs.Held.{hold_event}
use Rattle.model.specs.Test.{frame_in}
use Rattle.model_text.specs.Reading.{read_event}
use Rattle.model_text.proofs.EventLaws.{lay_event, with_listed, emptied}
use Rattle.text_reader.proofs.LoopLaws.{Going}
use Rattle.model_events.proofs.lines.Given as goal

abbrev pub invariant-loop-i : goal.invariant-loop-i
invariant-loop-i l =
    (l.m ≡ with_listed l.fn.m l.fn.m.listed l.m.events) × Going hold_event lay_event (λ s _ at. read_event (frame_in l.fn.m) s at) l.n l.fn.r (emptied l.fn.m) l.i l.m l.r
