-- `events_held` is the test of all events.
use borrow.Author.Rules.{rules}
use mathlib.Core.Path.{◌∙◌}
use Rattle.std.proofs.lemmas.Iterator.{YieldsList-from_slice}
use Rattle.std.proofs.lemmas.Iterator.Consumers.{YieldsList-from_enumerate}
use Rattle.std.proofs.lemmas.Iterator.Search.{all_from_yields_List}
use Rattle.model.specs.Held.{no_event}
use Rattle.model.specs.Test.{frame_with, event_is}
use Rattle.model.proofs.RuleLoops.{all_in_array}
use Rattle.model_test.proofs.Frame.events_held.Goals as goal

pub returns : goal.returns
returns c =
    let f = c.args.self.now in
    let m = f.model.now in
    all_from_yields_List _ _ _ _ c.all.ensures.ran (YieldsList-from_enumerate (YieldsList-from_slice m.events cc) cc) (λ x b q k. search rules)
    ∙ all_in_array no_event (event_is (frame_with m f.steps) m.listed) m.events 64 (search rules)
