-- `first_unbalanced` meets its contract: an event that gains something, and none before it does.
use borrow.Author.Rules.{rules}
use mathlib.Core.Path.{◌∙◌}
use mathlib.Core.Bool.{not}
use Rattle.std.proofs.Common.{tests}
use Rattle.std.proofs.lemmas.Iterator.{YieldsList-from_slice}
use Rattle.std.proofs.lemmas.Iterator.Search.{position_from_yields_List}
use Rattle.std.proofs.lemmas.Iterator.Adapters.{serves_from_places}
use Rattle.model.specs.Held.{no_event}
use Rattle.model.specs.declared.Event.{Event}
use Rattle.model.proofs.HeldTestLoops.{at_any}
use Rattle.eos.specs.Weights.{is_zero}
use Rattle.weigh.specs.Sums.{ActIn, event_gain}
use Rattle.weigh.proofs.GainLaws.{first_failing}
use Rattle.weigh_events.proofs.Gains.first_unbalanced.Goals as goal

pub position-requires-clause-callable : goal.position-requires-clause-callable
position-requires-clause-callable c =
    serves_from_places (YieldsList-from_slice c.args.events.now (cc)) (λ x q r. search rules)
    (λ x k h e. let act : ActIn x.now = rw (e, at_any c.args.events.now k x.now no_event h) (c.requires k h) in search rules)

pub returns : goal.returns
returns c =
    let g = c.args.self.now in
    let events = c.args.events.now in
    let test : Event → _ = λ e. not (is_zero (event_gain g.nets e g.rows)) in
    position_from_yields_List test _ _ _ c.position.ensures.ran (YieldsList-from_slice events (cc)) (λ x b q k. search (rules, tests))
    ∙ first_failing (λ (e : Event). is_zero (event_gain g.nets e g.rows)) no_event events
