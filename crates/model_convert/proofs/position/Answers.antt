-- `position` is the theory's, of events as they are held.
use borrow.Author.Rules.{rules}
use mathlib.Core.Path.{◌∙◌}
use mathlib.Core.List.{[]}
use Rattle.std.proofs.lemmas.Iterator.{YieldsList-from_slice}
use Rattle.std.proofs.lemmas.Iterator.Search.{position_from_yields_List}
use Rattle.eos.specs.Converting.{alike}
use Rattle.model.specs.declared.Event.{Event}
use Rattle.model_convert.specs.Converting.{whole, bare}
use Rattle.model_convert.proofs.LikeLaws.{position_found}
use Rattle.model_convert.proofs.position.Goals as goal

pub returns : goal.returns
returns c =
    let a = c.args in
    let m = bare a.types.now [] in
    let p = position_from_yields_List (λ (d : Event). alike m (whole d) (whole a.e.now)) _ _ c.position.result c.position.ensures.ran (YieldsList-from_slice a.events.now cc) (λ x b q k. search rules) in
    rw p at c.unwrap_or.ensures ∙ position_found m (whole a.e.now) a.events.now
