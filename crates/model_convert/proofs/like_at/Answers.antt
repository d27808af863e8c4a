-- `like_at` is the theory's, of events as they are held.
use borrow.Author.Rules.{rules}
use mathlib.Core.Path.{◌∙◌}
use mathlib.Core.List.{[]}
use mathlib.Core.Bool.{◌&&◌}
use Rattle.std.proofs.Common.{tests}
use Rattle.std.proofs.lemmas.Iterator.{YieldsList-from_slice}
use Rattle.std.proofs.lemmas.Iterator.Search.{any_from_yields_List}
use Rattle.eos.specs.Converting.{idles_at, alike}
use Rattle.model.specs.Acts.{act_of}
use Rattle.model.specs.declared.Event.{Event}
use Rattle.model_convert.specs.Converting.{whole, bare}
use Rattle.model_convert.proofs.LikeLaws.{like_found}
use Rattle.model_convert.proofs.like_at.Goals as goal

pub returns : goal.returns
returns c =
    let a = c.args in
    any_from_yields_List (λ (d : Event). idles_at a.q (act_of d.kind d.index) && alike (bare a.types.now []) (whole d) (whole a.e.now)) _ _ c.any.result c.any.ensures.ran
    (YieldsList-from_slice a.events.now cc) (λ x b q k. search (rules, tests))
    ∙ like_found a.types.now a.events.now (whole a.e.now) a.q
