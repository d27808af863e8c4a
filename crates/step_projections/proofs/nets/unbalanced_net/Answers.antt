-- `unbalanced_net` finds the first net of the range that fails.
use borrow.Author.Rules.{rules}
use mathlib.Core.Path.{refl, sym, ◌∙◌}
use mathlib.Core.Bool.{not}
use native.Mathlib.Nat.{sub-zero}
use Rattle.std.proofs.lemmas.Iterator.{YieldsList-from_range}
use Rattle.std.proofs.lemmas.Iterator.Adapters.{option_map_id}
use Rattle.std.proofs.lemmas.Iterator.Search.{find_from_yields_List}
use Rattle.step.specs.VerdictParts.{even_in}
use Rattle.step.proofs.FirstFailing.{found}
use Rattle.step_projections.proofs.nets.unbalanced_net.Goals as goal

pub returns : goal.returns
returns c =
    let a = c.args in
    let f = even_in a.made.now a.held.now a.pre.now a.post.now in
    sym (option_map_id c.find.result)
    ∙ find_from_yields_List (λ n. not (f n)) _ _ _ c.find.ensures.ran (YieldsList-from_range 0 a.nets a.nets refl (sub-zero a.nets)) (λ x b q k. search rules)
    ∙ found a.nets 0 f
