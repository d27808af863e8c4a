-- `replaceable` is the theory's, of events as they are held.
use borrow.Author.Rules.{rules}
use mathlib.Core.Path.{◌∙◌}
use mathlib.Core.Bool.{not, ◌||◌}
use lib.Dec.{eqb}
use Prim.Native.Nat.{ℕ}
use Rattle.std.proofs.Common.{tests}
use Rattle.std.proofs.lemmas.Iterator.{YieldsList-from_slice}
use Rattle.std.proofs.lemmas.Iterator.Consumers.{YieldsList-from_enumerate}
use Rattle.std.proofs.lemmas.Iterator.Search.{all_from_yields_List}
use Rattle.eos.specs.Converting.{like_at}
use Rattle.model.specs.Rules.{nth}
use Rattle.model.proofs.RuleLoops.{all_in_array}
use Rattle.model_convert.specs.Converting.{whole, bare}
use Rattle.model_convert.proofs.LikeLaws.{stays, at_places}
use Rattle.model_convert.proofs.replaceable.Goals as goal

pub returns-in-Idle : goal.returns-in-Idle
returns-in-Idle c =
    let a = c.args in
    let p = c.in-Idle.place in
    let test = λ (q t : ℕ). not (eqb t (nth a.types.now p)) || like_at (bare a.types.now a.events.now) (whole a.e.now) q in
    all_from_yields_List (λ (x : ℕ × ℕ). test x.0 x.1) _ _ c.all.result c.all.ensures.ran (YieldsList-from_enumerate (YieldsList-from_slice a.types.now cc) cc) (λ x b q k. search (rules, tests))
    ∙ all_in_array 0 test a.types.now 32 c.told-types ∙ at_places _ _ _ p c.in-Idle.ensures c.told-types

pub returns-in_default : goal.returns-in_default
returns-in_default c = stays _ _ _ _ c.act.ensures c.in_default.not-Idle
