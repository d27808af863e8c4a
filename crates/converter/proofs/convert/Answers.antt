-- `convert` meets its contract: a model that is not held, an event that cannot be replaced, or the model with `alone`.
use mathlib.Core.Path.{◌≡◌, sym, ap₂, ◌∙◌}
use mathlib.Core.Bool.{true}
use borrow.Author.Rules.{rules}
use Prim.Native.Nat.{◌<◌}
use Rattle.model.specs.Test.{held_model}
use Rattle.std.specs.Prelude.{Ok}
use Rattle.converter.proofs.ConvertLaws.{unheld, found, found_none, found_within}
use Rattle.converter.proofs.convert.Goals as goal
use Rattle.converter.proofs.convert.Goals.{Else-not-is_held}

-- the model passed its test
passed : (c : Else-not-is_held) → held_model c.args.model.now ≡ true
passed c = sym c.is_held.ensures ∙ c.if-not-is_held.false

pub returns-then-not-is_held : goal.returns-then-not-is_held
returns-then-not-is_held c = sym (unheld _ (sym c.is_held.ensures ∙ c.if-not-is_held.true))

pub unreplaced-requires : goal.unreplaced-requires
unreplaced-requires c = passed (goal.at.unreplaced-requires c).Else-not-is_held

pub overflow_add-result : goal.overflow_add-result
overflow_add-result c =
    let few : c.in-Some.event < 64 = found_within _ (passed (goal.at.overflow_add-result c).Else-not-is_held) _ c.in-Some.ensures in
    search rules

pub returns-in-Some : goal.returns-in-Some
returns-in-Some c = found _ (passed (goal.at.returns-in-Some c).Else-not-is_held) _ c.in-Some.ensures

pub returns : goal.returns
returns c =
    let e = c.converted-model.ensures in
    ap₂ {C = _} (λ m n. Ok (record { model = m; numbers = n })) e.model e.numbers ∙ found_none _ (passed (goal.at.returns c).Else-not-is_held) c.in_default.ensures
