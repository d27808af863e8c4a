-- `empty_past` is `empty_past`: the rows behind the used rows as one part, and the unused room of each row before it.
use borrow.Author.Rules.{rules}
use Prim.Native.Nat.{ℕ, ◌-◌, ◌≤◌}
use mathlib.Core.Path.{◌≡◌, refl, sym, ap, ◌∙◌}
use mathlib.Core.List.{List}
use native.Mathlib.Omega.{arith}
use native.Mathlib.Nat.{sub-zero}
use lib.ListN.{length, take, drop, length-drop}
use Rattle.std.proofs.lemmas.List.{take_all}
use Rattle.std.proofs.lemmas.Iterator.{YieldsList-from_range}
use Rattle.std.proofs.lemmas.Iterator.Search.{all_from_yields_List}
use Rattle.text.specs.Lines.{every}
use Rattle.model.specs.Rules.{nth}
use Rattle.model.specs.Test.{empty, empty_at}
use Rattle.model.proofs.RuleLoops.{all_same}
use Rattle.model.proofs.HeldTestLoops.{and_no, and_yes, past_rows}
use Rattle.model_test.proofs.empty_past.Goals as goal

-- the rows from the n-th on, lent with their end
behind : (table : List (List ℕ)) (n : ℕ) → every empty (take (length table - n) (drop n table)) ≡ every empty (drop n table)
behind table n =
    let few : length (drop n table) ≤ length table - n = omega (arith, length-drop n table) in
    ap (every empty) (take_all (length table - n) (drop n table) few)

pub returns-then-rows_empty : goal.returns-then-rows_empty
returns-then-rows_empty c =
    let a = c.args in
    let rows = all_from_yields_List (empty_at (nth a.widths.now) a.table.now) _ _ _ c.all.ensures.ran (YieldsList-from_range 0 a.n a.n refl (sub-zero a.n)) (λ x b q k. search rules)
    ∙ all_same a.n _ (empty_at (nth a.widths.now) a.table.now) (λ i. refl) in
    and_yes _ _ _ (sym (c.rows_empty.ensures ∙ behind a.table.now a.n) ∙ c.if-rows_empty.true) rows
    ∙ past_rows (nth a.widths.now) a.table.now a.n (omega arith)

pub returns-else-rows_empty : goal.returns-else-rows_empty
returns-else-rows_empty c =
    let a = c.args in
    c.if-rows_empty.false ∙ and_no _ _ (sym (c.rows_empty.ensures ∙ behind a.table.now a.n) ∙ c.if-rows_empty.false)
    ∙ past_rows (nth a.widths.now) a.table.now a.n (omega arith)
