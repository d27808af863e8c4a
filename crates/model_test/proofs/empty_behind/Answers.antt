-- `empty_behind` is `empty_past` at one width for all used rows.
use Prim.Native.Nat.{ℕ}
use mathlib.Core.Path.{ap, ◌∙◌}
use lib.ListN.{replicate}
use Rattle.model.specs.Rules.{nth}
use Rattle.model.specs.Test.{empty_past, used_in}
use Rattle.model.proofs.HeldTestLoops.{one_width}
use Rattle.model_test.proofs.empty_behind.Goals as goal

pub returns : goal.returns
returns c =
    let a = c.args in
    c.empty_past.ensures ∙ ap (λ (rows : ℕ). empty_past rows (used_in a.n (nth (replicate 32 a.width))) a.table.now) c.told-table ∙ one_width _ _ _
