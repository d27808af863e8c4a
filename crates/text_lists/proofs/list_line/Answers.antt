-- `list_line` meets its contract: the values are judged behind the key, and without the key there are none.
use Prim.Native.Nat.{ℕ, ◌+◌}
use mathlib.Core.Path.{◌≡◌, ap, sym, ◌∙◌}
use lib.ListN.{length}
use Rattle.text.specs.Bytes.{lf}
use Rattle.text.specs.Number.{signed_if}
use Rattle.text.specs.Lists.{list_end}
use Rattle.text.specs.Lines.{read_row}
use Rattle.text.specs.Answers.{row}
use Rattle.std.specs.declared.result.Result.TheVariants.{Err}
use Rattle.text.proofs.LineLaws.{behind-key, behind_other, kept_err, line_missing, literal_end}
use Rattle.text.proofs.ListLaws.{line_answer}
use Rattle.text_lists.proofs.list_line.Goals as goal

pub returns-in_default : goal.returns-in_default
unfolding read_row
returns-in_default g c =
    let a = c.args in
    let none : (b : ℕ) → _ = λ b e. behind_other a.key.now (list_end (signed_if g.V.Value.SIGNED) lf a.n) a.s.now a.at b (e ∙ c.literal-read.ensures) in
    kept_err (row g.V.Value.held) _ _ (ap Err c.syntax_fault.ensures ∙ line_missing _ _ _ _ _ none c.in_default.not-Ok)

pub returns : goal.returns
unfolding read_row
returns g c =
    let a = c.args in
    let k = sym c.in-Ok.is ∙ c.literal-read.ensures in
    let e : c.in-Ok.from ≡ a.at + length a.key.now = literal_end a.key.now a.s.now a.at _ k in
    (rw e at c.list_end.ensures)
    ∙ ap (line_answer g.V.Value.held a.hi a.at (a.at + length a.key.now)) (sym (behind-key a.key.now (list_end (signed_if g.V.Value.SIGNED) lf a.n) a.s.now a.at _ (rw e at k)))
