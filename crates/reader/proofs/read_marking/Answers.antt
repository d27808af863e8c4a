-- `read_marking` meets its contract: a text that is too long, a model that is not held, a line that is refused, or a marking.
use mathlib.Core.Path.{◌≡◌, sym, ap, ◌∙◌}
use mathlib.Core.Bool.{true}
use Rattle.text.proofs.Basics.{handed_on}
use Rattle.std.specs.Prelude.{Err}
use Rattle.model.specs.Test.{held_model}
use Rattle.reader.proofs.ReadingLaws.{short_ok, sizes_roomy, marking_long, marking_unheld, marking_refused, marking_accepted, named_ok, named_err}
use Rattle.reader.proofs.read_marking.Goals as goal
use Rattle.reader.proofs.read_marking.Goals.{Else-not-is_held}

-- the model passed its test
passed : (c : Else-not-is_held) → held_model c.args.m.now ≡ true
passed c = sym c.is_held.ensures ∙ c.if-not-is_held.false

pub returns-in_err-short : goal.returns-in_err-short
returns-in_err-short c =
    rw (handed_on _ c.from_residual.ensures.1) (marking_long _ _ _ c.in_err-short.ensures)

pub returns-then-not-is_held : goal.returns-then-not-is_held
returns-then-not-is_held c = marking_unheld _ _ (short_ok _ _ c.in_ok-short.ensures) (sym c.is_held.ensures ∙ c.if-not-is_held.true)

pub place_sizes-requires : goal.place_sizes-requires
place_sizes-requires c = passed (goal.at.place_sizes-requires c).Else-not-is_held

pub marking_lines-requires : goal.marking_lines-requires
marking_lines-requires c = sizes_roomy _ (passed (goal.at.marking_lines-requires c).Else-not-is_held) _ c.place_sizes.ensures

pub returns-in_err-named : goal.returns-in_err-named
returns-in_err-named c =
    let held = passed (goal.at.returns-in_err-named c).Else-not-is_held in
    rw (handed_on _ c.from_residual-in_err-named.ensures.1)
    (named_err _ _ c.in_err-named.ensures
    (λ d is e. ap Err e ∙ marking_refused _ _ (short_ok _ _ c.in_ok-short.ensures) held _ c.place_sizes.ensures d (rw is at c.marking_lines.ensures.read)))

pub returns : goal.returns
returns c =
    marking_accepted _ _ (short_ok _ _ c.in_ok-short.ensures) (passed (goal.at.returns c).Else-not-is_held) _ c.place_sizes.ensures _ (rw (named_ok _ _ c.in_ok-named.ensures) at c.marking_lines.ensures.read)
