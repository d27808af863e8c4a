use Prim.Native.Nat.{ℕ}
use mathlib.Core.List.{List}
use mathlib.Core.Path.{refl}
use lib.ListN.{set, replicate}
use Rattle.text.proofs.Basics.{handed_on}
use Rattle.text.specs.Bytes.{Text}
use Rattle.text.specs.Lines.{Outcome}
use Rattle.text.specs.Answers.{padded}
use Rattle.text_reader.proofs.LoopLaws.{filling, begins, ends, stops, turns, as_held}
use Rattle.model.specs.Held.{row, no_row, tabled}
use Rattle.model.specs.Test.{frame_in}
use Rattle.model.specs.declared.Model.{Model}
use Rattle.model_text.specs.Reading.{read_sync}
use Rattle.model_events.proofs.Frame.syncs.Goals as goal

-- the reading of one net's counts, and where they are laid
abbrev one : Model → ℕ → Text → ℕ → ℕ → Outcome (List ℕ)
one m own s n at = read_sync (frame_in m) own s n at

abbrev lay : ℕ → List ℕ → List (List ℕ) → List (List ℕ)
lay i row t = set t i row

abbrev none : List (List ℕ)
none = replicate 8 no_row

pub loop-n-init : goal.loop-n-init
loop-n-init c = let a = c.args in begins padded lay (one a.self.now.model.now a.own) a.self.now.model.now.nets a.r.now none

pub returns-in_err-table : goal.returns-in_err-table
unfolding tabled
returns-in_err-table c =
    let a = c.args in
    let l = c.loop-n in
    rw (handed_on _ c.from_residual.ensures.1)
    (as_held (filling padded lay none) (tabled row 8) _ (λ l. refl)
    (stops padded lay (one a.self.now.model.now a.own) a.self.now.model.now.nets a.r.now none l.n l.table l.r l.invariant c.loop-n-test.true _ _ c.in_err-table.ensures))

pub loop-n-preserved : goal.loop-n-preserved
loop-n-preserved c =
    let a = c.args in
    let l = c.loop-n in
    turns padded lay (one a.self.now.model.now a.own) a.self.now.model.now.nets a.r.now none l.n l.table l.r l.invariant c.loop-n-test.true _ c.in_ok-table.field-0 _ c.in_ok-table.ensures refl

pub returns : goal.returns
unfolding tabled
returns c =
    let a = c.args in
    let l = c.loop-n in
    as_held (filling padded lay none) (tabled row 8) _ (λ l. refl)
    (ends padded lay (one a.self.now.model.now a.own) a.self.now.model.now.nets a.r.now none l.n l.table l.r l.invariant c.loop-n-test.false)
