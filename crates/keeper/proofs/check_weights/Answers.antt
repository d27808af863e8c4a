-- `check_weights` meets its contract: a text that is too long, a model or marking that is not held, a line at fault, or weights that are
-- judged.
use mathlib.Core.Path.{ap, ◌∙◌}
use Rattle.std.specs.Prelude.{Err}
use Rattle.text.proofs.Basics.{handed_on}
use Rattle.reader.specs.declared.ReadRefusal.{ReadRefusal}
use Rattle.reader.proofs.ReadingLaws.{admitted_ok, named_ok, named_err}
use Rattle.keeper.specs.declared.WeightRefusal.TheVariants.{Unread}
use Rattle.keeper.proofs.JudgeLaws.{model-held}
use Rattle.keeper.proofs.CheckLaws.{check_unread, check_stopped, check_past}
use Rattle.model.proofs.RoomLaws.{objects-room, events-room}
use Rattle.keeper.proofs.check_weights.Goals as goal

pub returns-in_err-admitted : goal.returns-in_err-admitted
returns-in_err-admitted c =
    rw (handed_on _ c.from_residual.ensures.1) (check_unread _ _ _ _ c.in_err-admitted.ensures)

pub weight_lines-requires : goal.weight_lines-requires
weight_lines-requires c = model-held _ _ (admitted_ok _ _ _ c.in_ok-admitted.ensures).1

pub judged-requires : goal.judged-requires
judged-requires c = record {
  both = (admitted_ok _ _ _ c.in_ok-admitted.ensures).1;
  room = (objects-room c.args.m _ c.well_formed.0, events-room c.args.m _ c.well_formed.0);
}

pub returns-in_err-weights : goal.returns-in_err-weights
returns-in_err-weights c =
    let a = admitted_ok _ _ _ c.in_ok-admitted.ensures in
    rw (handed_on _ c.from_residual-in_err-weights.ensures.1)
    (named_err _ _ c.in_err-weights.ensures
    (λ d is e. ap (λ (x : ReadRefusal). Err (Unread x)) e ∙ check_stopped _ _ _ a.0 a.1 d (rw is at c.weight_lines.ensures)))

pub returns : goal.returns
returns c =
    let a = admitted_ok _ _ _ c.in_ok-admitted.ensures in
    check_past _ _ _ a.0 a.1 _ (rw (named_ok _ _ c.in_ok-weights.ensures) at c.weight_lines.ensures) _ (rw c.from.ensures at c.judged.ensures)
