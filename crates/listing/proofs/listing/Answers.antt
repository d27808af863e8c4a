-- `listing` meets its contract: the triple of the model ends the listing, or the weights follow.
use mathlib.Core.Path.{refl, ap, ◌∙◌}
use native.Mathlib.Omega.{arith}
use Rattle.text.specs.Bytes.{Text}
use Rattle.text_write.proofs.WriterLaws.{lays_room}
use Rattle.reader.specs.Answers.{lay_whole}
use Rattle.listing.proofs.ThreeFiles.{model-held}
use Rattle.listing.proofs.StageLaws.{model_end, model-listed}
use Rattle.listing.proofs.listing.Goals as goal

pub after_model-requires : goal.after_model-requires
after_model-requires c =
    let p = c.put_triple.ensures in
    (model-held c.args.model.now c.in-Ok.field-0 c.in-Ok.ensures, omega (arith, p.1, lays_room _ p.0), omega (arith, lays_room _ p.0))

pub returns-in-Ok : goal.returns-in-Ok
returns-in-Ok c =
    let a = c.args in
    c.after_model.ensures
    ∙ ap (λ (text : Text). lay_whole text a.out.now)
    (model-listed a.model.now a.weights.now a.trace.now _ refl c.put_triple.ensures.0 (omega (arith, c.put_triple.ensures.1)) c.in-Ok.field-0 c.in-Ok.ensures c.accepted.ensures)

pub written-requires : goal.written-requires
written-requires c = let p = c.put_triple-in-Err.ensures in omega (arith, p.1, lays_room _ p.0)

pub returns-in-Err : goal.returns-in-Err
returns-in-Err c =
    let a = c.args in
    (rw c.written.ensures at c.lay_head.ensures)
    ∙ ap (λ (text : Text). lay_whole text a.out.now)
    (model_end a.model.now a.weights.now a.trace.now _ refl c.put_triple-in-Err.ensures.0 (omega (arith, c.put_triple-in-Err.ensures.1)) _ c.in-Err.ensures c.from.ensures)
