-- `after_model` meets its contract: the triple of the weights ends the listing, or the sum and the cover stand in the head and the run follows.
use mathlib.Core.Path.{ap, ◌∙◌}
use borrow.Author.Rules.{rules}
use native.Mathlib.Omega.{arith}
use mir.Syntax.{w64}
use Rattle.std.proofs.lemmas.Int.{to_z-of_z}
use Rattle.text.specs.Bytes.{Text}
use Rattle.text_write.proofs.WriterLaws.{lays_room}
use Rattle.reader.specs.Answers.{lay_whole}
use Rattle.keeper.specs.Answers.{unpassed_triple}
use Rattle.triples.proofs.AnswerLaws.{answered}
use Rattle.listing.proofs.StageLaws.{weights_end, weights-listed}
use Rattle.listing.proofs.after_model.Goals as goal

pub written-requires : goal.written-requires
written-requires c = let p = c.put_triple.ensures in omega (arith, p.1, lays_room _ p.0, c.requires.1)

pub returns-in_default : goal.returns-in_default
returns-in_default c =
    let a = c.args in
    (rw c.written.ensures at c.lay_head.ensures)
    ∙ ap (λ (text : Text). lay_whole text a.out.now)
    (weights_end a.head.now a.m a.k a.weights.now a.trace.now c.weights_file-check.result c.weights_file-check.ensures _ (answered unpassed_triple _ _ c.from.ensures)
    _ c.in_default.is c.put_triple.ensures.0 (omega (arith, c.put_triple.ensures.1, c.requires.1)))

pub put_sum-requires : goal.put_sum-requires
put_sum-requires c = let p = c.put_triple.ensures in omega (arith, p.1, lays_room _ p.0, c.requires.1)

pub put_cover-requires : goal.put_cover-requires
put_cover-requires c =
    let p = c.put_triple.ensures in
    let s = c.put_sum.ensures in
    omega (arith, p.1, lays_room _ p.0, s.1, lays_room _ s.0, c.requires.1)

pub after_weights-requires : goal.after_weights-requires
after_weights-requires c =
    let p = c.put_triple.ensures in
    let s = c.put_sum.ensures in
    let v = c.put_cover.ensures in
    let room = lays_room _ v.0 ∙ lays_room _ s.0 ∙ lays_room _ p.0 in
    (c.requires.0, omega (arith, p.1, s.1, v.1, room, c.requires.1), omega (arith, room, c.requires.2))

pub returns : goal.returns
returns c =
    let a = c.args in
    let sum = rw (to_z-of_z w64 c.in-Ok.check.sum (search rules)) at c.put_sum.ensures in
    let cover = c.put_cover.ensures in
    c.after_weights.ensures
    ∙ ap (λ (text : Text). lay_whole text a.out.now)
    (weights-listed a.head.now a.m a.k a.weights.now a.trace.now c.weights_file-check.result c.weights_file-check.ensures _ (answered unpassed_triple _ _ c.from.ensures)
    _ c.in-Ok.is c.put_triple.ensures.0 sum.0 cover.0 (omega (arith, c.put_triple.ensures.1, sum.1, cover.1, c.requires.1)))
