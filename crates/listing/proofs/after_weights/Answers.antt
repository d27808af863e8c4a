-- `after_weights` meets its contract: the lines before the net-tokens stand in the head, and the rest is laid behind them.
use Prim.Native.Nat.{ℕ, ◌^◌, ◌≤◌, ◌<◌}
use mathlib.Core.Path.{◌≡◌, ap, sym, subst, ◌∙◌}
use mathlib.Core.Bool.{true}
use native.Mathlib.Omega.{arith}
use lib.ListN.{length}
use lib.Seq.{length-take-le}
use Rattle.text.specs.Bytes.{Text, bytes}
use Rattle.text.specs.Printed.{number_text}
use Rattle.text_write.proofs.WriterLaws.{lays_room}
use Rattle.marking.proofs.SizedLaws.{marking_sized}
use Rattle.reader.specs.Answers.{held_both, lay_whole}
use Rattle.listing.proofs.ThreeFiles.{trace_held}
use Rattle.listing.proofs.ListingLines.{long-line}
use Rattle.listing.proofs.StageLaws.{run-listed}
use Rattle.triples.proofs.AnswerLaws.{answered}
use Rattle.runner.specs.Answers.{unfired_triple}
use Rattle.runner_trace.specs.Running.{Ran, ran_to}
use Rattle.listing.proofs.after_weights.Goals as goal
use Rattle.listing.proofs.after_weights.Goals.{After-put_triple, After-trace_file-ran}

-- the marking that the run leaves is held
held : (c : After-trace_file-ran) → held_both c.args.m c.trace_file-ran.new.k ≡ true
held c =
    let long : length c.args.k.entries ≡ 256 = (marking_sized c.args.k _ c.well_formed.1.0).long in
    subst (λ (r : Ran). held_both c.args.m r.marking ≡ true) (sym c.trace_file-ran.ensures)
    (trace_held c.args.m c.args.k c.args.trace.now (record { held = c.requires.0; long = long }))

-- the line of the steps fired
fired : (n : ℕ) → n < 2 ^ 64 → length (number_text (bytes "fired=") n) ≤ 27
fired n h = long-line (bytes "fired=") n h

pub number_line-requires : goal.number_line-requires
number_line-requires c = omega (arith, fired c.trace_file-ran.result.fired (omega arith), c.requires.1)

pub put_triple-requires : goal.put_triple-requires
put_triple-requires c =
    let l = c.number_line.ensures in
    omega (arith, fired c.trace_file-ran.result.fired (omega arith), l.place, lays_room _ l, c.requires.1)

-- the lines end within the head, whose length stays
ends : (c : After-put_triple) →
    let h = c.args.head.now.out.now in
    let w = c.put_triple.new.w in
    (w.at ≤ length h) × (length w.out.now ≡ length h) × (length h ≤ 1024)
ends c =
    let l = c.number_line.ensures in
    let p = c.put_triple.ensures in
    (omega (arith, fired c.trace_file-ran.result.fired (omega arith), l.place, p.1, c.requires.1), lays_room _ p.0 ∙ lays_room _ l, c.requires.2)

pub written-requires : goal.written-requires
written-requires c = omega (arith, ends (goal.at.written-requires c).After-put_triple)

pub lay_with_held-requires : goal.lay_with_held-requires
lay_with_held-requires c =
    let e = ends (goal.at.lay_with_held-requires c).After-put_triple in
    let w = c.put_triple.new.w in (
      held (goal.at.lay_with_held-requires c).After-trace_file-ran,
      omega (arith, e, ap length c.written.ensures, length-take-le w.at w.out.now (omega (arith, e))),
    )

pub returns : goal.returns
returns c =
    let a = c.args in
    (rw c.written.ensures at c.lay_with_held.ensures)
    ∙ ap (λ (text : Text). lay_whole text a.out.now)
    (run-listed a.head.now a.m a.k a.trace.now (ran_to c.trace_file-ran.result c.trace_file-ran.new.k) c.trace_file-ran.ensures _
    (answered unfired_triple _ _ c.from.ensures)
    c.number_line.ensures c.put_triple.ensures.0 (ends (goal.at.returns c).After-put_triple).0)
