-- `step_on` meets its contract: what was read is a right step of the held model, so that the verdict and the change may be asked.
use mathlib.Core.Path.{◌≡◌, ap, sym, subst, ◌∙◌}
use Rattle.text.specs.Lines.{Outcome}
use Rattle.text.specs.Answers.{kept}
use Rattle.text_reader.specs.Place.{Reads}
use Rattle.text.proofs.Basics.{handed_on}
use Rattle.text_reader.proofs.ReadsLaws.{refused_of}
use Rattle.eos.specs.Firing.{Written}
use native.Mathlib.Omega.{arith}
use Rattle.model.proofs.HeldTests.{held-is, most-events}
use Rattle.marking.specs.Sizes.{sizes_for}
use Rattle.reader.proofs.ReadingLaws.{named_ok, named_err}
use Rattle.std.specs.declared.result.Result.TheVariants.{Ok}
use Rattle.text_reader.specs.declared.Reader.{Reader}
use Rattle.step.specs.Answers.{hold_step, step_lent}
use Rattle.runner.specs.Answers.{stays}
use Rattle.runner.proofs.ReadLaws.{ReadLines, lines-got}
use Rattle.runner.proofs.RuledLaws.{RightStep, read_right, rule_is_sound, read_placed}
use Rattle.runner.proofs.StepAnswers.{both_stands, reading, reading_is, step-refused, step-ruled}
use Rattle.runner.proofs.lent.Stepper.step_on.Goals as goal
use Rattle.runner.proofs.lent.Stepper.step_on.Goals.{In_ok-lines}
use Rattle.reader.specs.declared.ReadRefusal.{ReadRefusal}
use Rattle.runner.specs.declared.StepRefusal.TheVariants.{Unread}

-- what was read of the text
lines-read : (c : In_ok-lines) → c.read_step-read.result ≡ Ok c.in_ok-lines.lines
lines-read c = named_ok c.args.s.now c.read_step-read.result c.in_ok-lines.ensures

-- the step that was read
read : (c : In_ok-lines) → let a = c.args in ReadLines c.in_ok-lines.lines (reading a.self.now.model.now a.k.now a.s.now) c.read_step-read.new.r.at
read c =
    let a = c.args in
    let r = c.read_step-read in
    let l = c.in_ok-lines.lines in
    let begun : Reader = record { src = a.s; at = 0 } in
    lines-got l _ begun r.new.r
    (subst (λ (o : Outcome Written). Reads (kept hold_step o) begun r.new.r (step_lent (Ok l))) (reading_is a.self.now.model.now a.k.now a.s.now a.self.now.sizes a.self.now.sized) (rw (lines-read c) at r.ensures))

right : (c : In_ok-lines) → RightStep (sizes_for c.args.self.now.model.now) c.args.self.now.model.now.listed (read c).step
right c = read_right _ _ c.args.s.now _ _ (read c).is

pub overflow_cast-events : goal.overflow_cast-events
overflow_cast-events c = omega (arith, most-events _ (held-is _ c.args.self.now.held))

pub returns-in_err-lines-clause-stepped : goal.returns-in_err-lines-clause-stepped
returns-in_err-lines-clause-stepped c =
    let a = c.args in
    let m = a.self.now.model.now in
    rw (handed_on _ c.from_residual.ensures.1)
    (named_err _ _ c.in_err-lines.ensures
    (λ d is e. ap (λ (x : ReadRefusal). stays (Unread x) a.k.now) e
    ∙ step-refused m a.k.now a.s.now a.self.now.room _
    (sym (reading_is m a.k.now a.s.now a.self.now.sizes a.self.now.sized) ∙ (refused_of hold_step _ _ (rw is at c.read_step-read.ensures)).is)))

pub lay_rule-requires : goal.lay_rule-requires
lay_rule-requires c =
    let p = (goal.at.lay_rule-requires c).In_ok-lines in
    (c.args.self.now.held, omega (arith, (read p).event-is, (right p).known), c.args.self.now.asked, c.args.self.now.left)

pub fire-requires : goal.fire-requires
fire-requires c =
    let p = (goal.at.fire-requires c).In_ok-lines in
    let t = (read p).step in
    let r = right p in
    let m = c.args.self.now.model.now in
    let sized = c.lay_rule.ensures.sized in
    let held = c.args.self.now.held in (
      c.args.self.now.bounded,
      c.requires.3,
      rule_is_sound m sized held t r _ _ c.lay_rule.ensures.made (read p).event-is,
      read_placed m sized held t.taken r.taken r.take-few _ (read p).taken_are,
      read_placed m sized held t.given r.given r.give_few _ (read p).given_are,
      (both_stands _ _ c.requires.2 c.requires.0).kept,
    )

pub returns-clause-stepped : goal.returns-clause-stepped
returns-clause-stepped c =
    let a = c.args in
    let m = a.self.now.model.now in
    c.fire.ensures
    ∙ step-ruled m a.k.now a.s.now a.self.now.room c.lay_rule.ensures.sized a.self.now.held (both_stands _ _ c.requires.2 c.requires.0) _ _
    (read (goal.at.returns-clause-stepped c).In_ok-lines) _ c.lay_rule.ensures.made
