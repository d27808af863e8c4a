-- `run` meets its contract: 1, then 14, then the header, then the steps.
use mathlib.Core.Path.{◌≡◌, ap, ◌∙◌}
use mathlib.Core.Bool.{true}
use Prim.Native.Nat.{◌+◌, ◌≤◌}
use native.Mathlib.Omega.{arith}
use lib.ListN.{length, drop, length-append}
use Rattle.text.specs.Bytes.{bytes}
use Rattle.text.specs.Lines.{read_head}
use Rattle.text.proofs.LinesExactly.{head_exactly}
use Rattle.text_reader.specs.declared.Reader.{Reader}
use Rattle.text_reader.proofs.ReadsLaws.{Read, itself, plainly, read_of, refused_of}
use Rattle.model.specs.Limits.{longest}
use Rattle.reader.specs.Answers.{held_both}
use Rattle.reader.specs.declared.ReadRefusal.{ReadRefusal}
use Rattle.reader.proofs.ReadingLaws.{admitted_ok, named_ok, named_err}
use Rattle.runner_trace.specs.Running.{ran_to, unrun}
use Rattle.runner_trace.specs.declared.RunEnd.{RunEnd}
use Rattle.runner_trace.proofs.TraceLaws.{trace_unread, trace_unheaded, trace_headed}
use Rattle.runner_trace.proofs.run.Goals as goal
use Rattle.runner_trace.proofs.run.Goals.{In_default, In_default-named}

pub returns-in-Err : goal.returns-in-Err
returns-in-Err c =
    ap (λ (r : RunEnd). ran_to r c.args.k.now) c.run_refused.ensures ∙ trace_unread _ _ _ _ c.in-Err.ensures

-- the text is not too long, and the two passed the held test
passed : (c : In_default) → (length c.args.s.now ≤ longest) × (held_both c.args.m.now c.args.k.now ≡ true)
passed c = admitted_ok _ _ _ c.in_default.ensures

pub returns-in-Err-named : goal.returns-in-Err-named
returns-in-Err-named c =
    let k = c.args.k.now in
    let p = passed (goal.at.returns-in-Err-named c).In_default in
    ap (λ (r : RunEnd). ran_to r k) c.run_refused-in-Err-named.ensures
    ∙ named_err _ _ c.in-Err-named.ensures
    (λ d is e. ap (λ (x : ReadRefusal). unrun x k) e ∙ trace_unheaded _ _ _ p.0 p.1 _ (refused_of itself _ _ (plainly (rw is at c.head.ensures))).is)

-- the header was read, in the text
head : (c : In_default-named) → Read itself (read_head (bytes "run=1\n") c.args.s.now 0) (record { src = c.args.s; at = 0 }) c.head.new.self tt
head c = read_of itself _ _ (plainly (rw (named_ok _ _ c.in_default-named.ensures) at c.head.ensures))

-- it ends in the text, and the reader stands behind it
behind_head : (c : In_default-named) → c.head.new.self.at ≤ length c.args.s.now
behind_head c =
    let s = c.args.s.now in
    let r = ((head_exactly (bytes "run=1\n") s).back 0 tt c.head.new.self.at (head c).is).reaches in
    omega (arith, r.next_is, ap length r.stands ∙ length-append (bytes "run=1\n") (drop (0 + length (bytes "run=1\n")) s))

same : (c : In_default-named) → c.head.new.self.src.now ≡ c.args.s.now
same c = ap (λ (x : Reader). x.src.now) (head c).moved

pub run_steps-requires : goal.run_steps-requires
run_steps-requires c =
    let p = passed (goal.at.run_steps-requires c).In_default in
    let d = (goal.at.run_steps-requires c).In_default-named in
    rw (same d) (p.1, p.0, behind_head d)

pub returns : goal.returns
returns c =
    let p = passed (goal.at.returns c).In_default in
    let d = (goal.at.returns c).In_default-named in
    (rw (same d) at c.run_steps.ensures) ∙ trace_headed _ _ _ p.0 p.1 _ (head d).is
