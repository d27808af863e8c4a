-- What the run over a trace answers, by how its parts ended.
use Prim.Native.Nat.{ℕ, ◌≤◌}
use mathlib.Core.Path.{◌≡◌}
use mathlib.Core.Bool.{true}
use lib.ListN.{length, drop}
use borrow.Author.Tests.{le-leb, lt-leb}
use Rattle.text.specs.Bytes.{Text, bytes}
use Rattle.text.specs.Lines.{got, bad, read_head}
use Rattle.text.specs.declared.Fault.{Fault}
use Rattle.model.specs.Limits.{longest}
use Rattle.model.specs.declared.Model.{Model}
use Rattle.marking.specs.declared.Marking.{Marking}
use Rattle.reader.specs.Answers.{held_both, faulty, admitted}
use Rattle.runner_trace.specs.Running.{run_from, headed, run_where_held, running, unrun}
use Rattle.reader.specs.declared.ReadRefusal.{ReadRefusal}
use Rattle.std.specs.Prelude.{Err}
use Rattle.reader.proofs.ReadingLaws.{admitted_err}

module _ (m : Model) (k : Marking) (s : Text) where
  -- refused before its header
  pub trace_unread : (e : ReadRefusal) → Err e ≡ admitted m k s → unrun e k ≡ running m k s
  unfolding running run_where_held
  trace_unread e h =
      admitted_err m k s e h
      (λ p long. rw (p, lt-leb (length s) longest long, running))
      (λ p few unheld. rw (p, le-leb (length s) longest few, running, unheld))

  module _ (few : length s ≤ longest) (held : held_both m k ≡ true) where
    -- the header is refused
    pub trace_unheaded : (d : Fault) → read_head (bytes "run=1\n") s 0 ≡ bad d → unrun (faulty s d) k ≡ running m k s
    unfolding running run_where_held headed
    trace_unheaded d e = rw (le-leb (length s) longest few, running, held, e)

    -- the steps follow
    pub trace_headed : (next : ℕ) → read_head (bytes "run=1\n") s 0 ≡ got tt next → run_from (length s) m k (drop next s) 0 next ≡ running m k s
    unfolding running run_where_held headed
    trace_headed next e = rw (le-leb (length s) longest few, running, held, e)
