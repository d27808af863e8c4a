-- What stands beside the causes 6 to 12: a line of the file or of the step, a net, an event.
use Prim.Native.Nat.{ℕ, suc, ◌+◌}
use mathlib.Core.Bool.{Bool, true}
use mathlib.Core.Path.{◌≡◌, refl, ap, ◌∙◌}
use mathlib.Core.List.{◌++◌, append_assoc}
use native.Mathlib.Omega.{arith}
use lib.ListN.{length, drop}
use Rattle.text.specs.Bytes.{Text, bytes, newlines}
use Rattle.text.specs.Lines.{got}
use Rattle.text.specs.Printed.{texts, number_text, weights_text}
use Rattle.text.proofs.LineCounts.{lines_append, texts-lines, number-line, weights-line, token_line_lem}
use Rattle.eos.specs.Model as eos
use Rattle.eos.specs.Firing.{Written}
use Rattle.eos.specs.Causes.{Refusal}
use Rattle.eos.specs.Weights.{Weights}
use Rattle.eos.proofs.FirstLaws.{first_exactly}
use Rattle.model.specs.Limits.{longest}
use Rattle.model.specs.Held.{model_of}
use Rattle.model.specs.declared.Model.{Model}
use Rattle.model.proofs.ShapeLaws.{nets-long, events-long}
use Rattle.marking.specs.Held.{Sizes}
use Rattle.marking.specs.Reading.{Limits, token_line}
use Rattle.marking.specs.Printed.{net_token_text, block_text}
use Rattle.marking.specs.Sizes.{sizes_for}
use Rattle.marking.specs.declared.Marking.{Marking}
use Rattle.reader.specs.Reading.{bounds}
use Rattle.reader.specs.Answers.{held_both}
use Rattle.step.specs.Reading.{read_step}
use Rattle.step.specs.Printed.{step_text}
use Rattle.step.proofs.StepExactly.{step_exactly}
use Rattle.runner.specs.Answers.{step_triple, stepping}
use Rattle.runner_trace.specs.Running.{running}
use Rattle.keeper.specs.Reading.{read_weight_file}
use Rattle.keeper.specs.Printed.{weight_file_text}
use Rattle.keeper.specs.Answers.{weight_triple, weight_checking}
use Rattle.keeper.proofs.WeightsReadBack.{weights_were_printed, right_shaped}
use Rattle.promises.specs.WholeRun.{racks}
use Rattle.promises.specs.Numbers.{Among, step_numbers, weight_numbers, Numbered, step_tests, StepBeside, StepLines, WeightBeside}
use Rattle.promises.proofs.TestNumbers.{step_right, weight_right}
use Rattle.promises.proofs.CallNumbers.{step-number, weight_number}
use Rattle.promises.proofs.RunNumbers.{run_stopped, run-number}

-- ---- a step

-- the lines of a step that was read
step_lines : (lim : Limits) (z : Sizes) (events : ℕ) (s : Text) (t : Written) (next : ℕ) → read_step lim z events s 0 ≡ got t next → StepLines s t
unfolding step_text block_text net_token_text newlines
step_lines lim z events s t next e =
    let fire = number_text (bytes "fire=") (suc t.event) in
    let take = number_text (bytes "take=") (length t.taken) in
    let give = number_text (bytes "give=") (length t.given) in
    let taken = texts net_token_text t.taken in
    let given = texts net_token_text t.given in
    let rest = drop (0 + length (step_text t)) s in
    let r = ((step_exactly lim z events s).back 0 t next e).reaches.stands in
    record {
      rest = given ++ rest;
      begins =
          r
          ∙ append_assoc fire ((take ++ taken) ++ (give ++ given)) rest
          ∙ ap (λ (l : Text). fire ++ l)
          (append_assoc (take ++ taken) (give ++ given) rest
          ∙ append_assoc take taken ((give ++ given) ++ rest)
          ∙ ap (λ (l : Text). take ++ (taken ++ l)) (append_assoc give given rest));
      fire-line = number-line (bytes "fire=") refl (suc t.event);
      take-line = number-line (bytes "take=") refl (length t.taken);
      token-line = λ x. token_line_lem (bytes "token=") refl (token_line x);
    }

-- the step was read, and beside the number stands a line of it or a net
abbrev pub Beside : Model → Text → Refusal → Type 0
Beside m s r =
    (t : Written) × (next : ℕ) × (read_step bounds (sizes_for m) m.listed s 0 ≡ got t next) × StepBeside m.nets (length t.taken) r × StepLines s t

beside_of : (m : Model) (k : Marking) (s : Text) (held : Bool) (r : Refusal)
    → Numbered step_numbers longest s held (read_step bounds (sizes_for m) m.listed s 0) (step_tests (model_of m) (racks m k)) r
    → Among step_numbers.tests r.number → Beside m s r
beside_of m k s held r n h =
    let (w, t, next, b, f) = (n.test r h).0 refl in
    (t, next, b, rw (nets-long m) at (step_right (model_of m) (racks m k) t r ((first_exactly _ _).1 f)).1, step_lines bounds (sizes_for m) m.listed s t next b)

-- a step turned down with 8 to 12
pub step-beside : (m : Model) (k : Marking) (s : Text) → Among step_numbers.tests (step_triple (stepping m k s).answer).number
    → Beside m s (step_triple (stepping m k s).answer)
step-beside m k s h = beside_of m k s (held_both m k) (step_triple (stepping m k s).answer) (step-number m k s) h

-- a run stopped by such a step
pub run-beside : (m : Model) (k : Marking) (s : Text) → Among step_numbers.tests (step_triple (running m k s).stop).number
    → Beside m (drop (running m k s).at s) (step_triple (running m k s).stop)
run-beside m k s h =
    let (w, next, b, l) = run_stopped m k s h in
    beside_of m (running m k s).marking (drop (running m k s).at s) true (step_triple (running m k s).stop) ((run-number m k s).as_a_step w next b l) h

-- ---- weights

-- the lines of a weight file that was read: two, and one for each net
file_lines : (d : eos.Model) (s : Text) (w : Weights) (x : ℕ) → read_weight_file d s ≡ got w x → newlines s ≡ 2 + length d.nets
unfolding weight_file_text newlines
file_lines d s w x e =
    let (printed, right) = weights_were_printed d s w x e in
    let outer = weights_text (bytes "outer=") w.outward in
    let inner = texts (weights_text (bytes "inner=")) w.inward in
    ap newlines printed
    ∙ lines_append (bytes "inv=1\n") (outer ++ inner)
    ∙ omega (
      arith,
      lines_append outer inner,
      weights-line (bytes "outer=") refl w.outward,
      texts-lines (weights_text (bytes "inner=")) (weights-line (bytes "inner=") refl) w.inward,
      (right_shaped d w right).inward,
    )

-- beside 6 stands the file's last line, beside 7 an event
pub weight_beside : (m : Model) (k : Marking) (s : Text) → Among weight_numbers.tests (weight_triple (weight_checking m k s)).number
    → WeightBeside (newlines s) m.listed (weight_triple (weight_checking m k s))
weight_beside m k s h =
    let (u, w, next, b, f) = ((weight_number m k s).test (weight_triple (weight_checking m k s)) h).0 refl in
    let last = 2 + length (model_of m).nets in
    let r = (weight_right last (model_of m) w _ ((first_exactly _ _).1 f)).1 in
    rw (file_lines (model_of m) s w next b) (rw (events-long m) at r)
