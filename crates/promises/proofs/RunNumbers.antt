-- The numbers of a run, of a writing and of the spread.
use Prim.Native.Nat.{ℕ, zero, suc, ◌+◌, ◌≤◌, ◌<◌}
use mathlib.Core.Path.{◌≡◌, refl, ap, sym, ◌∙◌}
use mathlib.Core.Logic.{inl, inr}
use mathlib.Core.Bool.{Bool, true, false, true≢false}
use mathlib.Core.List.{List, [], ◌∷◌}
use native.Mathlib.Omega.{arith}
use lib.ListN.{length, drop, length-drop}
use borrow.Author.Tests.{le-leb, lt-leb}
use Rattle.text.specs.Bytes.{Text, bytes, newlines, column_at}
use Rattle.text.specs.Number.{Read, missing, found, literal}
use Rattle.text.specs.Lines.{Outcome, got, bad, fault_at, judged, read_head}
use Rattle.text.specs.declared.Fault.{Fault}
use Rattle.text.specs.declared.Cause.TheVariants.{Syntax}
use Rattle.text.proofs.Basics.{by_test, by_le}
use Rattle.text.proofs.Exactly.{bad≢got}
use Rattle.text.proofs.LinesExactly.{head_exactly}
use Rattle.text.proofs.LineCounts.{column-within}
use Rattle.text.proofs.Refusals.{bad-is}
use Rattle.eos.specs.Model as eos
use Rattle.eos.specs.Causes.{Refusal}
use Rattle.model.specs.Limits.{longest, room_limit}
use Rattle.model.specs.declared.Model.{Model}
use Rattle.marking.specs.Held.{hold_marking}
use Rattle.marking.specs.Printed.{marking_text}
use Rattle.marking.specs.declared.Marking.{Marking}
use Rattle.reader.specs.Answers.{triple, pair, write_triple, held_both, Answered, lay_whole, marking_writing}
use Rattle.reader.proofs.WriteAnswers.{whole-fits, whole-short}
use Rattle.runner.specs.Answers.{Tried, fires, stops, step_triple, held_step, stepping, Stepped}
use Rattle.runner.proofs.StepAnswers.{step-held}
use Rattle.runner_trace.specs.Running.{onward, run_from, headed, run_where_held, running, Ran}
use Rattle.runner_trace.proofs.TraceSteps.{run_keeps, fired≢turned}
use Rattle.runner_trace.proofs.TraceLaws.{trace_headed}
use Rattle.runner_trace.proofs.StopLaws.{StopsAt, run_stops_at}
use Rattle.spread.specs.Call.{spread_triple, spread_call}
use Rattle.promises.specs.WholeRun.{racks}
use Rattle.promises.specs.Numbers.{faulted, Among, step_numbers, Lent, RunNumbered, WriteNumbered, SpreadNumbered}
use Rattle.promises.proofs.NumberLaws.{num, side, col, two_or_three}
use Rattle.promises.proofs.CallNumbers.{eight-twelve, held_number, held-fired}
use Rattle.std.specs.Prelude.{Result}
use Rattle.runner.specs.declared.StepRefusal.{StepRefusal}

-- ---- a run

-- a bad header is 2 beside line 1, at the byte at fault
head_faulted : (s : Text) (r : Read (Unit {0})) (e : Fault) → judged (λ _. true) (λ _. 0) 0 r ≡ bad e → faulted s e ≡ triple 2 1 (column_at s 0 e.byte)
unfolding judged newlines
head_faulted s (missing b) e h = let w : fault_at Syntax 0 b ≡ e = bad-is h in rw (← w)
head_faulted s (found a next) e h = absurd (bad≢got (sym h))

header_triple : (line s : Text) (e : Fault) → read_head line s 0 ≡ bad e → faulted s e ≡ triple 2 1 (column_at s 0 e.byte)
unfolding read_head
header_triple line s e h = head_faulted s (literal line s 0) e h

-- a run goes on from where it begins
onward-behind : (rest : ℕ → eos.Marking → Ran) (n at : ℕ) (k : Marking) (s : Text) (t : Tried) → ((used : ℕ) (μ : eos.Marking) → at ≤ (rest used μ).at)
    → at ≤ (onward rest n at k s t).at
unfolding onward
onward-behind rest n at k [] t h = omega arith
onward-behind rest n at k (b ∷ s) (fires used μ) h = h used μ
onward-behind rest n at k (b ∷ s) (stops a) h = omega arith

from_behind : (fuel : ℕ) (m : Model) (k : Marking) (s : Text) (n at : ℕ) → at ≤ (run_from fuel m k s n at).at
unfolding run_from
from_behind zero m k s n at = omega arith
from_behind (suc fuel) m k s n at =
    onward-behind _ n at k s _ (λ used μ. omega (arith, from_behind fuel m (hold_marking μ) (drop used s) (n + 1) (at + used)))

module _ (m : Model) (k : Marking) (s : Text) where
  abbrev Open : Type 0
  Open = Lent longest s (held_both m k)

  abbrev head : Outcome (Unit {0})
  head = read_head (bytes "run=1\n") s 0

  abbrev r : Refusal
  r = step_triple (running m k s).stop

  run_long : longest < length s → r ≡ pair 1 0
  unfolding running
  run_long h = rw (lt-leb (length s) longest h, running)

  run-unheld : length s ≤ longest → held_both m k ≡ false → r ≡ pair 14 0
  unfolding running run_where_held
  run-unheld few h = rw (le-leb (length s) longest few, running, h)

  run-header : Open → (e : Fault) → head ≡ bad e → r ≡ triple 2 1 (column_at s 0 e.byte)
  unfolding running run_where_held headed
  run-header w e b =
      let z : r ≡ faulted s e = rw (le-leb (length s) longest w.short, running, w.is_held, b) in
      z ∙ header_triple (bytes "run=1\n") s e b

  header_at : Open → (e : Fault) → head ≡ bad e → (running m k s).at ≡ 0
  unfolding running run_where_held headed
  header_at w e b = rw (le-leb (length s) longest w.short, running, w.is_held, b)

  -- behind the header
  module _ (w : Open) (next : ℕ) (b : head ≡ got tt next) where
    stops_at : StopsAt m s (running m k s)
    stops_at = run_stops_at m s k w.short w.is_held next b

    -- the run stopped at no byte of the header
    past_header : 0 < (running m k s).at
    past_header =
        let r = ((head_exactly (bytes "run=1\n") s).back 0 tt next b).reaches.next_is in
        let e = ap (λ (x : Ran). x.at) (trace_headed m k s w.short w.is_held next b) in
        omega (arith, r, e, from_behind (length s) m k (drop next s) 0 next)

    abbrev left : Text
    left = drop (running m k s).at s

    abbrev answer : Result ℕ StepRefusal
    answer = (held_step room_limit m (running m k s).marking left).answer

    left-within : length left ≤ length s
    left-within = omega (arith, length-drop (running m k s).at s)

    few-left : length left ≤ longest
    few-left = omega (arith, w.short, left-within)

    run_step : (running m k s).at < length s → r ≡ step_triple answer
    run_step h = let t = stops_at.turned h in ap step_triple t.1 ∙ sym (ap step_triple t.2)

    -- on a marking as every one in code is, that is the step call
    pub run_call : length k.entries ≡ room_limit → (running m k s).at < length s → r ≡ step_triple (stepping m (running m k s).marking left).answer
    run_call long h =
        let kept = run_keeps m k s (record { held = w.is_held; long = long }) in
        run_step h ∙ ap (λ (x : Stepped). step_triple x.answer) (step-held m (running m k s).marking left few-left kept.held)

    run_done_lem : (running m k s).at ≡ length s → r ≡ pair 0 0
    run_done_lem h = ap step_triple (stops_at.done h)

    -- where it stopped before the end, no step was fired
    turned_down : (running m k s).at < length s → (step_triple answer).number ≡ 0 → ⊥
    turned_down h z =
        let f = held-fired m (running m k s).marking left few-left z in
        fired≢turned f.1 (stops_at.turned h).2

    run_zero : r.number ≡ 0 → (running m k s).at ≡ length s
    run_zero z =
        by_le (length s) (running m k s).at
        (λ h. omega (arith, h, stops_at.within))
        (λ h. absurd (turned_down h (sym (num (run_step h)) ∙ z)))

  -- a run ends in one of five ways
  by_way : {G : Type 0}
      → (longest < length s → r ≡ pair 1 0 → G)
      → (length s ≤ longest → held_both m k ≡ false → r ≡ pair 14 0 → G)
      → (Open → (e : Fault) → head ≡ bad e → r ≡ triple 2 1 (column_at s 0 e.byte) → G)
      → ((w : Open) (next : ℕ) → head ≡ got tt next → (t : Text) (j : Marking) → length t ≤ length s → r ≡ step_triple (held_step room_limit m j t).answer → (r.number ≡ 0 → ⊥) → G)
      → ((w : Open) (next : ℕ) → head ≡ got tt next → (running m k s).at ≡ length s → r ≡ pair 0 0 → G)
      → G
  by_way {G} l u f t p =
      by_le (length s) longest
      (λ few. by_test (held_both m k) (λ h. read (record { short = few; is_held = h }) head refl) (λ h. u few h (run-unheld few h)))
      (λ over. l over (run_long over))
    where
      read : Open → (o : Outcome (Unit {0})) → head ≡ o → G
      read w (bad e) b = f w e b (run-header w e b)
      read w (got v next) b =
          by_le (length s) (running m k s).at
          (λ h. let q : (running m k s).at ≡ length s = omega (arith, h, (stops_at w next b).within) in p w next b q (run_done_lem w next b q))
          (λ h. t w next b (left w next b) (running m k s).marking (left-within w next b) (run_step w next b h) (λ z. omega (arith, run_zero w next b z)))

  -- a run with a number of 8 to 12 stopped behind its header and before the end
  pub run_stopped : Among step_numbers.tests r.number → Open × (next : ℕ) × (head ≡ got tt next) × ((running m k s).at < length s)
  run_stopped h =
      let high = eight-twelve r.number h in
      by_way (λ o q. absurd (omega (arith, high, num q))) (λ o u q. absurd (omega (arith, high, num q))) (λ w e b q. absurd (omega (arith, high, num q)))
      (λ w n b t j c q z. (w, n, b, before w n b z)) (λ w n b a q. absurd (omega (arith, high, num q)))
    where
      before : (w : Open) (n : ℕ) (b : head ≡ got tt n) → (r.number ≡ 0 → ⊥) → (running m k s).at < length s
      before w n b z =
          by_le (length s) (running m k s).at
          (λ h. absurd (z (num (run_done_lem w n b (omega (arith, h, (stops_at w n b).within))))))
          (λ h. h)

  pub run-number : RunNumbered m k s r
  run-number = record {
    one = (
      λ h.
          by_way (λ o q. o) (λ o u q. absurd (omega (arith, h, num q))) (λ w e b q. absurd (omega (arith, h, num q)))
          (λ w n b t j c q z. absurd (omega (arith, c, (held_number m j t (omega (arith, c, w.short))).one.0 (sym (num q) ∙ h))))
          (λ w n b a q. absurd (omega (arith, h, num q))),
      λ o. num (run_long o),
    );
    fourteen = (
      λ h.
          by_way (λ o q. absurd (omega (arith, h, num q))) (λ o u q. (o, u)) (λ w e b q. absurd (omega (arith, h, num q)))
          (λ w n b t j c q z. absurd (true≢false ((held_number m j t (omega (arith, c, w.short))).fourteen.0 (sym (num q) ∙ h)).1))
          (λ w n b a q. absurd (omega (arith, h, num q))),
      λ (o, u). num (run-unheld o u),
    );
    header = λ c. (
      λ (h, two, z).
          by_way (λ o q. absurd (omega (arith, two, num h, num q))) (λ o u q. absurd (omega (arith, two, num h, num q))) (λ w e b q. (w, e, b, sym h ∙ q))
          (λ w n b t j l q y. absurd (omega (arith, z, past_header w n b))) (λ w n b a q. absurd (omega (arith, two, num h, num q))),
      λ (w, e, b, q). (run-header w e b ∙ sym q, num q, header_at w e b),
    );
    good = (
      λ h.
          by_way (λ o q. absurd (omega (arith, h, num q))) (λ o u q. absurd (omega (arith, h, num q))) (λ w e b q. absurd (omega (arith, h, num q)))
          (λ w n b t j c q z. absurd (z h))
          (λ w n b a q. (w, n, b, a)),
      λ (w, n, b, a). num (run_done_lem w n b a),
    );
    step = run_step;
    as_a_step = λ w next b h. rw (run_step w next b h) (held_number m (running m k s).marking (left w next b) (few-left w next b));
    listed =
        by_way (λ o q. inr (inl (num q))) (λ o u q. inr (inr (inl (num q)))) (λ w e b q. inr (inr (inr (inl (num q)))))
        (λ w n b t j c q z. rw (num q) (held_number m j t (omega (arith, c, w.short))).listed)
        (λ w n b a q. inl (num q));
    nothing = λ h.
        by_way (λ o q. side q) (λ o u q. side q) (λ w e b q. absurd (not_two h (num q)))
        (λ w n b t j c q z. side q ∙ (held_number m j t (omega (arith, c, w.short))).nothing (rw (num q) at h))
        (λ w n b a q. side q);
    a_column = λ h.
        let two = two_or_three r.number h in
        by_way (λ o q. absurd (omega (arith, num q, two))) (λ o u q. absurd (omega (arith, num q, two)))
        (λ w e b q. rw (col q) (column-within s 0 e.byte))
        (λ w n b t j c q z. let k = (held_number m j t (omega (arith, c, w.short))).a_column (rw (num q) at h) in rw (col q) (k.0, omega (arith, k.1, c)))
        (λ w n b a q. absurd (omega (arith, num q, two)));
    no_column = λ h.
        by_way (λ o q. col q) (λ o u q. col q) (λ w e b q. absurd (h (rw (num q) (inl refl))))
        (λ w n b t j c q z. col q ∙ (held_number m j t (omega (arith, c, w.short))).no_column (λ x. h (rw (num q) x)))
        (λ w n b a q. col q);
  }
    where
      not_two : Among (0 ∷ 1 ∷ 14 ∷ []) r.number → r.number ≡ 2 → ⊥
      not_two (inl e) q = omega arith
      not_two (inr (inl e)) q = omega arith
      not_two (inr (inr (inl e))) q = omega arith
      not_two (inr (inr (inr e))) q = e

-- ---- a writing

module _ (held : Bool) (text : Text) (room : ℕ) (r : Refusal) where
  write_numbered : (held ≡ false → r ≡ pair 14 0) → (held ≡ true → room < length text → r ≡ pair 13 (length text)) → (held ≡ true → length text ≤ room → r ≡ pair 0 0)
      → WriteNumbered held text room r
  write_numbered u f g = record {
    listed = by_way (λ h q. inr (inr (inl (num q)))) (λ h n q. inr (inl (num q))) (λ h n q. inl (num q));
    fourteen = (λ z. by_way (λ h q. h) (λ h n q. absurd (omega (arith, num q, num z))) (λ h n q. absurd (omega (arith, num q, num z))), u);
    thirteen = (
      λ z. by_way (λ h q. absurd (omega (arith, num q, num z))) (λ h n q. (h, n)) (λ h n q. absurd (omega (arith, num q, num z))),
      λ (h, n). f h n,
    );
    good = (
      λ z. by_way (λ h q. absurd (omega (arith, num q, num z))) (λ h n q. absurd (omega (arith, num q, num z))) (λ h n q. (h, n)),
      λ (h, n). g h n,
    );
  }
    where
      by_way : {G : Type 0} → (held ≡ false → r ≡ pair 14 0 → G) → (held ≡ true → room < length text → r ≡ pair 13 (length text) → G)
          → (held ≡ true → length text ≤ room → r ≡ pair 0 0 → G) → G
      by_way a b c = by_test held (λ h. by_le (length text) room (λ n. c h n (g h n)) (λ n. b h n (f h n))) (λ h. a h (u h))

-- a text laid into a lent buffer, as a listing is
pub laid-number : (text : Text) (out : List ℕ) → WriteNumbered true text (length out) (write_triple (lay_whole text out).answer)
laid-number text out =
    write_numbered true text (length out) _ (λ h. absurd (true≢false h))
    (λ _ n. ap (λ (a : Answered). write_triple a.answer) (sym (whole-short text out n)))
    (λ _ n. ap (λ (a : Answered). write_triple a.answer) (sym (whole-fits text out n)))

-- a marking that is written
pub write_number : (m : Model) (k : Marking) (out : List ℕ)
    → WriteNumbered (held_both m k) (marking_text (racks m k)) (length out) (write_triple (marking_writing m k out).answer)
unfolding marking_writing
write_number m k out =
    let text = marking_text (racks m k) in
    write_numbered (held_both m k) text (length out) _ (λ h. rw (h, marking_writing))
    (λ h n. rw (h, marking_writing) (ap (λ (a : Answered). write_triple a.answer) (sym (whole-short text out n))))
    (λ h n. rw (h, marking_writing) (ap (λ (a : Answered). write_triple a.answer) (sym (whole-fits text out n))))

-- ---- the spread

module _ (n k : ℕ) where
  abbrev shared : Refusal
  shared = spread_triple (spread_call n k)

  tokens_over : 31 < n → shared ≡ pair 3 1
  unfolding spread_call
  tokens_over h = rw (lt-leb n 31 h, spread_call)

  racks-many : n ≤ 31 → 16 < k → shared ≡ pair 3 2
  unfolding spread_call
  racks-many h g = rw (le-leb n 31 h, spread_call, lt-leb k 16 g)

  in_range_lem : n ≤ 31 → k ≤ 16 → shared ≡ pair 0 0
  unfolding spread_call
  in_range_lem h g = rw (le-leb n 31 h, spread_call, le-leb k 16 g)

  pub spread-number : SpreadNumbered n k shared
  spread-number = record {
    listed = by_way (λ h q. inr (inl (num q))) (λ h g q. inr (inl (num q))) (λ h g q. inl (num q));
    tokens = (λ z. by_way (λ h q. h) (λ h g q. absurd (omega (arith, side q, side z))) (λ h g q. absurd (omega (arith, side q, side z))), tokens_over);
    racks_over = (
      λ z. by_way (λ h q. absurd (omega (arith, side q, side z))) (λ h g q. (h, g)) (λ h g q. absurd (omega (arith, side q, side z))),
      λ (h, g). racks-many h g,
    );
    good = (
      λ z. by_way (λ h q. absurd (omega (arith, side q, side z))) (λ h g q. absurd (omega (arith, side q, side z))) (λ h g q. (h, g)),
      λ (h, g). in_range_lem h g,
    );
  }
    where
      by_way : {G : Type 0} → (31 < n → shared ≡ pair 3 1 → G) → (n ≤ 31 → 16 < k → shared ≡ pair 3 2 → G) → (n ≤ 31 → k ≤ 16 → shared ≡ pair 0 0 → G) → G
      by_way a b c = by_le n 31 (λ h. by_le k 16 (λ g. c h g (in_range_lem h g)) (λ g. b h g (racks-many h g))) (λ h. a h (tokens_over h))
