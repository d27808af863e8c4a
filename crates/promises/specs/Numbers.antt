-- Demand 1 (00) at what the caller sees: a call answers with one number of 01's table ("Why a thing is turned down"), for the first cause in
-- the stated order, and beside it stands what the table says, and the column of a fault in a line (02, K5). 0 is no cause: accepted, written,
-- passed, fired, at the trace's end.
use Rattle.std.specs.Prelude.{ℕ, suc, ◌+◌, ◌≤◌, ◌<◌, ◌≡◌, ◌↔◌, ◌⊎◌, Bool, true, false, not, List, [], ◌∷◌, ◌++◌, length, drop}
use Rattle.std.proofs.Math.Option.{Option}
use Rattle.text.specs.Bytes.{Text, bytes, newlines, line_at, column_at}
use Rattle.text.specs.Lines.{Outcome, got, bad, read_head, cause_number, column_for}
use Rattle.text.specs.Printed.{texts, number_text}
use Rattle.text.specs.declared.Fault.{Fault}
use Rattle.eos.specs.Counted.{Counted}
use Rattle.eos.specs.Model as eos
use Rattle.eos.specs.Firing.{Written, step_of, outer_taken, outer_given, inner_taken, inner_given, after}
use Rattle.eos.specs.Causes.{Refusal, First, Clear, Least, unless, at, failing, lacking}
use Rattle.eos.specs.Converting.{replaceable, Lacks}
use Rattle.eos.specs.Weights.{Weights, effect, is_zero, all_zero}
use Rattle.model.specs.Limits.{longest, room_limit}
use Rattle.model.specs.Held.{model_of}
use Rattle.model.specs.Test.{held_model}
use Rattle.model.specs.declared.Model.{Model}
use Rattle.marking.specs.Held.{has_room}
use Rattle.marking.specs.Printed.{net_token_text}
use Rattle.marking.specs.Sizes.{sizes_for}
use Rattle.marking.specs.declared.Marking.{Marking}
use Rattle.reader.specs.Reading.{bounds}
use Rattle.reader.specs.Answers.{triple, pair, held_both}
use Rattle.step.specs.Reading.{read_step}
use Rattle.runner.specs.Answers.{step_triple, held_step}
use Rattle.runner_trace.specs.Running.{running}
use Rattle.promises.specs.WholeRun.{racks}

-- n is one of these
abbrev pub Among : List ℕ → ℕ → Type 0
Among [] n = ⊥
Among (a ∷ l) n = (n ≡ a) ⊎ Among l n

-- ---- calls on a text

-- what a call is turned down with, in 01's order: behind 1, what is not held, then its lines, then the tests of what was read
pub record Numbers : Type 0 where
  pub unheld : List ℕ
  pub lines : List ℕ
  pub tests : List ℕ

abbrev pub all_of : Numbers → List ℕ
all_of ns = 0 ∷ 1 ∷ (ns.unheld ++ (ns.lines ++ ns.tests))

-- 01's table, call by call; a start may be refused with 12 too (02, K7)
abbrev pub model_numbers : Numbers
model_numbers = record { unheld = []; lines = 2 ∷ 3 ∷ 5 ∷ 12 ∷ []; tests = [] }

abbrev pub marking_numbers : Numbers
marking_numbers = record { unheld = 14 ∷ []; lines = 2 ∷ 3 ∷ 12 ∷ []; tests = [] }

abbrev pub weight_numbers : Numbers
weight_numbers = record { unheld = 14 ∷ []; lines = 2 ∷ 3 ∷ []; tests = 6 ∷ 7 ∷ [] }

abbrev pub step_numbers : Numbers
step_numbers = record { unheld = 14 ∷ []; lines = 2 ∷ 3 ∷ []; tests = 8 ∷ 9 ∷ 10 ∷ 11 ∷ 12 ∷ [] }

-- the answer to a fault of a text: the number of its cause, its line, and its column
abbrev pub faulted : Text → Fault → Refusal
faulted s e = triple (cause_number e.cause) (line_at s e.at) (column_for e.cause (column_at s e.at e.byte))

-- no cause 1, and none 14
pub record Lent (most : ℕ) (s : Text) (held : Bool) : Type 0 where
  pub short : length s ≤ most
  pub is_held : held ≡ true

-- the number of a call on a text of at most `most` bytes, and what stands beside it: `held` is the held test, `reading` what its lines say,
-- and `tests` are asked of what was read
pub record Numbered {A : Type 0} (ns : Numbers) (most : ℕ) (s : Text) (held : Bool) (reading : Outcome A) (tests : A → List (Option Refusal)) (r : Refusal) : Type 0 where
  pub listed : Among (all_of ns) r.number
  -- each exactly where no cause before it holds
  pub one : (r.number ≡ 1) ↔ (most < length s)
  pub fourteen : (r.number ≡ 14) ↔ ((length s ≤ most) × (held ≡ false))
  pub line : (c : Refusal) → Among ns.lines c.number
      → (r ≡ c) ↔ (Lent most s held × (e : Fault) × (reading ≡ bad e) × (c ≡ faulted s e))
  pub test : (c : Refusal) → Among ns.tests c.number
      → (r ≡ c) ↔ (Lent most s held × (a : A) × (next : ℕ) × (reading ≡ got a next) × First (tests a) c)
  pub good : (r.number ≡ 0) ↔ (Lent most s held × (a : A) × (next : ℕ) × (reading ≡ got a next) × Clear (tests a))
  -- beside 0, 1 and 14 stands 0; beside the cause of a line a line of the text, or the line after its last
  pub nothing : Among (0 ∷ 1 ∷ 14 ∷ []) r.number → r.beside ≡ 0
  pub a_line : Among ns.lines r.number → (1 ≤ r.beside) × (r.beside ≤ newlines s + 1)
  -- 2 and 3 have a column, from 1 to the one behind the last byte; all else has 0
  pub a_column : Among (2 ∷ 3 ∷ []) r.number → (1 ≤ r.column) × (r.column ≤ length s + 1)
  pub no_column : (Among (2 ∷ 3 ∷ []) r.number → ⊥) → r.column ≡ 0

-- what was read meets no test
abbrev pub untested : {A : Type 0} → A → List (Option Refusal)
untested a = []

-- ---- the tests of a step

-- 01's table from 8 to 12: nets are numbered from 1; a step's `take` is its line 2, its token lines follow, then `give`
unfoldable pub step_tests : eos.Model → eos.Marking → Written → List (Option Refusal)
step_tests d μ w =
    let t = step_of w in
    let e = eos.event d t.event in
    let nets = length d.nets in
    let give = 3 + length w.taken in
    unless (outer_taken d e t.taken) (pair 8 2)
    ∷ unless (outer_given d e t.taken t.given) (pair 8 give)
    ∷ at (λ n. pair 9 (suc n)) (failing nets 0 (inner_taken d e t.taken))
    ∷ at (λ n. pair 10 (suc n)) (failing nets 0 (inner_given d e t.taken t.given))
    ∷ at (λ i. pair 11 (3 + i)) (lacking μ 0 [] w.taken)
    ∷ unless (has_room room_limit (after t μ)) (pair 12 give)
    ∷ []

-- what stands beside them, in a step of a model of so many nets that takes so many lines of net-tokens
pub record StepBeside (nets taken : ℕ) (r : Refusal) : Type 0 where
  -- the `take` line or the `give` line
  pub eight : r.number ≡ 8 → (r.beside ≡ 2) ⊎ (r.beside ≡ 3 + taken)
  -- a net
  pub nine : r.number ≡ 9 → (1 ≤ r.beside) × (r.beside ≤ nets)
  pub ten : r.number ≡ 10 → (1 ≤ r.beside) × (r.beside ≤ nets)
  -- a token line of the take
  pub eleven : r.number ≡ 11 → (3 ≤ r.beside) × (r.beside ≤ 2 + taken)
  -- the `give` line
  pub twelve : r.number ≡ 12 → r.beside ≡ 3 + taken

-- which lines these are: the text is these lines and what follows, and each of them is one line
pub record StepLines (s : Text) (t : Written) : Type 0 where
  pub rest : Text
  pub begins : s
      ≡ number_text (bytes "fire=") (suc t.event)
      ++ (number_text (bytes "take=") (length t.taken) ++ (texts net_token_text t.taken ++ (number_text (bytes "give=") (length t.given) ++ rest)))
  pub fire-line : newlines (number_text (bytes "fire=") (suc t.event)) ≡ 1
  pub take-line : newlines (number_text (bytes "take=") (length t.taken)) ≡ 1
  pub token-line : (l : Counted eos.NetToken) → newlines (net_token_text l) ≡ 1

-- ---- the tests of weights

-- 01's table, 6 and 7: the last line, and the least event, numbered from 1
unfoldable pub weight_tests : ℕ → eos.Model → Weights → List (Option Refusal)
weight_tests last d w =
    unless (not (all_zero w)) (pair 6 last)
    ∷ at (λ k. pair 7 (suc k)) (failing (length d.events) 0 (λ k. is_zero (effect d w (eos.event d k))))
    ∷ []

-- what stands beside them, for a file whose last line is `last` and a model of so many events
pub record WeightBeside (last events : ℕ) (r : Refusal) : Type 0 where
  pub six : r.number ≡ 6 → r.beside ≡ last
  pub seven : r.number ≡ 7 → (1 ≤ r.beside) × (r.beside ≤ events)

-- ---- a run

-- the number of a run over a trace. A bad header is 2 beside 1, at byte 0. Behind it, 0 exactly at the end of the trace; before the end,
-- what the step answers on what is left from the byte where the run stopped, on the marking then, so a number as a step has
pub record RunNumbered (m : Model) (k : Marking) (s : Text) (r : Refusal) : Type 0 where
  pub one : (r.number ≡ 1) ↔ (longest < length s)
  pub fourteen : (r.number ≡ 14) ↔ ((length s ≤ longest) × (held_both m k ≡ false))
  pub header : (c : Refusal) → ((r ≡ c) × (c.number ≡ 2) × ((running m k s).at ≡ 0))
      ↔ (Lent longest s (held_both m k) × (e : Fault) × (read_head (bytes "run=1\n") s 0 ≡ bad e) × (c ≡ triple 2 1 (column_at s 0 e.byte)))
  pub good : (r.number ≡ 0)
      ↔ (Lent longest s (held_both m k) × (next : ℕ) × (read_head (bytes "run=1\n") s 0 ≡ got tt next) × ((running m k s).at ≡ length s))
  pub step : Lent longest s (held_both m k) → (next : ℕ) → read_head (bytes "run=1\n") s 0 ≡ got tt next → (running m k s).at < length s
      → r ≡ step_triple (held_step room_limit m (running m k s).marking (drop (running m k s).at s)).answer
  pub as_a_step : Lent longest s (held_both m k) → (next : ℕ) → read_head (bytes "run=1\n") s 0 ≡ got tt next → (running m k s).at < length s
      → let left = drop (running m k s).at s in
      Numbered step_numbers longest left true (read_step bounds (sizes_for m) m.listed left 0) (step_tests (model_of m) (racks m (running m k s).marking)) r
  pub listed : Among (all_of step_numbers) r.number
  pub nothing : Among (0 ∷ 1 ∷ 14 ∷ []) r.number → r.beside ≡ 0
  pub a_column : Among (2 ∷ 3 ∷ []) r.number → (1 ≤ r.column) × (r.column ≤ length s + 1)
  pub no_column : (Among (2 ∷ 3 ∷ []) r.number → ⊥) → r.column ≡ 0

-- ---- writing into a lent buffer

-- the number of the writing of a text into so many bytes: 14, then 13 beside the bytes needed
pub record WriteNumbered (held : Bool) (text : Text) (room : ℕ) (r : Refusal) : Type 0 where
  pub listed : Among (0 ∷ 13 ∷ 14 ∷ []) r.number
  pub fourteen : (r ≡ pair 14 0) ↔ (held ≡ false)
  pub thirteen : (r ≡ pair 13 (length text)) ↔ ((held ≡ true) × (room < length text))
  pub good : (r ≡ pair 0 0) ↔ ((held ≡ true) × (length text ≤ room))

-- ---- a conversion

-- the number of a conversion (02, K13): 14, then 21 beside the number of the least event that cannot be replaced. That is the least at which
-- the test fails; it idles, and some place of its type lacks an event that is like it
pub record ConvertNumbered (m : Model) (r : Refusal) : Type 0 where
  pub listed : Among (0 ∷ 14 ∷ 21 ∷ []) r.number
  pub fourteen : (r ≡ pair 14 0) ↔ (held_model m ≡ false)
  pub twenty_one : (k : ℕ) → let d = model_of m in
      (r ≡ pair 21 (suc k)) ↔ ((held_model m ≡ true) × Least (length d.events) (λ i. replaceable d (eos.event d i)) k × Lacks d k)
  pub good : (r ≡ pair 0 0) ↔ ((held_model m ≡ true) × ((k : ℕ) → k < length (model_of m).events → Lacks (model_of m) k → ⊥))

-- ---- the spread

-- 01: "The spread refuses n over 31 (3, beside it 1) before k over 16 (3, beside it 2)"
pub record SpreadNumbered (n k : ℕ) (r : Refusal) : Type 0 where
  pub listed : Among (0 ∷ 3 ∷ []) r.number
  pub tokens : (r ≡ pair 3 1) ↔ (31 < n)
  pub racks_over : (r ≡ pair 3 2) ↔ ((n ≤ 31) × (16 < k))
  pub good : (r ≡ pair 0 0) ↔ ((n ≤ 31) × (k ≤ 16))
