-- What the weight check answers, for every input; and the numbers of 01's table for each answer.
use Rattle.std.specs.Prelude.{ℕ, suc, ◌+◌, Bool, true, false, leb, ℤ, pos, nat_abs, length, Result, Ok, Err}
use Rattle.std.proofs.Math.Option.{Option, none, some}
use Rattle.text.specs.Bytes.{Text}
use Rattle.text.specs.Lines.{Outcome, got, bad}
use Rattle.eos.specs.Model as eos
use Rattle.eos.specs.Causes.{Refusal}
use Rattle.eos.specs.Weights.{Weights, weigh, WeightCause, weightless, unbalanced, weight_refusal, covers}
use Rattle.model.specs.Limits.{longest, cover_limit, count_limit}
use Rattle.model.specs.Held.{model_of}
use Rattle.model.specs.declared.Model.{Model}
use Rattle.marking.specs.Held.{tokens_of}
use Rattle.marking.specs.declared.Marking.{Marking}
use Rattle.reader.specs.Answers.{pair, triple_of, unread_triple, faulty, held_both}
use Rattle.reader.specs.declared.ReadRefusal.TheVariants.{TooLong, NotHeld}
use Rattle.keeper.specs.declared.WeightRefusal.{WeightRefusal}
use Rattle.keeper.specs.declared.WeightRefusal.TheVariants.{Unread, Weightless, Unbalanced}
use Rattle.marking.specs.Sizes.{sizes_for}
use Rattle.keeper.specs.Reading.{read_weight_file}
use Rattle.keeper.specs.declared.WeightCheck.{WeightCheck}

-- 01's table: the number, and what stands beside it
abbrev pub unpassed_triple : WeightRefusal → Refusal
unpassed_triple (Unread e) = unread_triple e
unpassed_triple (Weightless line) = pair 6 line
unpassed_triple (Unbalanced event) = pair 7 event

abbrev pub weight_triple : {A : Type 0} → Result A WeightRefusal → Refusal
weight_triple a = triple_of unpassed_triple a

-- 01: "refused weights sum 0 and cover 0"
abbrev pub nothing : WeightCheck
nothing = record { sum = pos 0; cover = false }

-- what a check gives
abbrev pub check_given : Result WeightCheck WeightRefusal → WeightCheck
check_given (Ok c) = c
check_given (Err e) = nothing

-- weights that pass: their weighted sum, and whether they cover for so many net-tokens
abbrev pub passed_weights : ℕ → Weights → ℤ → WeightCheck
passed_weights most w z = record { sum = z; cover = covers most count_limit w (nat_abs z) }

-- weights are turned down by a cause; events are numbered from 1, `last` is the file's last line
abbrev pub turned_by : ℕ → WeightCause → WeightRefusal
turned_by last weightless = Weightless last
turned_by last (unbalanced k) = Unbalanced (suc k)

abbrev pub weight_cause_triple : ℕ → WeightCause → Refusal
weight_cause_triple last c = unpassed_triple (turned_by last c)

unfoldable pub turned_or : ℕ → Option WeightCause → WeightCheck → Result WeightCheck WeightRefusal
turned_or last none c = Ok c
turned_or last (some why) c = Err (turned_by last why)

-- causes 6 and 7, else the weighted sum and whether the weights cover; the last line of the file is 2 + nets
unfoldable pub judged_weights : ℕ → eos.Model → eos.Marking → Weights → Result WeightCheck WeightRefusal
judged_weights most m μ w = turned_or (2 + length m.nets) (weight_refusal m w) (passed_weights most w (weigh m w μ))

-- the weights of the file are judged, or its line at fault is named
unfoldable pub weighed : ℕ → eos.Model → eos.Marking → Text → Outcome Weights → Result WeightCheck WeightRefusal
weighed most m μ s (got w x) = judged_weights most m μ w
weighed most m μ s (bad e) = Err (Unread (faulty s e))

unfoldable pub weights_or : Bool → Model → Marking → Text → Result WeightCheck WeightRefusal
weights_or true m k s = weighed cover_limit (model_of m) (tokens_of (sizes_for m) k) s (read_weight_file (model_of m) s)
weights_or false m k s = Err (Unread NotHeld)

-- checking a weight file for a held model and a held marking: 1, 14, then its lines, then 6 and 7
unfoldable pub weight_checking : Model → Marking → Text → Result WeightCheck WeightRefusal
weight_checking m k s = elim (leb (length s) longest) [ true ↦ weights_or (held_both m k) m k s | false ↦ Err (Unread TooLong) ]
