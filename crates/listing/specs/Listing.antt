-- What the program `rackrun` prints (01, "One listing, whole").
use Rattle.std.specs.Prelude.{ℕ, ℤ, Bool, true, false, cond, [], ◌∷◌, ◌++◌, leb, length, Result, Ok, Err}
use Rattle.text.specs.Bytes.{Text, bytes}
use Rattle.text.specs.Printed.{number_text, list_text, weights_text}
use Rattle.eos.specs.Causes.{Refusal}
use Rattle.eos.specs.Model as eos
use Rattle.model.specs.declared.Model.{Model}
use Rattle.marking.specs.Held.{tokens_of}
use Rattle.marking.specs.Printed.{block_text}
use Rattle.marking.specs.declared.Marking.{Marking}
use Rattle.marking.specs.Sizes.{sizes_for}
use Rattle.reader.specs.Answers.{pair, unread_triple, model_reading}
use Rattle.reader.specs.declared.ReadRefusal.{ReadRefusal}
use Rattle.reader.specs.declared.ReadRefusal.TheVariants.{TooLong}
use Rattle.reader.specs.declared.ModelReading.{ModelReading}
use Rattle.runner.specs.Answers.{step_triple}
use Rattle.runner_trace.specs.Running.{Ran, unrun, running}
use Rattle.keeper.specs.Answers.{unpassed_triple, weight_checking}
use Rattle.keeper.specs.declared.WeightRefusal.{WeightRefusal}
use Rattle.keeper.specs.declared.WeightRefusal.TheVariants.{Unread}
use Rattle.keeper.specs.declared.WeightCheck.{WeightCheck}

-- ---- the three files: "in the program: file over 65,536" is 1

abbrev pub file_longest : ℕ
file_longest = 65536

unfoldable pub model_file : Text → Result ModelReading ReadRefusal
model_file s = elim (leb (length s) file_longest) [ true ↦ model_reading s | false ↦ Err TooLong ]

unfoldable pub weights_file : Model → Marking → Text → Result WeightCheck WeightRefusal
weights_file m k s = elim (leb (length s) file_longest) [ true ↦ weight_checking m k s | false ↦ Err (Unread TooLong) ]

unfoldable pub trace_file : Model → Marking → Text → Ran
trace_file m k s = elim (leb (length s) file_longest) [ true ↦ running m k s | false ↦ unrun TooLong k ]

-- ---- the lines

-- "number and what stands beside it", and 02: "`rackrun` prints triples, the column 0 for all other outcomes"
unfoldable pub triple_text : Text → Refusal → Text
triple_text key r = list_text key (r.number ∷ r.beside ∷ r.column ∷ [])

-- the weighted sum, with a minus sign if it is below 0
unfoldable pub sum_text : ℤ → Text
sum_text z = weights_text (bytes "sum=") (z ∷ [])

-- "cover is 1 or 0"
unfoldable pub cover_text : Bool → Text
cover_text cover = number_text (bytes "cover=") (cond cover 1 0)

-- the steps fired, the stop, and the net-tokens held after it
unfoldable pub run_text : Model → Ran → Text
run_text m r =
    number_text (bytes "fired=") r.fired
    ++ (triple_text (bytes "stop=") (step_triple r.stop) ++ block_text (bytes "held=") (eos.entries (tokens_of (sizes_for m) r.marking)))

-- ---- the listing

-- "the listing ends after the first of model, weights that is not 0,0"

-- from the weights on: what passed has its sum and its cover, and the run follows
unfoldable pub with_weights : Model → Marking → Text → Result WeightCheck WeightRefusal → Text
with_weights m k trace (Ok c) = triple_text (bytes "weights=") (pair 0 0) ++ (sum_text c.sum ++ (cover_text c.cover ++ run_text m (trace_file m k trace)))
with_weights m k trace (Err e) = triple_text (bytes "weights=") (unpassed_triple e)

-- for a model and its start
abbrev pub after_model : Model → Marking → Text → Text → Text
after_model m k weights trace = with_weights m k trace (weights_file m k weights)

unfoldable pub with_model : Text → Text → Result ModelReading ReadRefusal → Text
with_model weights trace (Ok r) = triple_text (bytes "model=") (pair 0 0) ++ after_model r.model r.start weights trace
with_model weights trace (Err e) = triple_text (bytes "model=") (unread_triple e)

-- for the texts of the files `model`, `weights` and `trace`
unfoldable pub listing_text : Text → Text → Text → Text
listing_text model weights trace = with_model weights trace (model_file model)
