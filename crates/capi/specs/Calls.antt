-- What the calls answer to C: the number of 01's table, what stands beside it and the column in the place of a refusal, and what was given.
use Rattle.std.specs.Prelude.{ℕ, cond, List, Result, Ok, Err}
use Rattle.marking.specs.declared.Marking.{Marking}
use Rattle.reader.specs.Answers.{read_triple, model_given, marking_given, write_triple, Answered}
use Rattle.reader.specs.declared.ReadRefusal.{ReadRefusal}
use Rattle.reader.specs.declared.WriteRefusal.{WriteRefusal}
use Rattle.reader.specs.declared.ModelReading.{ModelReading}
use Rattle.converter.specs.Answers.{conversion_triple, conversion_given}
use Rattle.converter.specs.declared.Conversion.{Conversion}
use Rattle.converter.specs.declared.ConversionRefusal.{ConversionRefusal}
use Rattle.runner.specs.Answers.{Stepped, step_triple, used_by}
use Rattle.runner_trace.specs.Running.{Ran}
use Rattle.keeper.specs.Answers.{weight_triple, check_given}
use Rattle.keeper.specs.Split.{above, below}
use Rattle.keeper.specs.declared.WeightRefusal.{WeightRefusal}
use Rattle.keeper.specs.declared.WeightCheck.{WeightCheck}
use Rattle.spread.specs.Call.{spread_triple, spread_value}
use Rattle.spread.specs.declared.Beyond.{Beyond}
use Rattle.capi.specs.declared.ModelRead.{ModelRead}
use Rattle.capi.specs.declared.MarkingRead.{MarkingRead}
use Rattle.capi.specs.declared.ModelConverted.{ModelConverted}
use Rattle.capi.specs.declared.TextWritten.{TextWritten}
use Rattle.capi.specs.declared.Weighed.{Weighed}
use Rattle.capi.specs.declared.StepDone.{StepDone}
use Rattle.capi.specs.declared.RunDone.{RunDone}
use Rattle.capi.specs.declared.Shared.{Shared}

-- the version of the header and of the archive, here 6.0.0: 10,000 times its first number, 100 times its second, and its third
abbrev pub version : ℕ
version = 60000

-- refused, the empty model and no net-token
abbrev pub model_read : Result ModelReading ReadRefusal → ModelRead
model_read r = record { number = (read_triple r).number; beside = (read_triple r).beside; column = (read_triple r).column; model = (model_given r).model; start = (model_given r).start }

abbrev pub marking_read : Result Marking ReadRefusal → MarkingRead
marking_read r = record { number = (read_triple r).number; beside = (read_triple r).beside; column = (read_triple r).column; marking = marking_given r }

-- refused, the empty model and no number
abbrev pub model_converted : Result Conversion ConversionRefusal → ModelConverted
model_converted r = record {
  number = (conversion_triple r).number;
  beside = (conversion_triple r).beside;
  column = (conversion_triple r).column;
  model = (conversion_given r).model;
  numbers = (conversion_given r).numbers;
}

-- the bytes written; a refused writing wrote none
abbrev pub bytes_of : Result ℕ WriteRefusal → ℕ
bytes_of (Ok n) = n
bytes_of (Err e) = 0

abbrev pub text_written : Result ℕ WriteRefusal → TextWritten
text_written a = record { number = (write_triple a).number; beside = (write_triple a).beside; column = (write_triple a).column; bytes = bytes_of a }

-- what a writer answers to C, and the lent bytes after it
pub record AnsweredToC : Type 0 where
  pub answer : TextWritten
  pub bytes : List ℕ

abbrev pub written_to_c : Answered → AnsweredToC
written_to_c l = record { answer = text_written l.answer; bytes = l.bytes }

-- the sum by its part above 0 and its part below 0; refused, sum 0 and cover 0
abbrev pub weights_checked : Result WeightCheck WeightRefusal → Weighed
weights_checked c = record {
  number = (weight_triple c).number;
  beside = (weight_triple c).beside;
  column = (weight_triple c).column;
  above = above (check_given c).sum;
  below = below (check_given c).sum;
  cover = cond (check_given c).cover 1 0;
}

abbrev pub step_done : Stepped → StepDone
step_done r = record { number = (step_triple r.answer).number; beside = (step_triple r.answer).beside; column = (step_triple r.answer).column; used = used_by r.answer; marking = r.marking }

abbrev pub run_done : Ran → RunDone
run_done r = record { number = (step_triple r.stop).number; beside = (step_triple r.stop).beside; column = (step_triple r.stop).column; fired = r.fired; at = r.at; marking = r.marking }

abbrev pub shared : Result ℕ Beyond → Shared
shared a = record { number = (spread_triple a).number; beside = (spread_triple a).beside; column = (spread_triple a).column; ways = spread_value a }
