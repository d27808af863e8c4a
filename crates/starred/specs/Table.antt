-- The starred cases of 01 ("Edges") as a table, and worked cases of 02: what is lent to the calls, and what comes of it.
use Rattle.std.specs.Prelude.{ℕ, ℤ, pos, Bool, true, false, List, [], ◌∷◌, ◌++◌, replicate, Ok, Err}
use Rattle.std.specs.Prelude as code
use Rattle.text.specs.Bytes.{Text, bytes}
use Rattle.text.specs.Printed.{texts}
use Rattle.eos.specs.Causes.{Refusal}
use Rattle.model.specs.declared.Model.{Model}
use Rattle.marking.specs.Held.{tokens_of}
use Rattle.marking.specs.Printed.{marking_text}
use Rattle.marking.specs.Sizes.{sizes_for}
use Rattle.marking.specs.declared.Marking.{Marking}
use Rattle.reader.specs.Answers.{pair, unread_triple, model_reading, marking_reading}
use Rattle.reader.specs.declared.ReadRefusal.{ReadRefusal}
use Rattle.reader.specs.declared.ModelReading.{ModelReading}
use Rattle.runner.specs.Answers.{Stepped, step_triple, stepping}
use Rattle.keeper.specs.Answers.{weight_triple, check_given, weight_checking}
use Rattle.keeper.specs.declared.WeightRefusal.{WeightRefusal}
use Rattle.keeper.specs.declared.WeightCheck.{WeightCheck}
use Rattle.spread.specs.Call.{spread_triple, spread_value, spread_call}
use Rattle.starred.specs.Texts.{listed_model, listed_weights, first_step, second_step}

-- ---- inputs and outcomes

-- what is lent to the calls of a case
pub data Input : Type 0 where
  -- the text of a model, and a weight file for it and its start
  weights : Text → Text → Input
  -- the text of a model, the written marking that the call is lent, and a step
  step : Text → Text → Text → Input
  -- like tokens, and racks
  spread : ℕ → ℕ → Input

-- what comes of it: 01's number, what stands beside it, and what is given
pub data Result : Type 0 where
  -- the model or the marking is refused
  unread : Refusal → Result
  -- the sum, and the cover
  of_weights : Refusal → ℤ → Bool → Result
  -- the marking after the step, as it is written
  of_step : Refusal → Text → Result
  -- the number of ways
  of_spread : Refusal → ℕ → Result

-- ---- what the definitions give

-- a refused reading ends a case
unfoldable pub once_read : {A : Type 0} → code.Result A ReadRefusal → (A → Result) → Result
once_read (Ok a) f = f a
once_read (Err e) f = unread (unread_triple e)

unfoldable pub checked : code.Result WeightCheck WeightRefusal → Result
checked c = of_weights (weight_triple c) (check_given c).sum (check_given c).cover

unfoldable pub step_outcome : Model → Stepped → Result
step_outcome m r = of_step (step_triple r.answer) (marking_text (tokens_of (sizes_for m) r.marking))

unfoldable pub counted : ℕ → ℕ → Result
counted n k = let a = spread_call n k in of_spread (spread_triple a) (spread_value a)

-- once the model is read, and once the marking is
unfoldable pub check_for : Text → ModelReading → Result
check_for file r = checked (weight_checking r.model r.start file)

unfoldable pub step_on : Text → Model → Marking → Result
step_on text m k = step_outcome m (stepping m k text)

unfoldable pub step_for : Text → Text → ModelReading → Result
step_for marking text r = once_read (marking_reading r.model marking) (step_on text r.model)

unfoldable pub outcome_of : Input → Result
outcome_of (weights model file) = once_read (model_reading model) (check_for file)
outcome_of (step model marking text) = once_read (model_reading model) (step_for marking text)
outcome_of (spread n k) = counted n k

-- ---- the rows

pub record Case : Type 0 where
  pub input : Input
  pub outcome : Result

infix 2 ◌gives◌
abbrev pub ◌gives◌ : Input → Result → Case
i gives o = record { input = i; outcome = o }

-- accepted, passed, fired
abbrev pub fine : Refusal
fine = pair 0 0

-- two racks are taken; the inner pre is 1,1
abbrev pub two_racks : Text
two_racks =
    bytes "eos=1\nnets=1\nplaces=2\ntype=1,1\nmoves=1\npre=2,0\npost=0,2\n" ++ bytes "inner=2\nsteps=1\npre=1,1\npost=0,1\n"
    ++ bytes "events=1\nevent=1\nsync=1\n" ++ bytes "start=2\ntoken=1:1,0\ntoken=1:0,1\n"

-- the move's pre is empty, and its post has one typed place; no transition is counted
abbrev pub new_rack : Text
new_rack =
    bytes "eos=1\nnets=1\nplaces=1\ntype=1\nmoves=1\npre=0\npost=1\n" ++ bytes "inner=1\nsteps=1\npre=0\npost=1\n"
    ++ bytes "events=1\nevent=1\nsync=0\n" ++ bytes "start=0\n"

-- 256 racks, empty but for one token in one of them
abbrev pub full_hall : Text
full_hall =
    bytes "eos=1\nnets=1\nplaces=1\ntype=1\nmoves=0\ninner=1\nsteps=0\nevents=0\n" ++ bytes "start=256\ntoken=1:1\n"
    ++ texts (λ t. t) (replicate 255 (bytes "token=1:0\n"))

-- the listing's start, and the racks after its first step
abbrev pub listed_start : Text
listed_start = bytes "start=2\ntoken=1:0,0\ntoken=1:1,0\n"

abbrev pub listed_after : Text
listed_after = bytes "start=2\ntoken=1:0,0\ntoken=2:0,1\n"

-- "That model and weights: sum 3, cover 1. Outer weights 1,0: event 1 gives 7, beside it 1"
abbrev pub listed_weighings : List Case
listed_weighings =
    (weights listed_model listed_weights gives of_weights fine (pos 3) true)
    ∷ (weights listed_model (bytes "inv=1\nouter=1,0\ninner=1,1\n") gives of_weights (pair 7 1) (pos 0) false)
    ∷ []

-- "First step above fires. Second is 9, net 1. Giving 2:1,0 in the first is 10, net 1"
abbrev pub listed_steps : List Case
listed_steps =
    (step listed_model listed_start first_step gives of_step fine listed_after)
    ∷ (step listed_model listed_after second_step gives of_step (pair 9 1) listed_after)
    ∷ (step listed_model listed_start (bytes "fire=1\ntake=1\ntoken=1:1,0\ngive=1\ntoken=2:1,0\n") gives of_step (pair 10 1) listed_start)
    ∷ []

-- "Taking 1:1,0 where the marking has only 1:0,1, all else right: 11"; its token line is the third.
-- "Two racks taken, insides 1,0 and 0,1, with an inner pre of 1,1: allowed"
abbrev pub insides : List Case
insides =
    (step listed_model (bytes "start=1\ntoken=1:0,1\n") first_step gives of_step (pair 11 3) (bytes "start=1\ntoken=1:0,1\n"))
    ∷ (step two_racks (bytes "start=2\ntoken=1:1,0\ntoken=1:0,1\n") (bytes "fire=1\ntake=2\ntoken=1:1,0\ntoken=1:0,1\ngive=2\ntoken=2:0,0\ntoken=2:0,1\n")
    gives of_step fine (bytes "start=2\ntoken=2:0,0\ntoken=2:0,1\n"))
    ∷ []

-- "A move with empty pre and one typed place in post gives an empty rack; an inside of 1 without a sync is 10"
abbrev pub new_racks : List Case
new_racks =
    (step new_rack (bytes "start=0\n") (bytes "fire=1\ntake=0\ngive=1\ntoken=1:0\n") gives of_step fine (bytes "start=1\ntoken=1:0\n"))
    ∷ (step new_rack (bytes "start=0\n") (bytes "fire=1\ntake=0\ngive=1\ntoken=1:1\n") gives of_step (pair 10 1) (bytes "start=0\n"))
    ∷ []

-- "256 racks, empty but for one token in one of them": "Outer 2, inner 1 gives 513, cover 1"
abbrev pub full_hall_weighing : List Case
full_hall_weighing = (weights full_hall (bytes "inv=1\nouter=2\ninner=1\n") gives of_weights fine (pos 513) true) ∷ []

-- "Spread: (0,0) is 1, (3,0) is 0, (2,3) is 6"
abbrev pub spread_cases : List Case
spread_cases = (spread 0 0 gives of_spread fine 1) ∷ (spread 3 0 gives of_spread fine 0) ∷ (spread 2 3 gives of_spread fine 6) ∷ []

-- 02, K2: racks are scrapped by a move whose post has no place; the inner pre is 1,1
abbrev pub scrapping : Text
scrapping =
    bytes "eos=1\nnets=1\nplaces=1\ntype=1\nmoves=1\npre=1\npost=0\n" ++ bytes "inner=2\nsteps=1\npre=1,1\npost=0,0\n"
    ++ bytes "events=1\nevent=1\nsync=1\n" ++ bytes "start=2\ntoken=1:1,1\ntoken=1:1,2\n"

-- "such a rack leaves only when the event's own pre empties what was taken": one that it empties leaves, one with a token more is 10, net 1
abbrev pub leaving_racks : List Case
leaving_racks =
    (step scrapping (bytes "start=2\ntoken=1:1,1\ntoken=1:1,2\n") (bytes "fire=1\ntake=1\ntoken=1:1,1\ngive=0\n") gives of_step fine (bytes "start=1\ntoken=1:1,2\n"))
    ∷ (step scrapping (bytes "start=1\ntoken=1:1,2\n") (bytes "fire=1\ntake=1\ntoken=1:1,2\ngive=0\n") gives of_step (pair 10 1) (bytes "start=1\ntoken=1:1,2\n"))
    ∷ []

-- 02, K7: an event takes two racks and gives two carts, which are black; another takes a rack and gives one at the same place
abbrev pub carts : Text
carts =
    bytes "eos=1\nnets=1\nplaces=2\ntype=1,0\nmoves=2\npre=2,0\npost=0,2\npre=1,0\npost=1,0\n" ++ bytes "inner=1\nsteps=0\n"
    ++ bytes "events=2\nevent=1\nsync=\nevent=2\nsync=\n" ++ bytes "start=1\ntoken=1:0*2\n"

-- both in one line
abbrev pub two_at_once : Text
two_at_once = bytes "fire=1\ntake=1\ntoken=1:0*2\ngive=1\ntoken=2:*2\n"

-- `*2` in a start, a take and a give; likes split over lines; a line of more likes than the marking has is 11
abbrev pub counted_lines : List Case
counted_lines =
    (step carts (bytes "start=1\ntoken=1:0*2\n") two_at_once gives of_step fine (bytes "start=1\ntoken=2:*2\n"))
    ∷ (step carts (bytes "start=2\ntoken=1:0\ntoken=1:0*2\n") (bytes "fire=1\ntake=2\ntoken=1:0\ntoken=1:0\ngive=2\ntoken=2:\ntoken=2:\n")
    gives of_step fine (bytes "start=2\ntoken=1:0\ntoken=2:*2\n"))
    ∷ (step carts (bytes "start=2\ntoken=1:0\ntoken=1:1\n") two_at_once gives of_step (pair 11 3) (bytes "start=2\ntoken=1:0\ntoken=1:1\n"))
    ∷ []

-- over 65,535 alike are 12: in a start beside the token line
abbrev pub alike_read : List Case
alike_read = (step carts (bytes "start=2\ntoken=1:0*65535\ntoken=1:0\n") two_at_once gives unread (pair 12 3)) ∷ []

-- in a step beside its `give` line
abbrev pub alike_given : List Case
alike_given =
    (step carts (bytes "start=2\ntoken=1:0*2\ntoken=2:*65534\n") two_at_once gives of_step (pair 12 4) (bytes "start=2\ntoken=1:0*2\ntoken=2:*65534\n"))
    ∷ []

-- of 65,535 alike one is taken, and one given
abbrev pub alike_exchanged : List Case
alike_exchanged =
    (step carts (bytes "start=1\ntoken=1:0*65535\n") (bytes "fire=2\ntake=1\ntoken=1:0\ngive=1\ntoken=1:0\n") gives of_step fine (bytes "start=1\ntoken=1:0*65535\n"))
    ∷ []

abbrev pub counted_racks : List Case
counted_racks = counted_lines ++ (alike_read ++ (alike_given ++ alike_exchanged))

-- all starred cases
abbrev pub rows : List Case
rows = listed_weighings ++ (listed_steps ++ (insides ++ (new_racks ++ (full_hall_weighing ++ spread_cases))))
