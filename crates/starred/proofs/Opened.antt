-- What the calls compute by: a proof that says `unfolding opened` evaluates them.
use Rattle.text.specs.Bytes.{meet, far, newlines}
use Rattle.text.specs.Number.{made, both, either, literal, digits, number_of, number, negated, signed, ended, item}
use Rattle.text.specs.Lists.{stop_of, joined, values, list_end}
use Rattle.text.specs.Lines as lines
use Rattle.text.specs.Lines.{then, need, many, many_within, behind, read_number, read_row, read_head, read_heads}
use Rattle.text.specs.Repeat.{many_at, fill}
use Rattle.text.specs.Keyed.{keyed_form, read_keyed}
use Rattle.text.specs.TokenLine.{counts_at, beyond_one, more_than_one, timed, token_form, read_token}
use Rattle.text.specs.Answers.{padded}
use Rattle.text.specs.Printed.{decimal_of, decimal, items_text, end_text, texts, number_text, counts_text, token_text}
use Rattle.eos.specs.Counted.{fits}
use Rattle.eos.specs.Firing.{outer, inner, outer_of, inner_of, outer_taken, outer_given, inner_taken, inner_given}
use Rattle.eos.specs.Causes.{first, unless, at, causes, refusal}
use Rattle.eos.specs.Weights.{value, weigh, effect, covers, weight_refusal}
use Rattle.eos.specs.Spread.{binomial, spread}
use Rattle.model.specs.Rules.{takes_part, right_act}
use Rattle.model.specs.Acts.{held_act}
use Rattle.model.specs.Held.{hold_plant, hold_net, hold_nets, hold_event, hold_events, tabled, model_of, net_of, event_of}
use Rattle.model.specs.Test.{empty_past, held_types, held_moves, held_net, held_nets, held_event, empty_event, held_events, held_model}
use Rattle.model_text.specs.Reading.{read_sides, read_net, read_act, read_sync, read_event, read_plant}
use Rattle.marking.specs.Held.{hold_marking, tokens_of, held_token, held_entries}
use Rattle.marking.specs.Printed.{net_token_text, block_text, marking_text}
use Rattle.marking.specs.Reading.{read_net_token, read_block, read_start}
use Rattle.reader.specs.Reading.{read_end, read_lines, read_model_at}
use Rattle.marking.specs.Sizes.{sizes_in}
use Rattle.reader.specs.Answers as reader
use Rattle.reader.specs.Answers.{loaded, restored, model_reading, marking_reading, held_in}
use Rattle.step.specs.Reading.{read_taking, read_step}
use Rattle.runner.specs.Answers.{step_judged, read_then, tried, stepped, held_step, where_held, stepping_in}
use Rattle.keeper.specs.Reading.{read_inner, read_weights_at}
use Rattle.keeper.specs.Answers.{turned_or, judged_weights, weighed, weights_or, weight_checking}
use Rattle.spread.specs.Call.{spread_call}

-- numbers, lists, lines
unfoldable pub lined : Unit {0}
unfolding literal both made far meet newlines digits number_of number negated signed ended item stop_of joined values list_end then need many many_within many_at lines.judged behind
    read_number read_row read_head read_heads counts_at beyond_one more_than_one timed token_form read_token
lined = tt

-- models, markings, steps, weight files
unfoldable pub read : Unit {0}
unfolding takes_part read_sides read_net read_keyed keyed_form either read_act read_sync read_event read_plant read_net_token read_block read_start read_end
    read_lines read_model_at read_taking read_step read_inner read_weights_at
read = tt

-- held models and markings, and their tests
unfoldable pub held : Unit {0}
unfolding padded fill tabled hold_net hold_nets hold_event hold_events hold_plant net_of event_of model_of hold_marking tokens_of sizes_in empty_past held_types held_moves
    held_net held_nets held_act right_act held_event empty_event held_events held_model held_token held_entries held_in
held = tt

-- the rule, the causes, the weights, the spread
unfoldable pub ruled : Unit {0}
unfolding fits outer inner outer_of inner_of outer_taken outer_given inner_taken inner_given first unless at causes refusal value weigh effect covers weight_refusal
    binomial spread
ruled = tt

-- the text of a marking
unfoldable pub written : Unit {0}
unfolding decimal_of decimal items_text end_text texts number_text counts_text token_text net_token_text block_text marking_text
written = tt

-- the calls
unfoldable pub opened : Unit {0}
unfolding lined read held ruled written loaded model_reading restored reader.marking_or marking_reading step_judged read_then tried stepped held_step where_held stepping_in
    turned_or judged_weights weighed weights_or weight_checking spread_call
opened = tt
