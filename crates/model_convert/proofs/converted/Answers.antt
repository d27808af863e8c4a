-- `converted` is the model with `alone`, as it is held.
use borrow.Author.Rules.{rules}
use mathlib.Core.Path.{◌∙◌}
use mathlib.Core.List.{[]}
use lib.ListN.{get_or}
use Rattle.model.specs.Held.{no_event}
use Rattle.model.specs.declared.Event.{Event}
use Rattle.model.proofs.HeldTests.{held-is}
use Rattle.model.proofs.SlotLaws.{made_listed}
use Rattle.model_convert.specs.Converting.{replaced_in}
use Rattle.model_convert.proofs.KeptLaws.{converted_held}
use Rattle.model_convert.proofs.converted.Goals as goal

-- what the code reads past the last event
abbrev outside : Event
outside = record { kind = 0; index = 0; sync = [] }

pub returns-clause-model : goal.returns-clause-model
returns-clause-model c =
    let m = c.args.m.now in
    let s = c.stay-listed in
    let events = made_listed _ _ (λ k. replaced_in m.types (get_or s.new.kept k outside)) 64 (λ k h b q t. search rules) _ no_event c.from_fn.ensures.items in
    c.with_alone.ensures.made
    ∙ converted_held m c.with_alone.ensures.sized (held-is m c.requires) s.result s.ensures.listed s.new.kept s.ensures.kept outside c.from_fn.result events
