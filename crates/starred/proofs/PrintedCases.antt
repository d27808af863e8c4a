-- The printer computes: the model of 01's listing ("One listing, whole"), byte for byte.
use Prim.Native.Nat.{ℕ}
use mathlib.Core.Path.{◌≡◌, refl}
use mathlib.Core.List.{List, [], ◌∷◌}
use Rattle.text.specs.Bytes.{bytes}
use Rattle.text.specs.Lists.{stop_of}
use Rattle.text.specs.Printed.{decimal_of, decimal, items_text, end_text, texts, number_text, list_text, counts_text, token_text}
use Rattle.eos.specs.Counted.{Counted, counted}
use Rattle.eos.specs.Model.{NetToken, Transition, move, idle, Model}
use Rattle.model.specs.Rules.{under}
use Rattle.model_text.specs.Printed.{sides_text, net_text, act_text, event_text, plant_text}
use Rattle.marking.specs.Printed.{net_token_text, block_text, marking_text}
use Rattle.reader.specs.Printed.{model_text}

abbrev onward : Transition
onward = record { pre = 1 ∷ 0 ∷ []; post = 0 ∷ 1 ∷ [] }

abbrev listing : Model
listing = record {
  types = 1 ∷ 1 ∷ [];
  moves = onward ∷ [];
  nets = record { size = 2; transitions = onward ∷ [] } ∷ [];
  events = record { act = move 0; sync = (1 ∷ []) ∷ [] } ∷ record { act = idle 1; sync = (1 ∷ []) ∷ [] } ∷ [];
}

-- one net-token, by its place, from 0, and its counts
abbrev token : ℕ → List ℕ → Counted NetToken
token p x = counted (record { place = p; inside = x }) 1

pub printed-case :
    model_text (record { plant = under 1 listing; start = token 0 (1 ∷ 0 ∷ []) ∷ token 0 (0 ∷ 0 ∷ []) ∷ [] })
    ≡ bytes "eos=1\nnets=1\nplaces=2\ntype=1,1\nmoves=1\npre=1,0\npost=0,1\ninner=2\nsteps=1\npre=1,0\npost=0,1\nevents=2\nevent=1\nsync=1\nidle=2\nsync=1\nstart=2\ntoken=1:1,0\ntoken=1:0,0\n"
unfolding model_text plant_text sides_text net_text act_text event_text marking_text block_text net_token_text number_text list_text counts_text token_text texts
    end_text items_text stop_of decimal decimal_of
printed-case = refl
