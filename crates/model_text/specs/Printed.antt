-- The text of a model, up to its `start` line.
use Rattle.std.specs.Prelude.{suc, ◌++◌, length}
use Rattle.text.specs.Bytes.{Text, bytes}
use Rattle.text.specs.Printed.{number_text, list_text, texts, head_text}
use Rattle.eos.specs.Model.{Transition, ObjectNet, Act, move, idle, alone, Event, places}
use Rattle.model.specs.Rules.{Plant}

unfoldable pub sides_text : Transition → Text
sides_text t = list_text (bytes "pre=") t.pre ++ list_text (bytes "post=") t.post

unfoldable pub net_text : ObjectNet → Text
net_text n = number_text (bytes "inner=") n.size ++ (number_text (bytes "steps=") (length n.transitions) ++ texts sides_text n.transitions)

unfoldable pub act_text : Act → Text
act_text (move k) = number_text (bytes "event=") (suc k)
act_text (idle p) = number_text (bytes "idle=") (suc p)
act_text (alone n) = number_text (bytes "alone=") (suc n)

unfoldable pub event_text : Event → Text
event_text e = act_text e.act ++ texts (list_text (bytes "sync=")) e.sync

unfoldable pub plant_text : Plant → Text
plant_text p =
    let m = p.model in
    head_text (bytes "eos=1\n") (bytes "eos=2\n") p.header
    ++ (number_text (bytes "nets=") (length m.nets)
    ++ (number_text (bytes "places=") (places m)
    ++ (list_text (bytes "type=") m.types
    ++ (number_text (bytes "moves=") (length m.moves)
    ++ (texts sides_text m.moves
    ++ (texts net_text m.nets
    ++ (number_text (bytes "events=") (length m.events)
    ++ texts event_text m.events)))))))
