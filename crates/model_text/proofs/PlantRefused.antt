-- With which faults a model's text is refused, up to its `start` line: those of its first line that is not as it should be.
use Prim.Native.Nat.{ℕ}
use mathlib.Core.Path.{refl}
use lib.Dec.{leb}
use Rattle.text.specs.Bytes.{Text, bytes}
use Rattle.text.specs.Lines.{in_range}
use Rattle.text.specs.Printed.{list_text}
use Rattle.text.specs.declared.Fault.{Fault}
use Rattle.text.proofs.LinesExactly.{list_exactly}
use Rattle.text.proofs.Refusals.{Refuses, ThenFaults, ManyFaults, ManyThen, made_refuses, then_refuses, many_refuses, many-then}
use Rattle.text.proofs.LinesRefused.{ListFaults, HeadsThen, NumberThen, list_refuses, heads_then, number-then}
use Rattle.model.specs.Rules.{list_of, frame_of, right_sides, right_net, right_event}
use Rattle.model_text.specs.Reading.{plant, eventless, read_plant}
use Rattle.model_text.specs.Printed.{sides_text, net_text, event_text}
use Rattle.model_text.proofs.NetExactly.{sides_exactly, net_exactly}
use Rattle.model_text.proofs.NetRefused.{SidesFaults, NetFaults, sides_refuses, net_refuses}
use Rattle.model_text.proofs.EventExactly.{event_exactly}
use Rattle.model_text.proofs.EventRefused.{EventFaults, event_refuses}

module _ (s : Text) where
  -- of the lines from `eos` to the last event
  abbrev pub PlantFaults : ℕ → Fault → Type 0
  PlantFaults =
      HeadsThen s (bytes "eos=1\n") (bytes "eos=2\n") λ h.
      NumberThen s (bytes "nets=") (in_range 0 8) λ n.
      NumberThen s (bytes "places=") (in_range 1 32) λ p.
      ThenFaults s (list_text (bytes "type=")) (ListFaults s (bytes "type=") p (λ d. leb d n)) (list_of p (λ d. leb d n)) λ types.
      NumberThen s (bytes "moves=") (in_range 0 32) λ k.
      ManyThen s sides_text (SidesFaults s p) (right_sides p) k λ moves.
      ManyThen s net_text (NetFaults s) right_net n λ nets.
      NumberThen s (bytes "events=") (in_range 0 64) λ e.
      ManyFaults s event_text (λ i. EventFaults s (frame_of (eventless h types moves nets))) (λ i. right_event (frame_of (eventless h types moves nets))) 0 e

  pub plant_refuses : Refuses (read_plant s) PlantFaults
  unfolding read_plant
  plant_refuses =
      heads_then (bytes "eos=1\n") (bytes "eos=2\n") refl s (λ h.
      number-then (bytes "nets=") (in_range 0 8) s (λ n.
      number-then (bytes "places=") (in_range 1 32) s (λ p.
      then_refuses (list_exactly (bytes "type=") p (λ d. leb d n) s) (list_refuses (bytes "type=") p (λ d. leb d n) s) (λ types.
      number-then (bytes "moves=") (in_range 0 32) s (λ k.
      many-then (sides_exactly p s) (sides_refuses p s) k (λ moves.
      many-then (net_exactly s) (net_refuses s) n (λ nets.
      number-then (bytes "events=") (in_range 0 64) s (λ e.
      let f = frame_of (eventless h types moves nets) in
      made_refuses (many_refuses (event_exactly f s) (event_refuses f s) e) (λ events. plant h types moves nets events)))))))))
