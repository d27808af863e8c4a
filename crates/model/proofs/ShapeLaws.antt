-- What a held model is, part by part: as many object nets and events as it says, and each where it is held.
use Prim.Native.Nat.{ℕ, ◌≤◌, ◌<◌}
use mathlib.Core.Path.{◌≡◌}
use native.Mathlib.Omega.{arith}
use lib.ListN.{length, get_or}
use lib.Seq.{length-take-le}
use Rattle.eos.specs.Model as eos
use Rattle.model.specs.Held.{no_net, no_event, net_of, event_of, model_of}
use Rattle.model.specs.declared.Model.{Model}
use Rattle.model.proofs.SlotLaws.{length-listed, listed_at}

module _ (m : Model) where
  pub nets-long : length (model_of m).nets ≡ m.nets
  unfolding model_of
  nets-long = length-listed (λ i. net_of (get_or m.objects i no_net)) 0 m.nets

  pub events-long : length (model_of m).events ≡ m.listed
  unfolding model_of
  events-long = length-listed (λ i. event_of m.nets m.objects (get_or m.events i no_event)) 0 m.listed

  pub places-long : length m.types ≡ 32 → m.places ≤ 32 → eos.places (model_of m) ≡ m.places
  unfolding model_of
  places-long e h = length-take-le m.places m.types (omega arith)

  pub net-is : (i : ℕ) → i < m.nets → eos.net (model_of m) i ≡ net_of (get_or m.objects i no_net)
  unfolding model_of
  net-is i h = listed_at (λ i. net_of (get_or m.objects i no_net)) m.nets i eos.no_net h

  pub event-is : (i : ℕ) → i < m.listed → eos.event (model_of m) i ≡ event_of m.nets m.objects (get_or m.events i no_event)
  unfolding model_of
  event-is i h = listed_at (λ i. event_of m.nets m.objects (get_or m.events i no_event)) m.listed i eos.no_event h
