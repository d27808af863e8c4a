-- A model's text is accepted exactly where it is printed and right.
use mathlib.Core.Path.{refl, ap, sym}
use mathlib.Core.Bool.{true}
use lib.Dec.{leb}
use lib.ListN.{length}
use Rattle.text.specs.Bytes.{Text, bytes}
use Rattle.text.specs.Lines.{need, in_range}
use Rattle.text.proofs.TestLaws.{eqb_and, and_eqb}
use Rattle.text.proofs.Exactly.{Exactly, many_exactly}
use Rattle.text.proofs.LinesExactly.{number_exactly, list_exactly, heads_exactly}
use Rattle.text.proofs.ChainExactly.{exactly_by, first_makes, last_makes}
use Rattle.eos.specs.Model.{places}
use Rattle.model.specs.Rules.{Plant, frame_of, right_net, right_plant}
use Rattle.model.proofs.RuleLaws.{right_is, is_right}
use Rattle.model_text.specs.Reading.{read_net, plant, eventless, read_plant}
use Rattle.model_text.specs.Printed.{sides_text, net_text, event_text, plant_text}
use Rattle.model_text.proofs.NetExactly.{sides_exactly, net_exactly}
use Rattle.model_text.proofs.EventExactly.{event_exactly}
use Rattle.text.specs.declared.Cause.TheVariants.{Syntax}

-- the lines from `eos` to the last event
pub plant_exactly : (s : Text) → Exactly s (read_plant s) plant_text right_plant
unfolding read_plant plant_text right_plant need
plant_exactly s =
    exactly_by
    (first_makes (heads_exactly (bytes "eos=1\n") (bytes "eos=2\n") refl s)
    (λ h. first_makes (number_exactly (bytes "nets=") (in_range 0 8) s)
    (λ n. first_makes (number_exactly (bytes "places=") (in_range 1 32) s)
    (λ p. first_makes (list_exactly (bytes "type=") p (λ d. leb d n) s)
    (λ types. first_makes (number_exactly (bytes "moves=") (in_range 0 32) s)
    (λ k. first_makes (many_exactly s _ sides_text _ (sides_exactly p s) k)
    (λ moves. first_makes (many_exactly s (read_net s) net_text right_net (net_exactly s) n)
    (λ nets. first_makes (number_exactly (bytes "events=") (in_range 0 64) s)
    (λ e. last_makes (many_exactly s _ event_text _ (event_exactly (frame_of (eventless h types moves nets)) s) e)
    (λ events. true) Syntax (λ events. plant h types moves nets events) (λ p. p.model.events) (λ events g. refl))
    (λ m. length m.model.events) (λ e m h r. sym (eqb_and (length m.model.events) e _ r.0).0))
    (λ m. m.model.nets) (λ nets m h r. ap (λ (m : Plant). m.model.nets) r.1.2))
    (λ m. m.model.moves) (λ moves m h r. ap (λ (m : Plant). m.model.moves) r.1.1.2))
    (λ m. length m.model.moves) (λ k m h r. sym (eqb_and (length m.model.moves) k _ r.0).0))
    (λ m. m.model.types) (λ types m h r. ap (λ (m : Plant). m.model.types) r.1.1.1.1.2))
    (λ m. places m.model) (λ p m h r. sym (eqb_and (places m.model) p _ r.0).0))
    (λ m. length m.model.nets) (λ n m h r. sym (eqb_and (length m.model.nets) n _ r.1.1.1.1.0).0))
    (λ m. m.header) (λ v m h r. ap (λ (m : Plant). m.header) r.1.1.1.1.1.1.1.2))
    (λ m h.
    let moves = h.1.1.1.1 in
    let nets = moves.1.1 in
    let events = nets.1 in
    is_right m (record {
      header = h.0;
      nets-few = h.1.0;
      places-few = h.1.1.0;
      types = (eqb_and (places m.model) (places m.model) _ h.1.1.1.0).1;
      moves-few = moves.0;
      moves = (eqb_and (length m.model.moves) (length m.model.moves) _ moves.1.0).1;
      nets = (eqb_and (length m.model.nets) (length m.model.nets) _ nets.0).1;
      events-few = events.0;
      events = (eqb_and (length m.model.events) (length m.model.events) _ events.1.0).1;
    }))
    (λ m h.
    let r = right_is m h in
    let types = and_eqb (places m.model) (places m.model) _ refl r.types in
    let moves = and_eqb (length m.model.moves) (length m.model.moves) _ refl r.moves in
    let nets = and_eqb (length m.model.nets) (length m.model.nets) _ refl r.nets in
    let events = and_eqb (length m.model.events) (length m.model.events) _ refl r.events in
    (r.header, (r.nets-few, (r.places-few, (types, (r.moves-few, (moves, (nets, (r.events-few, (events, refl, refl))))))))))
