-- What a right model is held as passes the test of a held model.
use Prim.Native.Nat.{ℕ, ◌≤◌, ◌<◌}
use mathlib.Core.Path.{◌≡◌, refl, ap, ap₂, ◌∙◌}
use mathlib.Core.List.{List, []}
use mathlib.Core.Bool.{true, ◌&&◌}
use native.Mathlib.Omega.{arith}
use lib.Dec.{leb, eqb}
use borrow.Author.Tests.{eq-eqb, le-leb}
use lib.ListN.{length, get_or, get_or-eq_default}
use Rattle.text.specs.Lines.{in_range}
use Rattle.text.specs.Repeat.{fill}
use Rattle.text.proofs.TestLaws.{and_both, within-is, every-at}
use Rattle.eos.specs.Model as eos
use Rattle.model.specs.Rules.{nth, Plant, frame_of, right_sides, own_net, right_plant}
use Rattle.model.specs.Held.{pre_of, post_of, row, tabled, hold_net, hold_event, no_net, no_event, hold_events, hold_plant, row_at}
use Rattle.model.specs.Test.{empty, empty_past, used_of, held_types, held_moves, held_net, held_nets, held_events, frame_in, held_event, empty_event, held_model}
use Rattle.model.proofs.RuleLaws.{sides_long, RightNet, net-is, RightEvent, sync_at, Right, right_is, few-nets, few-places, few-moves, few-events, few-steps, right_type, right_move_lem, right_net_lem, right_event_lem}
use Rattle.model.proofs.PaddedRows.{nth-padded, nth_padded_all, empty-padded}
use Rattle.model.proofs.SlotLaws.{cond_below, cond_from, by_index}
use Rattle.model.proofs.TableLaws.{tabled-row, tabled_past}
use Rattle.model.proofs.HoldModel.{net-at, net_past, event-at, event_past, steps-at}
use Rattle.model.proofs.HeldTests.{is_held, types_of, count_test, nets_of_lem, events_of_lem, are_moves, in_event, part_same}
use Rattle.model.proofs.HeldActs.{act_same, own_same}

-- the events of what a model is held as depend on what the model's depend on
pub frame_same : (d : Plant) → length d.model.types ≤ 32 → length d.model.nets ≤ 8 → frame_in (hold_plant d) ≡ frame_of d
unfolding hold_plant
frame_same d places nets =
    let p = nth_padded_all d.model.types places in
    λ i. record { alone = eqb d.header 2; places = length d.model.types; moves = length d.model.moves; nets = length d.model.nets; type = p i; steps = λ n. steps-at d.model.nets n nets i }

-- a table of transitions uses no more than it holds
sides_past : (f : eos.Transition → List ℕ) → f eos.no_transition ≡ [] → (size : ℕ) (l : List eos.Transition) → size ≤ 32 → length l ≤ 32
    → ((i : ℕ) → i < length l → length (f (get_or l i eos.no_transition)) ≡ size) → empty_past 32 (used_of (length l) size) (tabled f 32 l) ≡ true
sides_past f nothing size l small few h = tabled_past f eos.no_transition nothing 32 (λ i. size) l few (λ i p. (small, h i p))

-- a net
net_passes : (n : eos.ObjectNet) → n.size ≤ 32 → length n.transitions ≤ 32
    → ((i : ℕ) → i < length n.transitions → right_sides n.size (get_or n.transitions i eos.no_transition) ≡ true) → held_net (hold_net n) ≡ true
unfolding held_net hold_net
net_passes n size few h =
    let l = n.transitions in
    and_both _ _
    (sides_past pre_of refl n.size l size few (λ i p. (sides_long n.size (get_or l i eos.no_transition) (h i p)).0))
    (sides_past post_of refl n.size l size few (λ i p. (sides_long n.size (get_or l i eos.no_transition) (h i p)).1))

none_passes : held_net no_net ≡ true
unfolding hold_net tabled fill
none_passes = net_passes eos.no_net (omega arith) (omega arith) (λ i p. absurd (omega arith))

empty-event : empty_event no_event ≡ true
unfolding empty_event
empty-event = refl

module _ (d : Plant) (right : Right d) where
  places : length d.model.types ≤ 32
  places = few-places d right

  moves : length d.model.moves ≤ 32
  moves = few-moves d right

  nets : length d.model.nets ≤ 8
  nets = few-nets d right

  types_pass : held_types (hold_plant d) ≡ true
  unfolding hold_plant
  types_pass =
      types_of (hold_plant d) λ p q.
      let v = nth d.model.types p in
      let below = leb v (length d.model.nets) in
      rw (nth-padded d.model.types places p)
      (by_index (length d.model.types) p
      (λ h. rw (cond_below (length d.model.types) p below (eqb v 0) h) (le-leb v (length d.model.nets) (right_type d right p h)))
      (λ h. rw (cond_from (length d.model.types) p below (eqb v 0) h) (eq-eqb v 0 (get_or-eq_default d.model.types 0 h))))

  move-long : (i : ℕ) → i < length d.model.moves
      → (length (get_or d.model.moves i eos.no_transition).pre ≡ length d.model.types) × (length (get_or d.model.moves i eos.no_transition).post ≡ length d.model.types)
  move-long i h = sides_long (length d.model.types) (get_or d.model.moves i eos.no_transition) (right_move_lem d right i h)

  moves_pass : held_moves (hold_plant d) ≡ true
  unfolding hold_plant
  moves_pass = are_moves (hold_plant d) (record {
    pre = sides_past pre_of refl (length d.model.types) d.model.moves places moves (λ i p. (move-long i p).0);
    post = sides_past post_of refl (length d.model.types) d.model.moves places moves (λ i p. (move-long i p).1);
  })

  net_pass : (k : ℕ) → k < length d.model.nets → (n : eos.ObjectNet) → RightNet n
      → (count_test (length d.model.nets) k (hold_net n) && held_net (hold_net n)) ≡ true
  unfolding hold_net
  net_pass k h n r =
      let size = in_range 1 32 n.size in
      let few = in_range 0 32 (length n.transitions) in
      and_both (count_test (length d.model.nets) k (hold_net n)) (held_net (hold_net n))
      (rw (cond_below (length d.model.nets) k (size && few) (eqb n.size 0 && eqb (length n.transitions) 0) h) (and_both size few r.size r.few))
      (net_passes n (within-is 1 32 n.size r.size).1 (within-is 0 32 (length n.transitions) r.few).1
      (λ i p. every-at (right_sides n.size) n.transitions i eos.no_transition r.sides p))

  nets_pass : held_nets (hold_plant d) ≡ true
  unfolding hold_plant
  nets_pass =
      nets_of_lem (hold_plant d) λ k q.
      by_index (length d.model.nets) k
      (λ h. rw (net-at d.model.nets k nets h) (net_pass k h (get_or d.model.nets k eos.no_net) (net-is _ (right_net_lem d right k h))))
      (λ h. rw (net_past d.model.nets k nets h, cond_from (length d.model.nets) k (in_range 1 32 0 && in_range 0 32 0) (eqb 0 0 && eqb 0 0) h) none_passes)

  event_pass : (e : eos.Event) → RightEvent (frame_of d) e → held_event (frame_of d) (hold_event e) ≡ true
  unfolding hold_event
  event_pass e r =
      let f = frame_of d in
      let few : length e.sync ≤ 8 = omega (arith, r.long, nets) in
      let past = tabled_past row [] refl 8 f.steps e.sync few (λ i p. (few-steps d right i (omega (arith, r.long)), (sync_at f e r i p).long)) in
      in_event f (hold_event e) (record {
        act = act_same f e.act ∙ r.act;
        past = rw r.long at past;
        part = λ n p.
            let s = sync_at f e r n (omega (arith, r.long)) in
            let v = get_or e.sync n [] in
            let held = row_at (tabled row 8 e.sync) n in
            let same : empty held ≡ empty v =
            ap empty (tabled-row row [] refl 8 e.sync few n (omega (arith, nets))) ∙ empty-padded v (omega (arith, s.long, few-steps d right n p)) in
            rw (own_same f.type e.act, part_same (own_net f.type e.act) n held v same) s.part;
      })

  events_pass : held_events (hold_plant d) ≡ true
  unfolding hold_plant
  events_pass =
      events_of_lem (hold_plant d) λ k q.
      let f = frame_in (hold_plant d) in
      let e = get_or (hold_events d.model.events) k no_event in
      let few = few-events d right in
      by_index (length d.model.events) k
      (λ h.
      cond_below (length d.model.events) k (held_event f e) (empty_event e) h ∙ ap₂ held_event (frame_same d places nets) (event-at d.model.events k few h)
      ∙ event_pass (get_or d.model.events k eos.no_event) (right_event_lem d right k h))
      (λ h. cond_from (length d.model.events) k (held_event f e) (empty_event e) h ∙ ap empty_event (event_past d.model.events k few h) ∙ empty-event)

  passes : held_model (hold_plant d) ≡ true
  unfolding hold_plant
  passes = is_held (hold_plant d) (record {
    header = right.header;
    nets-few = right.nets-few;
    places-few = right.places-few;
    moves-few = right.moves-few;
    events-few = right.events-few;
    types = types_pass;
    moves = moves_pass;
    nets = nets_pass;
    events = events_pass;
  })

-- what a right model is held as passes the test
pub hold_held : (d : Plant) → right_plant d ≡ true → held_model (hold_plant d) ≡ true
hold_held d h = passes d (right_is d h)
