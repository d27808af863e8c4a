-- How long the text of a right model is at most.
use Prim.Native.Nat.{ℕ, suc, ◌+◌, ◌≤◌, ◌<◌}
use mathlib.Core.Path.{◌≡◌, refl}
use mathlib.Core.List.{List, [], ◌++◌}
use mathlib.Core.Bool.{true, not, ◌&&◌}
use native.Mathlib.Omega.{arith}
use lib.Dec.{leb, ltb}
use borrow.Author.Tests.{leb-true, ltb-true}
use lib.ListN.{length, get_or, length-append}
use Rattle.text.specs.Bytes.{Text, bytes}
use Rattle.text.proofs.Basics.{and_true}
use Rattle.text.specs.Lines.{every}
use Rattle.text.specs.Printed.{number_text, list_text, texts, head_text}
use Rattle.text.proofs.TestLaws.{within-is, every-at}
use Rattle.text.proofs.LineKinds.{head_holds}
use Rattle.text.proofs.TextLengths.{texts-length, number-length, list_length}
use Rattle.eos.specs.Model.{Transition, ObjectNet, Act, move, idle, alone, Event, places, no_transition, no_net, no_event}
use Rattle.model.specs.Rules.{byte, Plant, Frame, frame_of, right_sides, right_net, right_act, right_plant}
use Rattle.model.proofs.RuleLaws.{list_is, sides_are, net-is, RightEvent, sync_at, Right, right_is, few-nets, few-places, few-moves, few-events, few-steps, right_type, right_move_lem, right_net_lem, right_event_lem}
use Rattle.model_text.specs.Printed.{sides_text, net_text, act_text, event_text, plant_text}

-- a line of a number of at most 3 digits
short : (key : Text) (n : ℕ) → n < 1000 → length (number_text key n) ≤ length key + 4
short key n h = number-length key 2 n h

-- a line of at most 32 numbers of at most 3 digits
row-length : (key : Text) (l : List ℕ) → length l ≤ 32 → ((i : ℕ) → i < length l → get_or l i 0 < 1000) → length (list_text key l) ≤ length key + 129
row-length key l few small = list_length key 2 l 32 few small

bytes-length : (key : Text) (n : ℕ) (l : List ℕ) → length l ≡ n → n ≤ 32 → every byte l ≡ true → length (list_text key l) ≤ length key + 129
bytes-length key n l long few h =
    row-length key l (omega arith) λ i p. omega (arith, leb-true (get_or l i 0) 255 (every-at byte l i 0 h p))

sides_length : (size : ℕ) (t : Transition) → size ≤ 32 → right_sides size t ≡ true → length (sides_text t) ≤ 267
unfolding sides_text
sides_length size t few h =
    let s = sides_are size t h in
    let a = bytes "pre=" in
    let b = bytes "post=" in
    let p = list_is size byte t.pre s.0 in
    let q = list_is size byte t.post s.1 in
    omega (
      arith,
      length-append (list_text a t.pre) (list_text b t.post),
      bytes-length a size t.pre p.0 few p.1,
      bytes-length b size t.post q.0 few q.1,
    )

net-length : (n : ObjectNet) → right_net n ≡ true → length (net_text n) ≤ 8564
unfolding net_text
net-length n h =
    let r = net-is n h in
    let size = (within-is 1 32 n.size r.size).1 in
    let few = (within-is 0 32 (length n.transitions) r.few).1 in
    let a = number_text (bytes "inner=") n.size in
    let b = number_text (bytes "steps=") (length n.transitions) in
    let c = texts sides_text n.transitions in
    let each = texts-length sides_text no_transition 267 n.transitions 32 few (λ i p.
    sides_length n.size (get_or n.transitions i no_transition) size (every-at (right_sides n.size) n.transitions i no_transition r.sides p)) in
    omega (
      arith,
      length-append a (b ++ c),
      length-append b c,
      short (bytes "inner=") n.size (omega arith),
      short (bytes "steps=") (length n.transitions) (omega arith),
    )

act-length : (f : Frame) (a : Act) → f.places ≤ 32 → f.moves ≤ 32 → f.nets ≤ 8 → right_act f a ≡ true → length (act_text a) ≤ 10
unfolding act_text right_act
act-length f (move k) p q n h = short (bytes "event=") (suc k) (omega (arith, ltb-true k f.moves h))
act-length f (idle k) p q n h =
    let u = and_true (not f.alone) (ltb k f.places && leb 1 (f.type k)) h in
    let t = and_true (ltb k f.places) (leb 1 (f.type k)) u.1 in
    omega (arith, short (bytes "idle=") (suc k) (omega (arith, ltb-true k f.places t.0)))
act-length f (alone k) p q n h = short (bytes "alone=") (suc k) (omega (arith, ltb-true k f.nets (and_true f.alone (ltb k f.nets) h).1))

module _ (p : Plant) (right : Right p) where
  event-length : (e : Event) → RightEvent (frame_of p) e → length (event_text e) ≤ 1082
  unfolding event_text
  event-length e r =
      let sync = list_text (bytes "sync=") in
      let nets = few-nets p right in
      let each = texts-length sync [] 134 e.sync 8 (omega (arith, r.long)) (λ i h.
      let s = sync_at (frame_of p) e r i h in
      bytes-length (bytes "sync=") ((frame_of p).steps i) (get_or e.sync i []) s.long (few-steps p right i (omega (arith, r.long))) s.bytes) in
      omega (
        arith,
        length-append (act_text e.act) (texts sync e.sync),
        act-length (frame_of p) e.act (few-places p right) (few-moves p right) (few-nets p right) r.act,
      )

  all_length : length (plant_text p) ≤ 150000
  unfolding plant_text
  all_length =
      let nets = few-nets p right in
      let size = few-places p right in
      let moves = few-moves p right in
      let events = few-events p right in
      let t₁ = head_text (bytes "eos=1\n") (bytes "eos=2\n") p.header in
      let t₂ = number_text (bytes "nets=") (length p.model.nets) in
      let t₃ = number_text (bytes "places=") (places p.model) in
      let t₄ = list_text (bytes "type=") p.model.types in
      let t₅ = number_text (bytes "moves=") (length p.model.moves) in
      let t₆ = texts sides_text p.model.moves in
      let t₇ = texts net_text p.model.nets in
      let t₈ = number_text (bytes "events=") (length p.model.events) in
      let t₉ = texts event_text p.model.events in
      let l₁ : length t₁ ≡ 6 = head_holds (λ t. length t ≡ 6) (bytes "eos=1\n") (bytes "eos=2\n") refl refl p.header in
      let l₂ = short (bytes "nets=") (length p.model.nets) (omega arith) in
      let l₃ = short (bytes "places=") (places p.model) (omega arith) in
      let l₄ = row-length (bytes "type=") p.model.types size (λ i h. omega (arith, right_type p right i h)) in
      let l₅ = short (bytes "moves=") (length p.model.moves) (omega arith) in
      let l₆ = texts-length sides_text no_transition 267 p.model.moves 32 moves (λ i h. sides_length (places p.model) _ size (right_move_lem p right i h)) in
      let l₇ = texts-length net_text no_net 8564 p.model.nets 8 nets (λ i h. net-length _ (right_net_lem p right i h)) in
      let l₈ = short (bytes "events=") (length p.model.events) (omega arith) in
      let l₉ = texts-length event_text no_event 1082 p.model.events 64 events (λ i h. event-length _ (right_event_lem p right i h)) in
      omega (
        arith,
        length-append t₁ (t₂ ++ (t₃ ++ (t₄ ++ (t₅ ++ (t₆ ++ (t₇ ++ (t₈ ++ t₉))))))),
        length-append t₂ (t₃ ++ (t₄ ++ (t₅ ++ (t₆ ++ (t₇ ++ (t₈ ++ t₉)))))),
        length-append t₃ (t₄ ++ (t₅ ++ (t₆ ++ (t₇ ++ (t₈ ++ t₉))))),
        length-append t₄ (t₅ ++ (t₆ ++ (t₇ ++ (t₈ ++ t₉)))),
        length-append t₅ (t₆ ++ (t₇ ++ (t₈ ++ t₉))),
        length-append t₆ (t₇ ++ (t₈ ++ t₉)),
        length-append t₇ (t₈ ++ t₉),
        length-append t₈ t₉,
      )

-- the text of a right model has at most 150,000 bytes
pub plant-length : (p : Plant) → right_plant p ≡ true → length (plant_text p) ≤ 150000
plant-length p h = all_length p (right_is p h)
