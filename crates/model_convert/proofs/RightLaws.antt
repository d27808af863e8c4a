-- The model with `alone` of a right model is right, under the header for it.
use Prim.Native.Nat.{ℕ, pred, ◌≤◌, ◌<◌}
use mathlib.Core.Path.{◌≡◌, refl, sym, ap, ◌∙◌}
use mathlib.Core.Bool.{true, not}
use native.Mathlib.Omega.{arith}
use native.Mathlib.Nat.{suc-pred-eq_of_pos}
use borrow.Author.Tests.{leb-true, ltb-true, lt-ltb, eq-eqb}
use lib.Dec.{eqb, leb, ltb}
use lib.ListN.{length}
use Rattle.text.proofs.Basics.{and_true}
use Rattle.text.proofs.TestLaws.{is_within, every_of}
use Rattle.eos.specs.Model as eos
use Rattle.eos.specs.Model.{Act, move, idle, alone, Event, Model, places, type_of, event}
use Rattle.eos.specs.Converting.{alone_for, replaced, converted, IdlesTyped, NoneIdles}
use Rattle.eos.proofs.Basics.{true_is}
use Rattle.eos.proofs.ConvertingLaws.{converted_few, event_converted, event_original}
use Rattle.model.specs.Rules.{Frame, Plant, frame_of, right_act, own_net, right_sync, right_event, right_plant}
use Rattle.model.proofs.RuleLaws.{RightEvent, is-event, Right, right_is, is_right, few-events, right_type, right_event_lem}
use Rattle.model_convert.specs.Converting.{converted_plant}

-- ---- events idle at places that a net types

typed_act : (p : Plant) (a : Act) → right_act (frame_of p) a ≡ true → (q : ℕ) → a ≡ idle q → (q < places p.model) × (1 ≤ type_of p.model q)
unfolding right_act
typed_act p (idle q) h r e =
    let same : q ≡ r = cc in
    let t = and_true (not (frame_of p).alone) _ h in
    let u = and_true (ltb q (places p.model)) (leb 1 (type_of p.model q)) t.1 in
    (omega (arith, same, ltb-true q (places p.model) u.0), rw same at (leb-true 1 (type_of p.model q) u.1))
typed_act p (move k) h r e = let z : ◌≡◌ {A = ℕ} 0 1 = cc in absurd (omega arith)
typed_act p (alone k) h r e = let z : ◌≡◌ {A = ℕ} 0 1 = cc in absurd (omega arith)

-- of a right model
pub idles_typed : (p : Plant) → right_plant p ≡ true → IdlesTyped p.model
idles_typed p right k q h e = (typed_act p (event p.model k).act (right_event_lem p (right_is p right) k h).act q e).1

-- and none idles under the header for `alone`
pub none_under : (p : Plant) → right_plant p ≡ true → p.header ≡ 2 → NoneIdles p.model
unfolding right_act
none_under p right two k q h e = go (event p.model k).act (right_event_lem p (right_is p right) k h).act e
  where
    go : (a : Act) → right_act (frame_of p) a ≡ true → a ≡ idle q → ⊥
    go (move k) r e = let z : ◌≡◌ {A = ℕ} 0 1 = cc in absurd (omega arith)
    go (idle s) r e = let t : eqb p.header 2 ≡ true = eq-eqb p.header 2 two in true_is (rw t at (and_true (not (eqb p.header 2)) _ r).0)
    go (alone n) r e = let z : ◌≡◌ {A = ℕ} 0 1 = cc in absurd (omega arith)

-- ---- the model with `alone`

module _ (p : Plant) (right : right_plant p ≡ true) where
  abbrev r : Right p
  r = right_is p right

  abbrev f : Frame
  f = frame_of (converted_plant p)

  act_right : (a : Act) → right_act (frame_of p) a ≡ true → right_act f (alone_for p.model a) ≡ true
  unfolding right_act converted
  act_right (move k) h = h
  act_right (idle q) h =
      let t = typed_act p (idle q) h q refl in
      lt-ltb (pred (type_of p.model q)) (length p.model.nets) (let d = right_type p r q t.0 in omega (arith, d, suc-pred-eq_of_pos {n = type_of p.model q} t.1))
  act_right (alone n) h = (and_true (frame_of p).alone (ltb n (length p.model.nets)) h).1

  own_same : (a : Act) → right_act (frame_of p) a ≡ true → own_net (type_of p.model) (alone_for p.model a) ≡ own_net (type_of p.model) a
  own_same (move k) h = refl
  own_same (idle q) h = suc-pred-eq_of_pos {n = type_of p.model q} (typed_act p (idle q) h q refl).1
  own_same (alone n) h = refl

  event_right : (e : Event) → RightEvent (frame_of p) e → right_event f (replaced p.model e) ≡ true
  unfolding converted right_sync
  event_right e h =
      is-event f (replaced p.model e) (record {
        act = act_right e.act h.act;
        long = h.long;
        sync = rw (own_same e.act h.act) h.sync;
      })

  pub right_converted : right_plant (converted_plant p) ≡ true
  unfolding converted
  right_converted =
      let n : length (converted p.model).events ≤ 64 = omega (arith, converted_few p.model, few-events p r) in
      is_right (converted_plant p) (record {
        header = refl;
        nets-few = r.nets-few;
        places-few = r.places-few;
        types = r.types;
        moves-few = r.moves-few;
        moves = r.moves;
        nets = r.nets;
        events-few = is_within 0 64 (length (converted p.model).events) (omega arith) n;
        events = every_of (right_event f) (converted p.model).events eos.no_event (λ j h.
            let o = event_original p.model j h in
            let e : event (converted p.model) j ≡ replaced p.model (event p.model o.0) = ap (event (converted p.model)) (sym o.2) ∙ event_converted p.model o.0 o.1 in
            ap (right_event f) e ∙ event_right (event p.model o.0) (right_event_lem p r o.0 o.1));
      })
