-- An event's effect is what it gains, by the rows of gains; the first event that gains something.
use Prim.Native.Nat.{ℕ, suc, ◌≤◌, ◌<◌}
use mathlib.Core.Path.{◌≡◌, refl, ap, ap₂, sym, ◌∙◌}
use mathlib.Core.Bool.{Bool, true}
use mathlib.Core.List.{List}
use mathlib.Core.Option.{Option, none, some}
use native.Mathlib.Omega.{arith}
use lib.IntN.{ℤ, pos, ◌-ℤ◌, ◌*ℤ◌}
use lib.ListN.{length, take, get_or}
use lib.Seq.{get_or-take, length-take-le}
use borrow.Author.Tests.{ltb-true}
use Rattle.std.specs.Prelude as answer
use Rattle.std.proofs.lemmas.Int.{ints}
use Rattle.eos.specs.Model as eos
use Rattle.eos.specs.Firing.{pre, post, outer_of, inner_of}
use Rattle.eos.specs.Causes.{failing}
use Rattle.eos.proofs.FailingLaws.{failing_same}
use Rattle.eos.proofs.FirstLaws.{failing-least}
use Rattle.eos.specs.Weights.{Weights, dot, dots, value, is_zero, effect}
use Rattle.model.specs.Rules.{nth, right_act}
use Rattle.model.specs.Acts.{act_of, move_of}
use Rattle.model.specs.Held.{no_net, no_event, row_at, event_of, model_of, told}
use Rattle.model.specs.Test.{frame_in, held_model}
use Rattle.model.specs.declared.Event.{Event}
use Rattle.model.specs.declared.Model.{Model}
use Rattle.model.proofs.HeldTests.{held-is, most-moves, most-places, most-nets}
use Rattle.model.proofs.HeldActs.{act-is, act_range}
use Rattle.keeper.specs.Held.{hold_weights}
use Rattle.weigh.specs.Sums.{total, gain_of, GainsWithin, move_gain, event_gain, balanced_at, ActIn}
use Rattle.weigh.proofs.TotalLaws.{total_same, total_minus}
use Rattle.keeper.proofs.DotLaws.{dot_total, minus_times}
use Rattle.model.proofs.UsedLaws.{event_used}
use Rattle.keeper.proofs.HeldRows.{Kept}
use Rattle.model.proofs.ShapeLaws.{event-is}
use Rattle.keeper.proofs.EffectLaws.{inside_is, outside_move, outside_idle, outside_alone}

module _ (m : Model) (w : Weights) (kept : Kept m w) (k : ℕ) (listed : k < m.listed) where
  abbrev held : Event
  held = get_or m.events k no_event

  abbrev event : eos.Event
  event = eos.event (model_of m) k

  abbrev rows : List (List ℤ)
  rows = (hold_weights w).rows

  abbrev inside : (eos.Transition → List ℕ) → ℤ
  inside side = dots w.inward 0 (inner_of side (model_of m) event)

  abbrev outside : (eos.Transition → List ℕ) → ℤ
  outside side = dot w.outward (outer_of side (model_of m) event)

  abbrev counted : (ℕ → List (List ℕ)) → ℕ → ℕ → ℤ
  counted nets n t = dot (row_at rows (suc n)) (row_at (nets n) t) *ℤ pos (nth (row_at held.sync n) t)

  abbrev pres : ℕ → List (List ℕ)
  pres n = (get_or m.objects n no_net).pre

  abbrev posts : ℕ → List (List ℕ)
  posts n = (get_or m.objects n no_net).post

  inside-pre : inside pre ≡ total m.nets (λ n. total 32 (counted pres n))
  inside-pre = inside_is m w kept k listed pre refl m.pre pres (λ i. refl) (λ n i. refl)

  inside-post : inside post ≡ total m.nets (λ n. total 32 (counted posts n))
  inside-post = inside_is m w kept k listed post refl m.post posts (λ i. refl) (λ n i. refl)

  abbrev act : eos.Act
  act = act_of held.kind held.index

  act-held : event.act ≡ act
  unfolding event_of
  act-held = ap (λ (e : eos.Event). e.act) (event-is m k listed)

  act_right : right_act (frame_in m) act ≡ true
  act_right = (act-is (frame_in m) held.kind held.index (event_used m (held-is m kept.held) k listed).act).right

  module _ {most : ℕ} (gains : List (List ℤ)) (is : GainsWithin most m rows gains) where
    net_gain : (n : ℕ) → n < m.nets → dot (row_at gains (suc n)) (row_at held.sync n) ≡ total 32 (counted posts n) -ℤ total 32 (counted pres n)
    unfolding gain_of
    net_gain n p =
        dot_total (row_at gains (suc n)) (row_at held.sync n) 32 (omega (arith, (is.nets n p).long))
        ∙ total_same 32 _ (λ t. counted posts n t -ℤ counted pres n t)
        (λ t q.
        let c = nth (row_at held.sync n) t in
        ap (λ (z : ℤ). z *ℤ pos c) ((is.nets n p).is t q)
        ∙ minus_times (dot (row_at rows (suc n)) (row_at (posts n) t)) (dot (row_at rows (suc n)) (row_at (pres n) t)) c)
        ∙ total_minus 32 (counted posts n) (counted pres n)

    inside_gain : total m.nets (λ n. dot (row_at gains (suc n)) (row_at held.sync n)) ≡ inside post -ℤ inside pre
    inside_gain =
        total_same m.nets _ (λ n. total 32 (counted posts n) -ℤ total 32 (counted pres n)) net_gain
        ∙ total_minus m.nets (λ n. total 32 (counted posts n)) (λ n. total 32 (counted pres n))
        ∙ ap₂ ◌-ℤ◌ (sym inside-post) (sym inside-pre)

    outside_gain : (a : eos.Act) → event.act ≡ a → right_act (frame_in m) a ≡ true → move_gain (row_at gains 0) (move_of a) ≡ outside post -ℤ outside pre
    unfolding right_act move_gain gain_of
    outside_gain (eos.move j) e h =
        let p = ltb-true j m.moves h in
        is.moves.is j (omega (arith, most-moves m (held-is m kept.held)))
        ∙ ap₂ ◌-ℤ◌ (sym (outside_move m w kept k listed post refl m.post posts (λ i. refl) (λ n i. refl) j p e))
        (sym (outside_move m w kept k listed pre refl m.pre pres (λ i. refl) (λ n i. refl) j p e))
    outside_gain (eos.idle j) e h =
        let a = outside_idle m w kept k listed post refl m.post posts (λ i. refl) (λ n i. refl) j e in
        let b = outside_idle m w kept k listed pre refl m.pre pres (λ i. refl) (λ n i. refl) j e in
        omega (arith, ints, a, b)
    outside_gain (eos.alone n) e h =
        let a = outside_alone m w kept k listed post refl m.post posts (λ i. refl) (λ n i. refl) n e in
        let b = outside_alone m w kept k listed pre refl m.pre pres (λ i. refl) (λ n i. refl) n e in
        omega (arith, ints, a, b)

    -- the effect is the gain
    effect_gain : effect (model_of m) w event ≡ event_gain m.nets held gains
    unfolding effect value event_gain
    effect_gain = let o = outside_gain act act-held act_right in omega (arith, ints, inside_gain, o)

-- the index of an event's act is one of 32
pub act_in : (m : Model) → held_model m ≡ true → (k : ℕ) → k < m.listed → ActIn (get_or m.events k no_event)
act_in m held k listed =
    let e = get_or m.events k no_event in
    let h = held-is m held in
    let r = act_range (frame_in m) e.kind e.index (event_used m h k listed).act (most-moves m h) (most-places m h) (most-nets m h) in
    record { least = r.0; most = r.1 }

-- the listed events of a model, as they are lent
pub event_listed : (m : Model) (k : ℕ) → k < m.listed → get_or (take m.listed m.events) k no_event ≡ get_or m.events k no_event
event_listed m k h = get_or-take m.listed m.events k no_event h

-- the first event that is not balanced, by the gains of the held weights, whatever their limit
pub first-unbalanced : {most : ℕ} (m : Model) (w : Weights) → Kept m w → (gains : List (List ℤ)) → GainsWithin most m (hold_weights w).rows gains
    → m.listed ≤ length m.events
    → told (failing (length (take m.listed m.events)) 0 (balanced_at m.nets (take m.listed m.events) gains))
    ≡ told (failing m.listed 0 (λ k. is_zero (effect (model_of m) w (eos.event (model_of m) k))))
first-unbalanced m w kept gains is room =
    ap (λ (n : ℕ). told (failing n 0 (balanced_at m.nets (take m.listed m.events) gains))) (length-take-le m.listed m.events room)
    ∙ ap told
    (failing_same m.listed 0 (balanced_at m.nets (take m.listed m.events) gains) (λ k. is_zero (effect (model_of m) w (eos.event (model_of m) k)))
    (λ k l.
    ap (λ (e : Event). is_zero (event_gain m.nets e gains)) (event_listed m k (omega arith))
    ∙ ap is_zero (sym (effect_gain m w kept k (omega arith) gains is))))

-- an index that is found is one of those tested
pub found_within : (f : ℕ → Bool) (d n : ℕ) → d ≤ n → answer.IfSome (told (failing d 0 f)) (λ k. k < n)
found_within f d n h = go (failing d 0 f) refl
  where
    go : (o : Option ℕ) → failing d 0 f ≡ o → answer.IfSome (told o) (λ k. k < n)
    go none e = tt
    go (some k) e = omega (arith, (failing-least d f k e).within)
