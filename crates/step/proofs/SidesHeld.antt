-- Laws of an event's sides in a right model: how long they are, and where they are held.
use Prim.Native.Nat.{ℕ, ◌≤◌, ◌<◌}
use mathlib.Core.Path.{◌≡◌, refl, ap, ◌∙◌}
use mathlib.Core.Bool.{true, not}
use mathlib.Core.List.{List, [], ◌∷◌}
use native.Mathlib.Omega.{arith}
use borrow.Author.Tests.{ltb-true}
use lib.ListN.{length, get_or}
use lib.Dec.{ltb, eqb}
use Rattle.eos.specs.Vector.{times, zeros}
use Rattle.eos.specs.Model.{Transition, Act, move, idle, alone, Event, Model, places, net, no_transition}
use Rattle.eos.specs.Firing.{of_act, summed, inner_of, pre, post}
use Rattle.eos.proofs.VectorSums.{length-times, length-zeros, long-left, length-one}
use Rattle.text.proofs.Basics.{and_true}
use Rattle.text.specs.Lines.{every}
use Rattle.text.specs.Answers.{padded}
use Rattle.text.proofs.TestLaws.{within-is}
use Rattle.model.specs.Rules.{under, right_sides, right_act, frame_of, right_plant}
use Rattle.model.specs.Held.{row, listed, row_at}
use Rattle.model.proofs.RuleLaws.{sides_long, net-is, right_is, few-nets, right_move_lem, right_net_lem}
use Rattle.model.proofs.SlotLaws.{length-listed, listed_at}
use Rattle.model.proofs.TableLaws.{tabled-row}
use Rattle.step.specs.Rule.{hold_sides}

-- a side of a transition is as long as its net has places
abbrev pub Side : (Transition → List ℕ) → Type 0
Side side = (size : ℕ) (t : Transition) → right_sides size t ≡ true → length (side t) ≡ size

pub pre_side : Side pre
pre_side size t h = (sides_long size t h).0

pub post_side : Side post
post_side size t h = (sides_long size t h).1

module _ (side : Transition → List ℕ) (s : Side side) where
  summed-long : (size : ℕ) (cs : List ℕ) (ts : List Transition) → every (right_sides size) ts ≡ true → length (summed side cs ts) ≤ size
  summed-long size [] ts h = omega arith
  summed-long size (c ∷ cs) [] h = omega arith
  summed-long size (c ∷ cs) (t ∷ ts) h =
      let p = and_true (right_sides size t) _ h in
      let a : length (times c (side t)) ≡ size = length-times c (side t) ∙ s size t p.0 in
      let r = summed-long size cs ts p.1 in
      omega (arith, long-left (times c (side t)) (summed side cs ts) (omega arith))

  module _ (header : ℕ) (m : Model) (right : right_plant (under header m) ≡ true) where
    pub act-long : (a : Act) → right_act (frame_of (under header m)) a ≡ true → length (of_act side m a) ≡ places m
    unfolding right_act
    act-long (move k) h = s (places m) (get_or m.moves k no_transition) (right_move_lem _ (right_is _ right) k (ltb-true k (length m.moves) h))
    act-long (idle p) h = length-one p (places m) (ltb-true p (places m) (and_true (ltb p (places m)) _ (and_true (not (eqb header 2)) _ h).1).0)
    act-long (alone n) h = length-zeros (places m)

    pub inner_side_long : (ev : Event) (n : ℕ) → n < length m.nets → length (inner_of side m ev n) ≡ (net m n).size
    unfolding inner_of
    inner_side_long ev n h =
        let r = net-is (net m n) (right_net_lem _ (right_is _ right) n h) in
        let k = summed-long (net m n).size (get_or ev.sync n []) (net m n).transitions r.sides in
        long-left (zeros (net m n).size) (summed side (get_or ev.sync n []) (net m n).transitions) (omega (arith, length-zeros (net m n).size)) ∙ length-zeros (net m n).size

    -- the inner side of net n stands in row n
    pub side_row : (ev : Event) (n : ℕ) → n < length m.nets → row_at (hold_sides side m ev).inner n ≡ padded (inner_of side m ev n)
    unfolding hold_sides
    side_row ev n h =
        let few = few-nets _ (right_is _ right) in
        let l = listed (inner_of side m ev) 0 (length m.nets) in
        tabled-row row [] refl 8 l (omega (arith, length-listed (inner_of side m ev) 0 (length m.nets))) n (omega arith)
        ∙ ap padded (listed_at (inner_of side m ev) (length m.nets) n [] h)

pub net-small : (header : ℕ) (m : Model) → right_plant (under header m) ≡ true → (n : ℕ) → n < length m.nets → (net m n).size ≤ 32
net-small _ m right n h = (within-is 1 32 (net m n).size (net-is (net m n) (right_net_lem _ (right_is _ right) n h)).size).1
