-- What an event's net parts and its move weigh, by the tables where they are held.
use Prim.Native.Nat.{ℕ, suc, ◌+◌, ◌≤◌, ◌<◌}
use mathlib.Core.Path.{◌≡◌, ap, ap₂, sym, ◌∙◌}
use mathlib.Core.List.{List, []}
use native.Mathlib.Omega.{arith}
use native.Mathlib.Nat.{zero-add}
use lib.IntN.{ℤ, pos, ◌+ℤ◌, ◌*ℤ◌, +ℤ_idr, *ℤ-zero}
use lib.ListN.{length, get_or, get_or-eq_default, length-take}
use Rattle.text.proofs.TestLaws.{within-is}
use Rattle.eos.specs.Vector.{zeros, unit}
use Rattle.eos.specs.Model as eos
use Rattle.eos.specs.Firing.{outer_of, inner_of}
use Rattle.eos.specs.Weights.{Weights, dot, dots}
use Rattle.eos.proofs.WeightLaws.{dot-⊕}
use Rattle.model.specs.Rules.{nth}
use Rattle.model.specs.Held.{no_net, no_event, row_at, row_in, sides_in, sync_in, net_of, event_of, model_of}
use Rattle.model.specs.Test.{frame_in}
use Rattle.model.specs.declared.ObjectNet.{ObjectNet}
use Rattle.model.specs.declared.Event.{Event}
use Rattle.model.specs.declared.Model.{Model}
use Rattle.model.proofs.SlotLaws.{by_index, listed_at}
use Rattle.model.proofs.TableLaws.{nth-row}
use Rattle.model.proofs.HeldTests.{held-is}
use Rattle.model.proofs.UsedLaws.{net_used, event_used}
use Rattle.keeper.specs.Held.{hold_weights}
use Rattle.weigh.specs.Sums.{total, number_of}
use Rattle.weigh.proofs.TotalLaws.{total_same}
use Rattle.keeper.proofs.DotLaws.{dot_zeros, dot_unit, dots_total, dot_inner, dot_row, row-nth}
use Rattle.model.proofs.ShapeLaws.{net-is, event-is}
use Rattle.keeper.proofs.HeldRows.{Kept, few-nets, few-places, outer-long, inner-long, net-long, net-small, outer-at, inner-at, outer-few, inner-few}

-- ---- the nets' part of an event

module _ (m : Model) (w : Weights) (kept : Kept m w) (k : ℕ) (listed : k < m.listed) where
  abbrev held : Event
  held = get_or m.events k no_event

  abbrev event : eos.Event
  event = eos.event (model_of m) k

  abbrev rows : List (List ℤ)
  rows = (hold_weights w).rows

  abbrev net : ℕ → ObjectNet
  net n = get_or m.objects n no_net

  few-steps : (n : ℕ) → n < m.nets → (net n).transitions ≤ 32
  few-steps n p = (within-is 0 32 (net n).transitions (net_used m (held-is m kept.held) n p).1).1

  -- the counts of net n, where they are held
  counts_are_lem : (n : ℕ) → n < m.nets → get_or event.sync n [] ≡ row_in (net n).transitions held.sync n
  unfolding event_of
  counts_are_lem n p = ap (λ (e : eos.Event). get_or e.sync n []) (event-is m k listed) ∙ listed_at (sync_in m.objects held.sync) m.nets n [] p

  counts-at : (n : ℕ) → n < m.nets → (t : ℕ) → t < 32 → nth (get_or event.sync n []) t ≡ nth (row_at held.sync n) t
  counts-at n p t q =
      ap (λ (l : List ℕ). nth l t) (counts_are_lem n p)
      ∙ ap (λ (g : ℕ → ℕ). g t) (nth-row 8 m.nets (frame_in m).steps held.sync (event_used m (held-is m kept.held) k listed).past (few-nets m w kept) n p)

  counts-few : (n : ℕ) → n < m.nets → length (get_or event.sync n []) ≤ (net n).transitions
  counts-few n p = rw (counts_are_lem n p) (omega (arith, length-take (net n).transitions (row_at held.sync n)))

  -- one side of transitions: of moves in one table, of each net's in another
  module _ (side : eos.Transition → List ℕ) (nothing : side eos.no_transition ≡ []) (moves : List (List ℕ)) (nets : ℕ → List (List ℕ))
      (move-side : (i : ℕ) → side (sides_in m.places m.pre m.post i) ≡ row_in m.places moves i)
      (net-side : (n i : ℕ) → side (sides_in (net n).places (net n).pre (net n).post i) ≡ row_in (net n).places (nets n) i) where
    transition_is : (n t : ℕ) → n < m.nets → t < (net n).transitions
        → side (get_or (eos.net (model_of m) n).transitions t eos.no_transition) ≡ row_in (net n).places (nets n) t
    unfolding net_of
    transition_is n t p q =
        ap (λ (o : eos.ObjectNet). side (get_or o.transitions t eos.no_transition)) (net-is m n p)
        ∙ ap side (listed_at (sides_in (net n).places (net n).pre (net n).post) (net n).transitions t eos.no_transition q) ∙ net-side n t

    abbrev counted : ℕ → ℕ → ℤ
    counted n t = dot (row_at rows (suc n)) (row_at (nets n) t) *ℤ pos (nth (row_at held.sync n) t)

    one_part : (n : ℕ) → n < m.nets → (t : ℕ) → t < 32
        → dot (get_or w.inward n []) (side (get_or (eos.net (model_of m) n).transitions t eos.no_transition)) *ℤ pos (nth (get_or event.sync n []) t) ≡ counted n t
    one_part n p t q =
        by_index (net n).transitions t
        (λ r.
        let long = net-long m w kept n p in
        ap₂ (λ (v : ℤ) (c : ℕ). v *ℤ pos c)
        (ap (dot (get_or w.inward n [])) (transition_is n t p r)
        ∙ dot_row (get_or w.inward n []) (row_at rows (suc n)) (row_in (net n).places (nets n) t) (row_at (nets n) t)
        (omega (arith, long, net-small m w kept n)) (inner-few m w kept n p) (inner-at m w kept n p)
        (λ i h. row-nth (net n).places (nets n) t i (omega (arith, long))))
        (counts-at n p t q))
        (λ r.
        let z : nth (get_or event.sync n []) t ≡ 0 = get_or-eq_default (get_or event.sync n []) 0 (omega (arith, counts-few n p)) in
        let y : nth (row_at held.sync n) t ≡ 0 = sym (counts-at n p t q) ∙ z in
        let a = dot (get_or w.inward n []) (side (get_or (eos.net (model_of m) n).transitions t eos.no_transition)) in
        let b = dot (row_at rows (suc n)) (row_at (nets n) t) in
        ap (λ (c : ℕ). a *ℤ pos c) z ∙ *ℤ-zero a ∙ sym (ap (λ (c : ℕ). b *ℤ pos c) y ∙ *ℤ-zero b))

    net_part : (n : ℕ) → n < m.nets → dot (get_or w.inward n []) (inner_of side (model_of m) event n) ≡ total 32 (counted n)
    net_part n p =
        dot_inner (get_or w.inward n []) side nothing (model_of m) event n 32 (omega (arith, counts-few n p, few-steps n p))
        ∙ total_same 32 _ (counted n) (one_part n p)

    -- what the nets' parts weigh
    pub inside_is : dots w.inward 0 (inner_of side (model_of m) event) ≡ total m.nets (λ n. total 32 (counted n))
    inside_is =
        let i = inner_of side (model_of m) event in
        dots_total w.inward 0 i ∙ ap (λ (c : ℕ). total c (λ n. dot (get_or w.inward n []) (i (0 + n)))) (inner-long m w kept)
        ∙ total_same m.nets _ _ (λ n p. ap (λ (j : ℕ). dot (get_or w.inward n []) (i j)) (zero-add n) ∙ net_part n p)

    -- what its move weighs
    pub outside_move : (j : ℕ) → j < m.moves → event.act ≡ eos.move j
        → dot w.outward (outer_of side (model_of m) event) ≡ dot (row_at rows 0) (row_at moves j)
    unfolding outer_of model_of
    outside_move j p e =
        let long = outer-long m w kept in
        ap (dot w.outward) (rw e (ap side (listed_at (sides_in m.places m.pre m.post) m.moves j eos.no_transition p) ∙ move-side j))
        ∙ dot_row w.outward (row_at rows 0) (row_in m.places moves j) (row_at moves j) (omega (arith, long, few-places m w kept)) (outer-few m w kept) (outer-at m w kept)
        (λ i h. row-nth m.places moves j i (omega (arith, long)))

    -- and idling
    pub outside_idle : (j : ℕ) → event.act ≡ eos.idle j → dot w.outward (outer_of side (model_of m) event) ≡ number_of w.outward j
    unfolding outer_of
    outside_idle j e =
        rw e
        (dot-⊕ w.outward (unit j) (zeros (eos.places (model_of m)))
        ∙ ap₂ ◌+ℤ◌ (dot_unit w.outward j) (dot_zeros w.outward (eos.places (model_of m))) ∙ +ℤ_idr (number_of w.outward j))

    -- and nothing, of what names no place
    pub outside_alone : (n : ℕ) → event.act ≡ eos.alone n → dot w.outward (outer_of side (model_of m) event) ≡ pos 0
    unfolding outer_of
    outside_alone n e = rw e (dot_zeros w.outward (eos.places (model_of m)))
