-- The code's weight of a held marking is the weighted sum of the marking that it stands for.
use Prim.Native.Nat.{ℕ, zero, suc, ◌+◌, ◌-◌, ◌≤◌, ◌<◌}
use mathlib.Core.Path.{◌≡◌, refl, ap, ap₂, sym, ◌∙◌}
use mathlib.Core.Bool.{true}
use mathlib.Core.List.{List, [], ◌∷◌, map}
use native.Mathlib.Omega.{arith}
use native.Mathlib.Nat.{zero-add}
use lib.IntN.{ℤ, pos, ◌+ℤ◌, ◌*ℤ◌}
use lib.ListN.{get_or, replicate}
use lib.Seq.{get_or-take}
use borrow.Author.Tests.{leb-true, eq-eqb, ne_eqb}
use Rattle.std.proofs.lemmas.Int.{ints}
use Rattle.text.specs.Lines.{every}
use Rattle.text.proofs.Basics.{and_true}
use Rattle.eos.specs.Counted.{spelt}
use Rattle.eos.specs.Model as eos
use Rattle.eos.specs.Firing.{inside_of}
use Rattle.eos.specs.Weights.{Weights, dot, dots, value, weigh}
use Rattle.eos.proofs.WeightLaws.{dot_zero, weight_of, weigh-sum, weigh_append}
use Rattle.model.specs.Rules.{nth}
use Rattle.model.specs.Held.{no_net, model_of, row_at}
use Rattle.model.specs.declared.Model.{Model}
use Rattle.model.proofs.SlotLaws.{listed_at}
use Rattle.model.proofs.HeldTests.{held-is}
use Rattle.marking.specs.Held.{token_of, line_of, held_token, held_entry}
use Rattle.marking.specs.declared.NetToken.{NetToken}
use Rattle.marking.specs.declared.Entry.{Entry}
use Rattle.marking.specs.Sizes.{size_of_type, sizes_in, sizes_for}
use Rattle.keeper.specs.Held.{hold_weights}
use Rattle.weigh.specs.Sums.{total, token_weight, marking_weight}
use Rattle.weigh.proofs.TotalLaws.{total_same, total_zero, total_one}
use Rattle.keeper.proofs.DotLaws.{dot_none, dot_unit, dots_total, dot_row}
use Rattle.model.proofs.UsedLaws.{type-below}
use Rattle.keeper.proofs.HeldRows.{Kept, few-places, inner-long, net-long, net-small, outer-at, inner-at, inner-few}
use Rattle.keeper.proofs.MarkingLaws.{place_in, counts-none}

-- a number taken no time, and once more
times_none : (z : ℤ) → pos 0 *ℤ z ≡ pos 0
times_none z = omega (arith, ints)

times_more : (z : ℤ) (n : ℕ) → pos (suc n) *ℤ z ≡ z +ℤ pos n *ℤ z
times_more z n = omega (arith, ints)

module _ (m : Model) (w : Weights) (kept : Kept m w) where
  abbrev rows : List (List ℤ)
  rows = (hold_weights w).rows

  -- the weight of what is inside, as a sum over nets
  inside-sum : (t : eos.NetToken) → dots w.inward 0 (λ n. inside_of (model_of m) n t) ≡ total m.nets (λ n. dot (get_or w.inward n []) (inside_of (model_of m) n t))
  inside-sum t =
      dots_total w.inward 0 (λ n. inside_of (model_of m) n t)
      ∙ ap (λ (c : ℕ). total c (λ n. dot (get_or w.inward n []) (inside_of (model_of m) (0 + n) t))) (inner-long m w kept)
      ∙ total_same m.nets _ _ (λ n p. ap (λ (j : ℕ). dot (get_or w.inward n []) (inside_of (model_of m) j t)) (zero-add n))

  other_net : (t : eos.NetToken) (n : ℕ) → (eos.type_of (model_of m) t.place ≡ suc n → ⊥) → dot (get_or w.inward n []) (inside_of (model_of m) n t) ≡ pos 0
  other_net t n h = rw (ne_eqb (eos.type_of (model_of m) t.place) (suc n) h) (dot_none (get_or w.inward n []))

  own_net_lem : (t : eos.NetToken) (n : ℕ) → eos.type_of (model_of m) t.place ≡ suc n → dot (get_or w.inward n []) (inside_of (model_of m) n t) ≡ dot (get_or w.inward n []) t.inside
  own_net_lem t n h = rw (eq-eqb (eos.type_of (model_of m) t.place) (suc n) h)

  -- ---- a held net-token
  module _ (t : NetToken) (held : held_token (sizes_for m) t ≡ true) where
    abbrev token : eos.NetToken
    token = token_of (sizes_for m) t

    abbrev type : ℕ
    type = nth m.types (t.place - 1)

    place-few : (1 ≤ t.place) × (t.place ≤ m.places)
    place-few = place_in (sizes_for m) t held

    -- the type of its place is that of black tokens or a net's
    type-is : eos.type_of (model_of m) token.place ≡ type
    unfolding model_of
    type-is = let p = place-few in get_or-take m.places m.types (t.place - 1) 0 (omega arith)

    type-few : type ≤ m.nets
    type-few =
        let p = place-few in
        leb-true type m.nets (type-below m (held-is m kept.held) (t.place - 1) (omega arith))

    size_is : (sizes_for m).size t.place ≡ size_of_type m.objects type
    unfolding sizes_in
    size_is = let p = place-few in listed_at (λ p. size_of_type m.objects (nth m.types p)) 32 (t.place - 1) 0 (omega (arith, few-places m w kept))

    -- what is inside a black token, and inside one of net n
    inside_black : type ≡ 0 → total m.nets (λ n. dot (get_or w.inward n []) (inside_of (model_of m) n token)) ≡ dot (row_at rows 0) t.counts
    inside_black e =
        let s : (sizes_for m).size t.place ≡ 0 = size_is ∙ rw e in
        total_zero m.nets _ (λ n p. other_net token n (λ d. omega (arith, type-is)))
        ∙ sym (dot_zero (row_at rows 0) t.counts (λ c. omega (arith, counts-none (sizes_for m) t held s c)))

    inside-net : (n : ℕ) → type ≡ suc n
        → total m.nets (λ n. dot (get_or w.inward n []) (inside_of (model_of m) n token)) ≡ dot (row_at rows (suc n)) t.counts
    inside-net n e =
        let p : n < m.nets = omega (arith, type-few) in
        let long = net-long m w kept n p in
        let s : (sizes_for m).size t.place ≡ (get_or m.objects n no_net).places = size_is ∙ ap (size_of_type m.objects) e in
        total_one m.nets n _ p (λ j d. other_net token j (λ q. d (omega (arith, type-is)))) ∙ own_net_lem token n (type-is ∙ e)
        ∙ dot_row (get_or w.inward n []) (row_at rows (suc n)) token.inside t.counts (omega (arith, long, net-small m w kept n)) (inner-few m w kept n p) (inner-at m w kept n p)
        (λ c q. get_or-take ((sizes_for m).size t.place) t.counts c 0 (omega (arith, s, long)))

    inside_is : (d : ℕ) → type ≡ d → total m.nets (λ n. dot (get_or w.inward n []) (inside_of (model_of m) n token)) ≡ dot (row_at rows d) t.counts
    inside_is zero e = inside_black e
    inside_is (suc n) e = inside-net n e

    -- its weight
    token_is : weight_of (model_of m) w token ≡ token_weight rows m.types t
    unfolding value token_weight
    token_is = ap₂ ◌+ℤ◌ (dot_unit w.outward (t.place - 1) ∙ sym (outer-at m w kept (t.place - 1))) (inside-sum token ∙ inside_is type refl)

  -- so many of one net-token
  weigh_copies : (t : eos.NetToken) (n : ℕ) → weigh (model_of m) w (replicate n t) ≡ pos n *ℤ weight_of (model_of m) w t
  weigh_copies t zero = weigh-sum (model_of m) w [] ∙ sym (times_none (weight_of (model_of m) w t))
  weigh_copies t (suc n) =
      weigh-sum (model_of m) w (t ∷ replicate n t)
      ∙ ap (λ (z : ℤ). weight_of (model_of m) w t +ℤ z) (sym (weigh-sum (model_of m) w (replicate n t)) ∙ weigh_copies t n)
      ∙ sym (times_more (weight_of (model_of m) w t) n)

  -- the weighted sum of what held entries stand for is the code's
  pub weigh_is : (es : List Entry) → every (held_entry (sizes_for m)) es ≡ true
      → weigh (model_of m) w (spelt (map (line_of (sizes_for m)) es)) ≡ marking_weight rows m.types es
  unfolding marking_weight
  weigh_is [] h = weigh-sum (model_of m) w []
  weigh_is (e ∷ es) h =
      let p = and_true (held_entry (sizes_for m) e) _ h in
      let held = (and_true (held_token (sizes_for m) e.token) _ p.0).0 in
      let t = token_of (sizes_for m) e.token in
      let behind = spelt (map (line_of (sizes_for m)) es) in
      weigh_append (model_of m) w (replicate e.times t) behind
      ∙ ap₂ ◌+ℤ◌ (weigh_copies t e.times ∙ ap (λ (z : ℤ). pos e.times *ℤ z) (token_is e.token held)) (weigh_is es p.1)
