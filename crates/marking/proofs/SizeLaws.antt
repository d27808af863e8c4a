-- How many counts the net-tokens of a held model have: there is room for them, and they are as many as the model says that is held.
use Prim.Native.Nat.{ℕ, zero, suc, ◌-◌, ◌≤◌, ◌<◌}
use mathlib.Core.Path.{◌≡◌, refl, ap, ◌∙◌}
use mathlib.Core.List.{List}
use mathlib.Core.Bool.{true, ◌&&◌}
use native.Mathlib.Omega.{arith}
use lib.Dec.{leb, eqb}
use lib.ListN.{length, get_or, get_or-eq_default}
use borrow.Author.Tests.{leb-true, eqb-true}
use Rattle.text.specs.Lines.{in_range}
use Rattle.text.specs.Answers.{padded}
use Rattle.text.proofs.TestLaws.{within-is, eqb_and}
use Rattle.eos.specs.Model as eos
use Rattle.model.specs.Rules.{under, nth, right_plant}
use Rattle.model.specs.Held.{no_net, hold_net, hold_nets, hold_plant}
use Rattle.model.specs.Test.{held_model}
use Rattle.model.specs.declared.Model.{Model}
use Rattle.model.specs.declared.ObjectNet.{ObjectNet}
use Rattle.model.proofs.PaddedRows.{nth-padded}
use Rattle.model.proofs.RuleLaws.{right_is, few-nets, few-places}
use Rattle.model.proofs.SlotLaws.{cond_from, by_index, listed_at, listed_past}
use Rattle.model.proofs.HeldTestLoops.{at_any}
use Rattle.model.proofs.HoldModel.{net-at, net_past}
use Rattle.model.proofs.HeldTests.{held-is, most-nets, types-at}
use Rattle.model.proofs.UsedLaws.{type-below, net_used, count-is}
use Rattle.marking.specs.Held.{Roomy, sizes_of}
use Rattle.marking.specs.Sizes.{size_of_type, sizes_in, sizes_for, SmallNets}

-- ---- a type by its number

-- of no type there are no counts
pub size-none : (objects : List ObjectNet) (t : ℕ) → t ≡ 0 → size_of_type objects t ≡ 0
size-none objects t e = rw e

-- the size of a net's type is looked up with any net for those past the last
pub size-at : (objects : List ObjectNet) (t : ℕ) → (t ≡ 0 → ⊥) → t ≤ length objects → (d : ObjectNet) → (get_or objects (t - 1) d).places ≡ size_of_type objects t
size-at objects zero n h d = absurd (n refl)
size-at objects (suc t) n h d =
    let e : suc t - 1 ≡ t = omega arith in
    rw e (ap (λ (o : ObjectNet). o.places) (at_any objects t d no_net (omega (arith, h))))

-- ---- a held model
module _ (m : Model) (h : held_model m ≡ true) where
  -- the type of a place is that of black tokens or a net's
  pub type-few : (p : ℕ) → p < 32 → nth m.types p ≤ 8
  type-few p q =
      let t = types-at m (held-is m h).types p q in
      let below = leb (nth m.types p) m.nets in
      let none = eqb (nth m.types p) 0 in
      by_index m.places p
      (λ r. omega (arith, most-nets m (held-is m h), leb-true (nth m.types p) m.nets (type-below m (held-is m h) p r)))
      (λ r. omega (arith, eqb-true (nth m.types p) 0 (rw (cond_from m.places p below none r) at t)))

  pub net-few : (k : ℕ) → k < 8 → (get_or m.objects k no_net).places ≤ 32
  net-few k q =
      let n = get_or m.objects k no_net in
      let used = in_range 1 32 n.places && in_range 0 32 n.transitions in
      let free = eqb n.places 0 && eqb n.transitions 0 in
      by_index m.nets k
      (λ r. (within-is 1 32 n.places (net_used m (held-is m h) k r).0).1)
      (λ r. omega (arith, (eqb_and n.places 0 _ (rw (cond_from m.nets k used free r) at (count-is m (held-is m h) k q))).0))

  -- no net has more places than there is room for
  pub nets-small : length m.objects ≡ 8 → SmallNets m.objects
  nets-small e k =
      by_index 8 k (net-few k)
      (λ r. omega (arith, ap (λ (n : ObjectNet). n.places) (get_or-eq_default m.objects no_net {n = k} (omega arith))))

  size_few : (t : ℕ) → t ≤ 8 → size_of_type m.objects t ≤ 32
  size_few zero q = omega arith
  size_few (suc k) q = net-few k q

  -- there is room for the counts of every place of a held model
  pub held_roomy : Roomy (sizes_for m)
  unfolding sizes_in
  held_roomy p =
      let f : ℕ → ℕ = λ p. size_of_type m.objects (nth m.types p) in
      by_index 32 (p - 1)
      (λ r. rw (listed_at f 32 (p - 1) 0 r) (size_few (nth m.types (p - 1)) (type-few (p - 1) r)))
      (λ r. rw (listed_past f 32 (p - 1) 0 r) (omega arith))

-- ---- the model that is held
module _ (header : ℕ) (d : eos.Model) (right : right_plant (under header d) ≡ true) where
  type_same : (t : ℕ) → size_of_type (hold_nets d.nets) t ≡ eos.size_of d t
  unfolding hold_net
  type_same zero = refl
  type_same (suc k) =
      let few = few-nets _ (right_is _ right) in
      by_index (length d.nets) k
      (λ p. ap (λ (n : ObjectNet). n.places) (net-at d.nets k few p))
      (λ p. rw (net_past d.nets k few p, get_or-eq_default d.nets eos.no_net p))

  size_same : (p : ℕ) → get_or (sizes_in (hold_plant (under header d))) p 0 ≡ eos.size_of d (eos.type_of d p)
  unfolding sizes_in hold_plant
  size_same p =
      let f : ℕ → ℕ = λ p. size_of_type (hold_nets d.nets) (nth (padded d.types) p) in
      let few = few-places _ (right_is _ right) in
      by_index 32 p
      (λ r. listed_at f 32 p 0 r ∙ rw (nth-padded d.types few p) (type_same (nth d.types p)))
      (λ r. listed_past f 32 p 0 r ∙ rw (get_or-eq_default d.types 0 {n = p} (omega arith)))

  -- a right model's net-tokens have as many counts as those of the held model
  pub sizes_same : sizes_for (hold_plant (under header d)) ≡ sizes_of d
  unfolding hold_plant
  sizes_same = λ i. record { places = length d.types; size = λ p. size_same (p - 1) i }
