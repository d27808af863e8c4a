-- What the verdict is asked of holds of every right model's rule, and of right lines as they are held.
use Prim.Native.Nat.{ℕ, suc, ◌-◌, ◌*◌, ◌≤◌, ◌<◌}
use mathlib.Core.Path.{◌≡◌, refl, ap, ◌∙◌}
use mathlib.Core.Bool.{Bool, true, ◌&&◌}
use mathlib.Core.List.{List, [], ◌∷◌, map}
use native.Mathlib.Omega.{arith}
use native.Mathlib.Nat.{mul-le-mul}
use borrow.Author.Tests.{lt-ltb, eq-eqb}
use lib.Dec.{T, leb, ltb, le→leb}
use lib.ListN.{length, length-map, get_or, get_or-eq_default}
use Rattle.eos.specs.Vector.{times, zeros}
use Rattle.eos.specs.Multiset as M
use Rattle.eos.specs.Counted.{ones, spelt, there, up_to}
use Rattle.eos.specs.Model.{NetToken, Lines, Transition, Model, places, net, event, size_of, type_of, proper}
use Rattle.eos.specs.Firing.{summed, inner_of, pre, post}
use Rattle.eos.proofs.Basics.{true_is, and_l, and_r, and_i}
use Rattle.eos.proofs.CountedLaws.{every_spelt, every_ones}
use Rattle.eos.proofs.VectorLaws.{get_d-⊕}
use Rattle.eos.proofs.VectorSums.{nth-times, nth_zero}
use Rattle.text.proofs.Basics.{and_true}
use Rattle.text.specs.Lines.{every}
use Rattle.text.specs.Answers.{padded}
use Rattle.text.proofs.PaddedLaws.{at-padded}
use Rattle.text.proofs.TestLaws.{within-is}
use Rattle.model.specs.Limits.{line_limit, alike_limit}
use Rattle.model.specs.Rules.{under, nth, byte, right_sides, right_plant, frame_of}
use Rattle.model.specs.Held.{tabled, row, listed}
use Rattle.model.proofs.PaddedRows.{small_at, nth-zeros, padded_none}
use Rattle.model.proofs.RuleLaws.{list_is, sides_are, net-is, right_is, few-nets, few-places, right_type, right_net_lem, right_event_lem, sync_at}
use Rattle.model.proofs.SlotLaws.{by_index, length-listed, listed_at, listed_past}
use Rattle.model.proofs.TableLaws.{length-tabled, tabled-row}
use Rattle.marking.specs.Tokens.{OnPlaces}
use Rattle.marking.specs.Held.{Sizes, sizes_of, hold_line}
use Rattle.marking.specs.Reading.{Limits, limits, right_net_token}
use Rattle.marking.proofs.HeldBy.{held_ones, lines_held}
use Rattle.marking.proofs.HoldMarking as hold
use Rattle.step.specs.Rule.{hold_sides, hold_rule}
use Rattle.step.specs.VerdictParts.{SmallRows, Sound, Placed}
use Rattle.step.proofs.SidesHeld.{inner_side_long, net-small, Side, pre_side, post_side}
use Rattle.step.proofs.ProjectionLaws.{fit}

-- ---- sums of sides

-- a side of a transition has bytes
abbrev Bytes : (Transition → List ℕ) → Type 0
Bytes side = (size : ℕ) (t : Transition) → right_sides size t ≡ true → (i : ℕ) → nth (side t) i ≤ 255

pre-bytes : Bytes pre
pre-bytes size t h i = small_at t.pre (list_is size byte t.pre (sides_are size t h).0).1 i

post-bytes : Bytes post
post-bytes size t h i = small_at t.post (list_is size byte t.post (sides_are size t h).1).1 i

module _ (side : Transition → List ℕ) (s : Side side) (b : Bytes side) where
  summed-small : (size : ℕ) (cs : List ℕ) (ts : List Transition) → every byte cs ≡ true → every (right_sides size) ts ≡ true
      → (i : ℕ) → nth (summed side cs ts) i ≤ length ts * 65025
  summed-small size [] ts h k i = omega arith
  summed-small size (c ∷ cs) [] h k i = omega arith
  summed-small size (c ∷ cs) (t ∷ ts) h k i =
      let p = and_true (byte c) _ h in
      let q = and_true (right_sides size t) _ k in
      let few : c ≤ 255 = small_at (c ∷ cs) h 0 in
      let x : c * nth (side t) i ≤ 255 * 255 = mul-le-mul few (b size t q.0 i) in
      omega (arith, get_d-⊕ (times c (side t)) (summed side cs ts) i, nth-times c (side t) i, x, summed-small size cs ts p.1 q.1 i)

  module _ (header : ℕ) (m : Model) (right : right_plant (under header m) ≡ true) (e : ℕ) (known : e < length m.events) where
    inner-small : (n : ℕ) → n < length m.nets → (i : ℕ) → nth (inner_of side m (event m e) n) i ≤ 2080800
    unfolding inner_of
    inner-small n h i =
        let ev = right_event_lem _ (right_is _ right) e known in
        let y = sync_at (frame_of (under header m)) (event m e) ev n (omega (arith, ev.long)) in
        let r = net-is (net m n) (right_net_lem _ (right_is _ right) n h) in
        let few = within-is 0 32 (length (net m n).transitions) r.few in
        let z = zeros (net m n).size in
        omega (
          arith,
          get_d-⊕ z (summed side (get_or (event m e).sync n []) (net m n).transitions) i,
          nth_zero (net m n).size i,
          summed-small (net m n).size (get_or (event m e).sync n []) (net m n).transitions y.bytes r.sides i,
        )

    -- the number of place c of net n, padded
    padded-small : (n : ℕ) (c : ℕ) → nth (padded (get_or (listed (inner_of side m (event m e)) 0 (length m.nets)) n [])) c ≤ 2080800
    padded-small n c =
        let f = inner_of side m (event m e) in
        by_index (length m.nets) n
        (λ h.
        rw (listed_at f (length m.nets) n [] h)
        (omega (arith, at-padded (f n) (omega (arith, inner_side_long side s _ m right (event m e) n h, net-small _ m right n h)) c, inner-small n h c)))
        (λ h. rw (listed_past f (length m.nets) n [] h, padded_none) (omega (arith, nth-zeros 32 c)))

    side_small : SmallRows (hold_sides side m (event m e)).inner
    unfolding hold_sides
    side_small n k =
        let l = listed (inner_of side m (event m e)) 0 (length m.nets) in
        let few = few-nets _ (right_is _ right) in
        by_index 8 n
        (λ h. rw (tabled-row row [] refl 8 l (omega (arith, length-listed (inner_of side m (event m e)) 0 (length m.nets))) n h) (omega (arith, padded-small n k)))
        (λ h. rw (get_or-eq_default (tabled row 8 l) [] {n = n} (omega (arith, length-tabled row 8 l))) (omega arith))

-- ---- what is required of a rule
pub sound_rule : (header : ℕ) (m : Model) → right_plant (under header m) ≡ true → (e : ℕ) → e < length m.events → Sound (hold_rule m e)
unfolding hold_rule
sound_rule _ m right e known = record {
  nets = few-nets _ (right_is _ right);
  types = λ p.
      by_index (places m) p
      (λ h.
      omega (
        arith,
        at-padded m.types (few-places _ (right_is _ right)) p,
        right_type _ (right_is _ right) p h,
        few-nets _ (right_is _ right),
      ))
      (λ h. omega (arith, at-padded m.types (few-places _ (right_is _ right)) p, get_or-eq_default m.types 0 {n = p} h));
  pre = side_small pre pre_side pre-bytes _ m right e known;
  post = side_small post post_side post-bytes _ m right e known;
}

-- ---- what is required of lines

on_places : (header : ℕ) (m : Model) → right_plant (under header m) ≡ true → (ls : Lines) → T (M.every (proper m) (ones ls)) → OnPlaces (map hold_line ls)
on_places _ m right [] h = tt
on_places _ m right (l ∷ ls) h =
    let f = fit m l.one (and_l (proper m l.one) (M.every (proper m) (ones ls)) h) in
    (omega arith, omega (arith, f.place, few-places _ (right_is _ right)), on_places _ m right ls (and_r (proper m l.one) (M.every (proper m) (ones ls)) h))

-- a test of how many of each there are
times_held : (f : ℕ → Bool) (ls : Lines) → M.every (λ e. f e.times) (held_ones ls) ≡ M.every (λ l. f l.times) ls
times_held f [] = refl
times_held f (l ∷ ls) = ap (λ (b : Bool). f l.times && b) (times_held f ls)

pub placed-held : (header : ℕ) (m : Model) → right_plant (under header m) ≡ true → (ls : Lines) → T (M.every (proper m) (spelt ls)) → T (there ls)
    → T (up_to alike_limit ls) → length ls ≤ line_limit → Placed (map hold_line ls)
placed-held _ m right ls h some small few = record {
  few = omega (arith, length-map ls hold_line);
  places = on_places _ m right ls (every_ones (proper m) ls some h);
  some = rw (lines_held ls, times_held (λ n. leb 1 n) ls) some;
  small = rw (lines_held ls, times_held (λ n. leb n alike_limit) ls) small;
}

-- ---- lines that are read for a model

-- their net-tokens are the model's
module _ (lim : Limits) (m : Model) where
  ones_read : (ls : Lines) → every (right_net_token lim (sizes_of m)) ls ≡ true → T (M.every (proper m) (ones ls))
  ones_read [] h = tt
  ones_read (l ∷ ls) h =
      let p = and_true (right_net_token lim (sizes_of m) l) _ h in
      let r = (hold.right_is lim (sizes_of m) l p.0).token in
      and_i (proper m l.one) (M.every (proper m) (ones ls)) (one l.one r.place r.size) (ones_read ls p.1)
    where
      one : (t : NetToken) → t.place < places m → length t.inside ≡ (sizes_of m).size (suc t.place) → T (proper m t)
      one t p q =
          let e : suc t.place - 1 ≡ t.place = omega arith in
          let k : length t.inside ≡ size_of m (type_of m t.place) = q ∙ ap (λ (i : ℕ). size_of m (type_of m i)) e in
          and_i (ltb t.place (places m)) _ (true_is (lt-ltb t.place (places m) p)) (true_is (eq-eqb (length t.inside) _ k))

  pub proper_read : (ls : Lines) → every (right_net_token lim (sizes_of m)) ls ≡ true → T (M.every (proper m) (spelt ls))
  proper_read ls h = every_spelt (proper m) ls (ones_read ls h)

-- each is of at least one, and of no more than the limit
pub there_read : (lim : Limits) (z : Sizes) (ls : Lines) → every (right_net_token lim z) ls ≡ true → T (there ls)
there_read lim z [] h = tt
there_read lim z (l ∷ ls) h =
    let p = and_true (right_net_token lim z l) _ h in
    let r = hold.right_is lim z l p.0 in
    and_i (leb 1 l.times) (there ls) (le→leb 1 l.times r.some) (there_read lim z ls p.1)

pub small_read : (lines counts : ℕ) (z : Sizes) (ls : Lines) → every (right_net_token (limits lines counts) z) ls ≡ true → T (up_to alike_limit ls)
small_read lines counts z [] h = tt
small_read lines counts z (l ∷ ls) h =
    let p = and_true (right_net_token (limits lines counts) z l) _ h in
    let r = hold.right_is (limits lines counts) z l p.0 in
    and_i (leb l.times alike_limit) (up_to alike_limit ls) (true_is r.times) (small_read lines counts z ls p.1)
