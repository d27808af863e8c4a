-- Right lines spell right net-tokens, and a marking of right net-tokens in canonical order, with room for them, can be held.
use Prim.Native.Nat.{ℕ, suc, ◌≤◌}
use mathlib.Core.Path.{◌≡◌, refl, ◌∙◌}
use mathlib.Core.List.{[], ◌∷◌}
use mathlib.Core.Bool.{Bool, true, ◌&&◌}
use native.Mathlib.Omega.{arith}
use native.Mathlib.Nat.{le_of_eq}
use lib.Dec.{T, eqb, leb, leb→le}
use lib.ListN.{length}
use borrow.Author.Tests.{le-leb, leb-true, eq-eqb}
use Rattle.text.specs.Lines.{every, in_range}
use Rattle.text.proofs.Basics.{and_true}
use Rattle.text.proofs.TestLaws.{and_both, eqb_and, within-is}
use Rattle.eos.specs.Multiset as M
use Rattle.eos.specs.Counted.{ones, spelt, there, up_to, fits}
use Rattle.eos.specs.Model as eos
use Rattle.eos.proofs.Basics.{true_is, is_true, and_l, and_r, and_i}
use Rattle.eos.proofs.MultisetLaws.{every_part}
use Rattle.eos.proofs.OrderLaws.{sort_again}
use Rattle.eos.proofs.CountedLaws.{every_spelt, every_ones, tally_strict, spelt_tally}
use Rattle.eos.proofs.FiringLaws.{alike, token_order, count-canonical}
use Rattle.eos.proofs.RoomLaws.{fits_same}
use Rattle.model.specs.Limits.{room_limit, count_limit, alike_limit}
use Rattle.marking.specs.Held.{Sizes, has_room}
use Rattle.marking.specs.Reading.{Limits, limits, right_net_token, right_block, right_start}
use Rattle.marking.proofs.HoldMarking.{Right, right_is, is_right, Held}

-- a net-token within the limits, as a test
abbrev pub right_one : (ℕ → Bool) → Sizes → eos.NetToken → Bool
right_one range z t = in_range 1 z.places (suc t.place) && (eqb (length t.inside) (z.size (suc t.place)) && every range t.inside)

module _ (range : ℕ → Bool) (z : Sizes) (t : eos.NetToken) where
  pub one_right : right_one range z t ≡ true → Right range z t
  one_right h =
      let p = and_true (in_range 1 z.places (suc t.place)) _ h in
      let w = within-is 1 z.places (suc t.place) p.0 in
      let q = eqb_and (length t.inside) (z.size (suc t.place)) _ p.1 in
      record { place = w.1; size = q.0; counts = q.1 }

  pub right_as_one : Right range z t → right_one range z t ≡ true
  right_as_one r = rw (le-leb 1 (suc t.place) (omega arith), le-leb (suc t.place) z.places r.place, eq-eqb _ _ r.size, r.counts)

module _ (lim : Limits) (z : Sizes) where
  ones_right : (ls : eos.Lines) → every (right_net_token lim z) ls ≡ true → T (M.every (right_one lim.counts z) (ones ls))
  ones_right [] h = tt
  ones_right (l ∷ ls) h =
      let p = and_true (right_net_token lim z l) _ h in
      and_i (right_one lim.counts z l.one) _ (true_is (right_as_one lim.counts z l.one (right_is lim z l p.0).token)) (ones_right ls p.1)

  -- what right lines spell
  pub spelt_right : (ls : eos.Lines) → every (right_net_token lim z) ls ≡ true → T (M.every (right_one lim.counts z) (spelt ls))
  spelt_right ls h = every_spelt (right_one lim.counts z) ls (ones_right ls h)

  right_ones : (ls : eos.Lines) → T (M.every (right_one lim.counts z) (ones ls)) → T (there ls) → T (up_to alike_limit ls)
      → ((n : ℕ) → n ≤ alike_limit → lim.times n ≡ true) → every (right_net_token lim z) ls ≡ true
  right_ones [] h t u some = refl
  right_ones (l ∷ ls) h t u some =
      let one = right_one lim.counts z l.one in
      let n : l.times ≤ alike_limit = leb→le l.times alike_limit (and_l (leb l.times alike_limit) (up_to alike_limit ls) u) in
      and_both (right_net_token lim z l) _
      (is_right lim z l (record {
        token = one_right lim.counts z l.one (is_true one (and_l one (M.every (right_one lim.counts z) (ones ls)) h));
        some = leb→le 1 l.times (and_l (leb 1 l.times) (there ls) t);
        times = some l.times n;
      }))
      (right_ones ls (and_r one (M.every (right_one lim.counts z) (ones ls)) h) (and_r (leb 1 l.times) (there ls) t) (and_r (leb l.times alike_limit) (up_to alike_limit ls) u) some)

-- the entries of a marking that there is room for
pub entries_right : (lim : Limits) (z : Sizes) (room : ℕ) (μ : eos.Marking) → ((n : ℕ) → n ≤ alike_limit → lim.times n ≡ true) → has_room room μ ≡ true
    → T (M.every (right_one lim.counts z) μ) → (length (eos.entries μ) ≤ room) × (every (right_net_token lim z) (eos.entries μ) ≡ true)
unfolding fits
entries_right lim z room μ some fit right =
    let es = eos.entries μ in
    let p = and_true (leb (length es) room) _ fit in
    let strict = tally_strict eos.before eos.like token_order alike μ in
    let sorted : T (M.every (right_one lim.counts z) (eos.canonical μ)) =
    every_part eos.like alike (right_one lim.counts z) (eos.canonical μ) μ (λ t. le_of_eq (count-canonical t μ)) right in
    let each : T (M.every (right_one lim.counts z) (ones es)) =
    every_ones (right_one lim.counts z) es strict.some (rw (spelt_tally eos.before eos.like token_order alike μ) sorted) in
    (leb-true (length es) room p.0, right_ones lim z es each strict.some (true_is p.1) some)

-- right net-tokens in canonical order, with room for them, can be held
pub held_right_ones : (z : Sizes) (μ : eos.Marking) → eos.canonical μ ≡ μ → has_room room_limit μ ≡ true → T (M.every (right_one (λ v. leb v count_limit) z) μ) → Held z μ
unfolding right_block
held_right_ones z μ ordered fit right =
    let e = entries_right (limits 256 65535) z room_limit μ (λ n q. le-leb n alike_limit q) fit right in
    record { right = and_both (leb (length (eos.entries μ)) 256) _ (le-leb (length (eos.entries μ)) 256 e.0) e.1; ordered = ordered }

-- and what is held is right
pub held_ones_right : (z : Sizes) (μ : eos.Marking) → Held z μ → T (M.every (right_one (λ v. leb v count_limit) z) μ)
unfolding right_block
held_ones_right z μ h =
    let p = and_true (leb (length (eos.entries μ)) 256) _ h.right in
    rw (spelt_tally eos.before eos.like token_order alike μ ∙ h.ordered) at (spelt_right (limits 256 65535) z (eos.entries μ) p.1)

-- there is as much room for a marking in canonical order
pub room_canonical : (room : ℕ) (μ : eos.Marking) → has_room room (eos.canonical μ) ≡ has_room room μ
room_canonical room μ = fits_same eos.before eos.like token_order alike room alike_limit (eos.canonical μ) μ (λ t. count-canonical t μ)

-- a right start, in canonical order, can be held
pub start_held : (z : Sizes) (ls : eos.Lines) → right_start room_limit (limits 256 65535) z ls ≡ true → Held z (eos.canonical (spelt ls))
unfolding right_block
start_held z ls h =
    let μ = spelt ls in
    let p = and_true (leb (length ls) 256 && every (right_net_token (limits 256 65535) z) ls) _ h in
    let q = and_true (leb (length ls) 256) _ p.0 in
    held_right_ones z (eos.canonical μ) (sort_again eos.before token_order μ) (room_canonical room_limit μ ∙ p.1)
    (every_part eos.like alike (right_one (λ v. leb v count_limit) z) (eos.canonical μ) μ (λ t. le_of_eq (count-canonical t μ)) (spelt_right (limits 256 65535) z ls q.1))
