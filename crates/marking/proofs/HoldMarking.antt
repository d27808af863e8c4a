-- A held marking stands for one marking, and is held as that is: the held test passes exactly for what is held of a right marking in
-- canonical order.
use Prim.Native.Nat.{ℕ, zero, suc, ◌-◌, ◌≤◌, ◌<◌}
use mathlib.Core.Path.{◌≡◌, refl, ap, ap₂, sym, ◌∙◌}
use mathlib.Core.Logic.{◌↔◌}
use mathlib.Core.List.{List, [], ◌∷◌, ◌++◌, map}
use mathlib.Core.Bool.{Bool, true, false, cond}
use native.Mathlib.Omega.{arith}
use lib.Dec.{T, leb}
use lib.ListN.{length, take, drop, replicate, length-map, length-take}
use borrow.Author.Tests.{leb-true, le-leb, eq-eqb}
use Rattle.text.specs.Lines.{every, in_range}
use Rattle.text.specs.TokenLine.{right_token}
use Rattle.text.specs.Answers.{padded}
use Rattle.text.proofs.Basics.{and_true}
use Rattle.text.proofs.TestLaws.{and_both, eqb_and, within-is}
use Rattle.text.proofs.PaddedLaws.{take-padded, length-padded}
use Rattle.eos.proofs.VectorLaws.{eq_v_eq, eq_v_of}
use Rattle.eos.proofs.Basics.{true_is, is_true, and_l, and_r, and_i}
use Rattle.eos.specs.Multiset as M
use Rattle.eos.specs.Multiset.{Sorted}
use Rattle.eos.specs.Counted.{Counted, counted, ones, spelt, there, up_to, join, grouped, tally, fits, under}
use Rattle.eos.specs.Model as eos
use Rattle.eos.proofs.OrderLaws.{sort_fixed}
use Rattle.eos.proofs.CountedLaws.{spelt_grouped, strict_sorted, tally_strict}
use Rattle.eos.proofs.FiringLaws.{alike, token_order}
use Rattle.model.specs.Limits.{room_limit, alike_limit, count_limit}
use Rattle.marking.specs.Tokens.{row, like, before, unused, all_counted, tokens, spelt_out, laid, holding, entries_in, tokens_in, held_by, ascending, Kept}
use Rattle.marking.specs.declared.NetToken.{NetToken}
use Rattle.marking.specs.declared.Entry.{Entry}
use Rattle.marking.proofs.TokenOrder.{held_alike, held_order}
use Rattle.marking.proofs.KeptLaws.{entries_held, room_unused, kept_by, kept_test, rising_ascending, length_held}
use Rattle.marking.specs.Held.{Sizes, hold_token, hold_line, hold_marking, token_of, line_of, lines_of, tokens_of, has_room, held_token, held_entry, held_entries, held_marking, SizedMarking, Roomy}
use Rattle.marking.specs.Reading.{Limits, limits, free, right_net_token, right_block}
use Rattle.marking.specs.declared.Marking.{Marking}
use Rattle.marking.proofs.HeldOrder.{Fitting, All, none, more, before-held}
use Rattle.marking.proofs.HeldBy.{held_ones, lines_held, spelt_held, tally_held, held_by_is}

-- ---- one net-token

-- what a right net-token's line says
pub record Right (range : ℕ → Bool) (z : Sizes) (t : eos.NetToken) : Type 0 where
  pub place : t.place < z.places
  pub size : length t.inside ≡ z.size (suc t.place)
  pub counts : every range t.inside ≡ true

-- what the line of net-tokens says, within the limits: a right net-token, and at least one of it
pub record RightLine (lim : Limits) (z : Sizes) (l : Counted eos.NetToken) : Type 0 where
  pub token : Right lim.counts z l.one
  pub some : 1 ≤ l.times
  pub times : lim.times l.times ≡ true

module _ (lim : Limits) (z : Sizes) (l : Counted eos.NetToken) where
  pub right_is : right_net_token lim z l ≡ true → RightLine lim z l
  unfolding right_net_token right_token
  right_is h =
      let t = l.one in
      let p = and_true (in_range 1 z.places (suc t.place)) _ h in
      let w = within-is 1 z.places (suc t.place) p.0 in
      let q = eqb_and (length t.inside) (z.size (suc t.place)) _ p.1 in
      let c = and_true (every lim.counts t.inside) _ q.1 in
      let n = and_true (leb 1 l.times) _ c.1 in
      record { token = record { place = w.1; size = q.0; counts = c.0 }; some = leb-true 1 l.times n.0; times = n.1 }

  pub is_right : RightLine lim z l → right_net_token lim z l ≡ true
  unfolding right_net_token right_token
  is_right r =
      let t = l.one in
      rw (
        le-leb 1 (suc t.place) (omega arith),
        le-leb (suc t.place) z.places r.token.place,
        eq-eqb _ _ r.token.size,
        r.token.counts,
        le-leb 1 l.times r.some,
        r.times,
      )

pub fitting : (range : ℕ → Bool) (z : Sizes) (t : eos.NetToken) → Roomy z → Right range z t → Fitting z t
fitting range z t roomy r = record { size = r.size; room = omega (arith, r.size, roomy (suc t.place)) }

-- what right lines spell is right
pub all_right : (lim : Limits) (z : Sizes) → Roomy z → (ls : eos.Lines) → every (right_net_token lim z) ls ≡ true → All z (spelt ls)
all_right lim z roomy [] h = none
all_right lim z roomy (l ∷ ls) h =
    let p = and_true (right_net_token lim z l) _ h in
    go l.times (fitting lim.counts z l.one roomy (right_is lim z l p.0).token) (all_right lim z roomy ls p.1)
  where
    go : (n : ℕ) → Fitting z l.one → All z (spelt ls) → All z (replicate n l.one ++ spelt ls)
    go zero f a = a
    go (suc n) f a = more f (go n f a)

-- a held net-token stands for what was held
token_again : (z : Sizes) (t : eos.NetToken) → Fitting z t → token_of z (hold_token t) ≡ t
token_again z t f =
    let p : suc t.place - 1 ≡ t.place = omega arith in
    let q : take (z.size (suc t.place)) (padded t.inside) ≡ t.inside = rw (← f.size) (take-padded t.inside f.room) in
    λ i. record { place = p i; inside = q i }

lines_again : (z : Sizes) (ls : eos.Lines) → All z (ones ls) → map (line_of z) (map hold_line ls) ≡ ls
lines_again z [] none = refl
lines_again z (l ∷ ls) (more f a) =
    ap₂ (λ (t : eos.NetToken) (k : eos.Lines). counted t l.times ∷ k) (token_again z l.one f) (lines_again z ls a)

all_join : (z : Sizes) (t : eos.NetToken) (ls : eos.Lines) → Fitting z t → All z (ones ls) → All z (ones (join eos.like t ls))
all_join z t [] f a = more f none
all_join z t (l ∷ ls) f (more g a) = go (eos.like t l.one)
  where
    go : (b : Bool) → All z (ones (cond b (counted t (suc l.times) ∷ ls) (counted t 1 ∷ l ∷ ls)))
    go true = more f a
    go false = more f (more g a)

all_grouped : (z : Sizes) (μ : eos.Marking) → All z μ → All z (ones (grouped eos.like μ))
all_grouped z [] none = none
all_grouped z (t ∷ μ) (more f a) = all_join z t (grouped eos.like μ) f (all_grouped z μ a)

-- and a held marking for what was held
pub lines_hold : (z : Sizes) (μ : eos.Marking) → All z μ → lines_of z (hold_marking μ) ≡ grouped eos.like μ
unfolding hold_marking
lines_hold z μ a = rw (entries_held (map hold_line (grouped eos.like μ))) (lines_again z (grouped eos.like μ) (all_grouped z μ a))

pub tokens_hold : (z : Sizes) (μ : eos.Marking) → All z μ → tokens_of z (hold_marking μ) ≡ μ
unfolding tokens_of
tokens_hold z μ a = ap spelt (lines_hold z μ a) ∙ spelt_grouped eos.like alike μ

-- ---- one held net-token

every_take : (f : ℕ → Bool) (n : ℕ) (l : List ℕ) → every f l ≡ true → every f (take n l) ≡ true
every_take f zero l h = refl
every_take f (suc n) [] h = refl
every_take f (suc n) (v ∷ l) h = let p = and_true (f v) _ h in and_both (f v) _ p.0 (every_take f n l p.1)

module _ (z : Sizes) (roomy : Roomy z) where
  held_again : (t : NetToken) → held_token z t ≡ true → hold_token (token_of z t) ≡ t
  unfolding held_token
  held_again t h =
      let a = and_true (in_range 1 z.places t.place) _ h in
      let w = within-is 1 z.places t.place a.0 in
      let k : suc (t.place - 1) ≡ t.place = omega arith in
      let c : padded (take (z.size t.place) t.counts) ≡ t.counts = sym (eq_v_eq t.counts _ (true_is a.1)) in
      λ i. record { place = k i; counts = c i }

  held_right : (range : ℕ → Bool) (t : NetToken) → held_token z t ≡ true → every range t.counts ≡ true → Right range z (token_of z t)
  unfolding held_token
  held_right range t h b =
      let a = and_true (in_range 1 z.places t.place) _ h in
      let w = within-is 1 z.places t.place a.0 in
      let k : suc (t.place - 1) ≡ t.place = omega arith in
      let n : length t.counts ≡ 32 = ap length (eq_v_eq t.counts _ (true_is a.1)) ∙ length-padded (take (z.size t.place) t.counts) in
      record {
        place = omega arith;
        size = length-take (z.size t.place) t.counts ∙ rw k (omega (arith, roomy t.place));
        counts = every_take range (z.size t.place) t.counts b;
      }

  right_held : (range : ℕ → Bool) (t : eos.NetToken) → Right range z t → held_token z (hold_token t) ≡ true
  unfolding held_token
  right_held range t r =
      let f = fitting range z t roomy r in
      let d : padded t.inside ≡ padded (take (z.size (suc t.place)) (padded t.inside)) = rw (← f.size, take-padded t.inside f.room) in
      and_both (in_range 1 z.places (suc t.place)) _
      (rw (le-leb 1 (suc t.place) (omega arith), le-leb (suc t.place) z.places r.place))
      (is_true _ (eq_v_of d))

  -- ---- all of them

  pub hold_lines : (es : List Entry) → every (held_entry z) es ≡ true → map hold_line (map (line_of z) es) ≡ es
  hold_lines [] h = refl
  hold_lines (e ∷ es) h =
      let p = and_true (held_entry z e) _ h in
      let q = and_true (held_token z e.token) _ p.0 in
      ap₂ (λ (t : NetToken) (k : List Entry). record { token = t; times = e.times } ∷ k) (held_again e.token q.0) (hold_lines es p.1)

  pub lines_right : (lim : Limits) → ((n : ℕ) → n ≤ alike_limit → lim.times n ≡ true) → (es : List Entry) → every (held_entry z) es ≡ true
      → every (λ e. every lim.counts e.token.counts) es ≡ true → every (right_net_token lim z) (map (line_of z) es) ≡ true
  lines_right lim some [] h b = refl
  lines_right lim some (e ∷ es) h b =
      let p = and_true (held_entry z e) _ h in
      let t = and_true (held_token z e.token) _ p.0 in
      let n = within-is 1 alike_limit e.times t.1 in
      let q = and_true (every lim.counts e.token.counts) _ b in
      and_both (right_net_token lim z (line_of z e)) _
      (is_right lim z (line_of z e) (record { token = held_right lim.counts e.token t.0 q.0; some = n.0; times = some e.times n.1 }))
      (lines_right lim some es p.1 q.1)

  right_lines : (lim : Limits) (ls : eos.Lines) → every (right_net_token lim z) ls ≡ true → T (up_to alike_limit ls) → every (held_entry z) (map hold_line ls) ≡ true
  right_lines lim [] h u = refl
  right_lines lim (l ∷ ls) h u =
      let p = and_true (right_net_token lim z l) _ h in
      let r = right_is lim z l p.0 in
      let n : in_range 1 alike_limit l.times ≡ true =
      and_both (leb 1 l.times) _ (le-leb 1 l.times r.some) (is_true _ (and_l (leb l.times alike_limit) (up_to alike_limit ls) u)) in
      and_both (held_entry z (hold_line l)) _ (and_both (held_token z (hold_token l.one)) _ (right_held lim.counts l.one r.token) n)
      (right_lines lim ls p.1 (and_r (leb l.times alike_limit) (up_to alike_limit ls) u))

  below-back : (t : eos.NetToken) (μ : eos.Marking) → Fitting z t → All z μ → M.Below before (hold_token t) (map hold_token μ) → M.Below eos.before t μ
  below-back t [] f none b = tt
  below-back t (u ∷ μ) f (more g a) b = (rw (before-held z t u f g) at b.0, below-back t μ f a b.1)

  -- net-tokens that are held in order are in order
  sorted_back : (μ : eos.Marking) → All z μ → M.Sorted before (map hold_token μ) → M.Sorted eos.before μ
  sorted_back [] none s = tt
  sorted_back (t ∷ μ) (more f a) s = (below-back t μ f a s.0, sorted_back μ a s.1)

-- of the first n entries, the counts are in the range that all numbers are in
entries_small : (n : ℕ) (es : List Entry) → every (λ e. every (λ v. leb v count_limit) (row e.token)) es ≡ true
    → every (λ e. every (λ v. leb v count_limit) e.token.counts) (take n es) ≡ true
entries_small zero es h = refl
entries_small (suc n) [] h = refl
entries_small (suc n) (e ∷ es) h =
    let p = and_true (every (λ v. leb v count_limit) (row e.token)) _ h in
    and_both (every (λ v. leb v count_limit) e.token.counts) _ (and_true (leb e.token.place count_limit) _ p.0).1 (entries_small n es p.1)

-- there is one of each, and no more than are held
there_held : (z : Sizes) (es : List Entry) → every (held_entry z) es ≡ true → T (there (all_counted es))
there_held z [] h = tt
there_held z (e ∷ es) h =
    let p = and_true (held_entry z e) _ h in
    let n = and_true (leb 1 e.times) _ (and_true (held_token z e.token) _ p.0).1 in
    and_i (leb 1 e.times) (there (all_counted es)) (true_is n.0) (there_held z es p.1)

times_small : (z : Sizes) (es : List Entry) → every (held_entry z) es ≡ true → T (up_to alike_limit (all_counted es))
times_small z [] h = tt
times_small z (e ∷ es) h =
    let p = and_true (held_entry z e) _ h in
    let n = and_true (leb 1 e.times) _ (and_true (held_token z e.token) _ p.0).1 in
    and_i (leb e.times alike_limit) (up_to alike_limit (all_counted es)) (true_is n.1) (times_small z es p.1)

-- ---- the held test

-- a marking that an accepted reading gives: right entries, at most 256, in canonical order
pub record Held (z : Sizes) (μ : eos.Marking) : Type 0 where
  pub right : right_block (limits 256 65535) z (eos.entries μ) ≡ true
  pub ordered : eos.canonical μ ≡ μ

-- there is room for it
times_right : (lim : Limits) (z : Sizes) (ls : eos.Lines) → every (right_net_token (limits 256 65535) z) ls ≡ true → up_to alike_limit ls ≡ true
times_right lim z [] h = refl
times_right lim z (l ∷ ls) h =
    let p = and_true (right_net_token (limits 256 65535) z l) _ h in
    and_both (leb l.times alike_limit) _ (right_is (limits 256 65535) z l p.0).times (times_right lim z ls p.1)

pub room_right : (z : Sizes) (μ : eos.Marking) → Held z μ → has_room room_limit μ ≡ true
unfolding right_block fits
room_right z μ h =
    let p = and_true (leb (length (eos.entries μ)) 256) _ h.right in
    and_both (leb (length (eos.entries μ)) 256) _ p.0 (times_right (limits 256 65535) z (eos.entries μ) p.1)

-- the parts of the test
pub record Tested (z : Sizes) (k : Marking) : Type 0 where
  pub kept : Kept k
  pub right : every (held_entry z) (entries_in k) ≡ true

pub held_few : (room : ℕ) (z : Sizes) (k : Marking) → held_marking room z k ≡ true → k.len ≤ room
unfolding held_entries
held_few room z k h = leb-true k.len room (and_true (leb k.len room) _ h).0

pub held_tested : (z : Sizes) (k : Marking) → length k.entries ≡ room_limit → held_marking room_limit z k ≡ true → Tested z k
unfolding held_entries
held_tested z k long h =
    let a = and_true (leb k.len 256) _ h in
    let b = and_true (ascending (entries_in k)) _ a.1 in
    let c = and_true (every unused (drop k.len k.entries)) _ b.1 in
    record {
      kept = kept_test k (leb-true k.len 256 a.0) long b.0 (there_held z (entries_in k) c.1) (times_small z (entries_in k) c.1) c.0;
      right = c.1;
    }

module _ (z : Sizes) (roomy : Roomy z) where
  -- what a tested marking stands for
  module _ (k : Marking) (t : Tested z k) where
    pub spelt_is : map hold_token (tokens_of z k) ≡ tokens_in k
    unfolding tokens_of
    spelt_is = sym (spelt_held (lines_of z k)) ∙ ap spelt_out (hold_lines z roomy (entries_in k) t.right)

    module _ (all : All z (tokens_of z k)) where
      ordered_is : eos.canonical (tokens_of z k) ≡ tokens_of z k
      ordered_is =
          let s : M.Sorted before (map hold_token (tokens_of z k)) = rw spelt_is (strict_sorted before like held_order held_alike _ t.kept.strict) in
          sort_fixed eos.before token_order _ (sorted_back z roomy (tokens_of z k) all s)

      pub again_is : hold_marking (tokens_of z k) ≡ k
      again_is =
          ap hold_marking (sym ordered_is) ∙ sym (held_by_is z (tokens_of z k) all) ∙ ap held_by spelt_is ∙ sym (kept_by k t.kept)

      pub entries_is : eos.entries (tokens_of z k) ≡ lines_of z k
      entries_is =
          ap (grouped eos.like) ordered_is ∙ sym (lines_hold z (tokens_of z k) all) ∙ ap (lines_of z) again_is

  -- its entries are right, whatever the range of their counts
  every_free : (es : List Entry) → every (λ e. every (λ c. true) e.token.counts) es ≡ true
  every_free [] = refl
  every_free (e ∷ es) = and_both (every (λ c. true) e.token.counts) _ (all_true e.token.counts) (every_free es)
    where
      all_true : (l : List ℕ) → every (λ c. true) l ≡ true
      all_true [] = refl
      all_true (v ∷ l) = all_true l

  pub tested_right : (k : Marking) → Tested z k → every (right_net_token free z) (lines_of z k) ≡ true
  tested_right k t = lines_right z roomy free (λ n q. refl) (entries_in k) t.right (every_free (entries_in k))

  -- so its net-tokens fit
  pub tested_fits : (k : Marking) → Tested z k → All z (tokens_of z k)
  unfolding tokens_of
  tested_fits k t = all_right free z roomy (lines_of z k) (tested_right k t)

  -- so its entries are those of what it stands for
  pub entries_again : (k : Marking) → Tested z k → eos.entries (tokens_of z k) ≡ lines_of z k
  entries_again k t = entries_is k t (tested_fits k t)

  pub held_tokens : (k : Marking) → SizedMarking k → held_marking room_limit z k ≡ true → Held z (tokens_of z k) × (k ≡ hold_marking (tokens_of z k))
  unfolding right_block
  held_tokens k sz h =
      let t = held_tested z k sz.long h in
      let es = entries_in k in
      let right = lines_right z roomy (limits 256 65535) (λ n q. le-leb n alike_limit q) es t.right (entries_small k.len k.entries sz.small) in
      let all = tested_fits k t in
      let n : length (lines_of z k) ≡ k.len = length-map es (line_of z) ∙ length_held k t.kept in (
        record {
          right = rw (entries_again k t) (and_both (leb (length (lines_of z k)) 256) _ (rw n (le-leb k.len 256 t.kept.few)) right);
          ordered = ordered_is k t all;
        },
        sym (again_is k t all),
      )

  -- whatever the range of their counts
  pub ordered_held : (lim : Limits) (μ : eos.Marking) → has_room room_limit μ ≡ true → eos.canonical μ ≡ μ → every (right_net_token lim z) (eos.entries μ) ≡ true
      → held_marking room_limit z (hold_marking μ) ≡ true
  unfolding held_entries hold_marking fits
  ordered_held lim μ room ordered right =
      let ls = grouped eos.like μ in
      let same : eos.entries μ ≡ ls = ap (grouped eos.like) ordered in
      let es = map hold_line ls in
      let n : length es ≡ length ls = length-map ls hold_line in
      let few_alike : T (up_to alike_limit ls) = true_is (rw same at (and_true (leb (length (eos.entries μ)) 256) _ room).1) in
      let few : length ls ≤ 256 = rw same at (leb-true (length (eos.entries μ)) 256 (and_true (leb (length (eos.entries μ)) 256) _ room).0) in
      let r : every (right_net_token lim z) ls ≡ true = rw same at right in
      let all : All z μ = rw (spelt_grouped eos.like alike μ) at (all_right lim z roomy ls r) in
      let c : all_counted es ≡ tally before like (map hold_token μ) = lines_held ls ∙ ap held_ones (sym same) ∙ sym (tally_held z μ all) in
      let order : Sorted (under before) (tokens es) = rw c (tally_strict before like held_order held_alike (map hold_token μ)).rising in
      and_both (leb (length es) 256) _ (le-leb (length es) 256 (omega arith))
      (and_both (ascending (entries_in (holding es))) _ (rw (entries_held es) (rising_ascending es order))
      (and_both (every unused (drop (length es) (laid es))) _ (room_unused es)
      (rw (entries_held es) (right_lines z roomy lim ls r few_alike))))

  pub hold_held : (μ : eos.Marking) → Held z μ → held_marking room_limit z (hold_marking μ) ≡ true
  unfolding right_block
  hold_held μ h =
      let p = and_true (leb (length (eos.entries μ)) 256) _ h.right in
      ordered_held (limits 256 65535) μ (room_right z μ h) h.ordered p.1

  -- the held test passes exactly for what is held of such a marking
  pub held_marking_exactly : (k : Marking) → SizedMarking k → (held_marking room_limit z k ≡ true) ↔ ((μ : eos.Marking) × Held z μ × (k ≡ hold_marking μ))
  held_marking_exactly k sz = (
    λ h. let p = held_tokens k sz h in (tokens_of z k, p.0, p.1),
    λ h. rw h.2 (hold_held h.0 h.1),
  )
