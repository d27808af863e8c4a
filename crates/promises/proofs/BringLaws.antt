-- What a text brings: the step that the rule reads is the step that the engine reads, wherever its numbers are within the limits.
use Prim.Native.Nat.{ℕ, suc, ◌+◌, ◌-◌, ◌*◌, ◌≤◌}
use mathlib.Core.Path.{◌≡◌, refl, ap, sym, subst}
use mathlib.Core.Bool.{true}
use mathlib.Core.List.{[], ◌∷◌, ◌++◌}
use mathlib.Core.Option.{some}
use native.Mathlib.Omega.{arith}
use lib.Dec.{T, leb, ltb}
use lib.ListN.{length, get_or, replicate, length-append, length-replicate}
use borrow.Author.Tests.{leb-true, le-leb, ltb-true}
use Rattle.text.specs.Bytes.{Text}
use Rattle.text.proofs.Basics.{by_test, and_true}
use Rattle.text.specs.Lines.{Outcome, got, bad, every}
use Rattle.text.proofs.TestLaws.{and_both, every_of}
use Rattle.eos.specs.Multiset as M
use Rattle.eos.specs.Counted.{spelt}
use Rattle.eos.specs.Model as eos
use Rattle.eos.specs.Firing.{Step, Written, step_of, StepOf}
use Rattle.eos.specs.Room.{Small}
use Rattle.eos.proofs.Basics.{true_is, and_l, and_r, and_i, some_not}
use Rattle.eos.proofs.MultisetLaws.{bit_self, count_append}
use Rattle.eos.proofs.CountedLaws.{count_copies}
use Rattle.eos.proofs.FiringLaws.{alike}
use Rattle.marking.specs.Held.{Sizes, sizes_of, Roomy, hold_marking, tokens_of}
use Rattle.marking.specs.Reading.{Limits, free, right_net_token, right_block}
use Rattle.marking.proofs.HoldMarking.{right_is, is_right, all_right, tokens_hold, Held}
use Rattle.marking.proofs.RightTokens.{right_one, right_as_one}
use Rattle.marking.proofs.WriteLaws.{spelt_entries}
use Rattle.reader.specs.Reading.{bounds}
use Rattle.step.specs.Reading.{read_step, right_step}
use Rattle.step.proofs.StepExactly.{step_exactly}
use Rattle.step.proofs.ProjectionLaws.{fit}
use Rattle.step.proofs.SoundLaws.{proper_read}
use Rattle.runner.proofs.StandsLaws.{any_range}
use Rattle.promises.specs.WholeRun.{step_in, brings}
use Rattle.step.specs.Printed.{step_text}
use Rattle.text.proofs.Standing.{front_stands}
use Rattle.model.specs.Limits.{longest, line_limit, cover_limit, alike_limit, count_limit}

-- ---- a step read for some limits, read for others

module _ (z : Sizes) (events : ℕ) (s : Text) (w : Written) (next : ℕ) where
  -- what is read is right
  read_right : (lim : Limits) → read_step lim z events s 0 ≡ got w next → right_step lim z events w ≡ true
  read_right lim e = ((step_exactly lim z events s).back 0 w next e).fine-is

  -- and is read for any limits for which it is right
  read_again : (lim lim' : Limits) → read_step lim z events s 0 ≡ got w next → right_step lim' z events w ≡ true → read_step lim' z events s 0 ≡ got w next
  read_again lim lim' e h =
      let b = (step_exactly lim z events s).back 0 w next e in
      rw b.reaches.next_is ((step_exactly lim' z events s).forth 0 w b.reaches.stands h)

  -- the rule reads what the engine reads
  pub read_free : read_step bounds z events s 0 ≡ got w next → read_step free z events s 0 ≡ got w next
  unfolding right_step right_block
  read_free e =
      let p = and_true (ltb w.event events) _ (read_right bounds e) in
      let q = and_true (right_block bounds z w.taken) _ p.1 in
      let part : (ls : eos.Lines) → right_block bounds z ls ≡ true → right_block free z ls ≡ true =
      λ ls h. any_range bounds z ls (and_true (leb (length ls) line_limit) _ h).1 in
      read_again bounds free e (and_both (ltb w.event events) _ p.0 (and_both (right_block free z w.taken) _ (part w.taken q.0) (part w.given q.1)))

-- ---- net-tokens within the limits

-- lines that spell few net-tokens are few, and each stands for few
module _ (z : Sizes) where
  few_lines : (ls : eos.Lines) → every (right_net_token free z) ls ≡ true → length ls ≤ length (spelt ls)
  few_lines [] h = omega arith
  few_lines (l ∷ ls) h =
      let p = and_true (right_net_token free z l) _ h in
      omega (
        arith,
        length-append (replicate l.times l.one) (spelt ls),
        length-replicate l.times l.one,
        (right_is free z l p.0).some,
        few_lines ls p.1,
      )

  small_lines : (ls : eos.Lines) → every (right_net_token free z) ls ≡ true → length (spelt ls) ≤ alike_limit → Small count_limit (spelt ls)
      → every (right_net_token bounds z) ls ≡ true
  small_lines [] h few small = refl
  small_lines (l ∷ ls) h few small =
      let p = and_true (right_net_token free z l) _ h in
      let r = right_is free z l p.0 in
      let long = length-append (replicate l.times l.one) (spelt ls) in
      let copies = length-replicate l.times l.one in
      let c : (t : eos.NetToken) → M.count eos.like t (spelt (l ∷ ls)) ≡ M.bit (eos.like t l.one) * l.times + M.count eos.like t (spelt ls) =
      λ t. omega (arith, count_append eos.like alike t (replicate l.times l.one) (spelt ls), count_copies eos.like t l.one l.times) in
      let same : M.count eos.like l.one (spelt (l ∷ ls)) ≡ 1 * l.times + M.count eos.like l.one (spelt ls) = rw (bit_self eos.like alike l.one) at (c l.one) in
      let one : 1 ≤ M.count eos.like l.one (spelt (l ∷ ls)) = omega (arith, same, r.some) in
      and_both (right_net_token bounds z l) _
      (is_right bounds z l (record {
        token = record {
          place = r.token.place;
          size = r.token.size;
          counts = every_of (λ n. leb n count_limit) l.one.inside 0 (λ i q. le-leb (get_or l.one.inside i 0) count_limit (small l.one one i));
        };
        some = r.some;
        times = le-leb l.times alike_limit (omega (arith, long, copies, few));
      }))
      (small_lines ls p.1 (omega (arith, long, copies, few)) (λ t k. small t (omega (arith, c t, k))))

  -- lines of few net-tokens with small counts are right within the limits
  pub few_right : (ls : eos.Lines) → right_block free z ls ≡ true → length (spelt ls) ≤ cover_limit → Small count_limit (spelt ls) → right_block bounds z ls ≡ true
  unfolding right_block
  few_right ls h few small =
      let n = few_lines ls h in
      and_both (leb (length ls) line_limit) _ (le-leb (length ls) line_limit (omega (arith, n, few))) (small_lines ls h (omega (arith, few)) small)

-- a marking that can be held is what it stands for as it is held
pub tokens_again : (z : Sizes) → Roomy z → (μ : eos.Marking) → Held z μ → tokens_of z (hold_marking μ) ≡ μ
unfolding right_block
tokens_again z roomy μ h =
    let right = (and_true (leb (length (eos.entries μ)) line_limit) _ h.right).1 in
    tokens_hold z μ (rw (spelt_entries μ h.ordered) at (all_right bounds z roomy (eos.entries μ) right))

module _ (m : eos.Model) where
  -- net-tokens of the model with small counts are right
  pub small_ones : (μ : eos.Marking) → T (M.every (eos.proper m) μ) → Small count_limit μ → T (M.every (right_one (λ v. leb v count_limit) (sizes_of m)) μ)
  small_ones [] p small = tt
  small_ones (t ∷ μ) p small =
      let f = fit m t (and_l (eos.proper m t) _ p) in
      let e : suc t.place - 1 ≡ t.place = omega arith in
      let n = small t (omega (arith, bit_self eos.like alike t)) in
      and_i (right_one (λ v. leb v count_limit) (sizes_of m) t) (M.every (right_one (λ v. leb v count_limit) (sizes_of m)) μ)
      (true_is (right_as_one (λ v. leb v count_limit) (sizes_of m) t (record {
        place = f.place;
        size = rw e f.size;
        counts = every_of (λ v. leb v count_limit) t.inside 0 (λ i q. le-leb (get_or t.inside i 0) count_limit (n i));
      })))
      (small_ones μ (and_r (eos.proper m t) _ p) (λ u c. small u (omega arith)))

  -- ---- what a text brings

  module _ (s : Text) (w : Written) where
    -- a text is short enough, and begins with these lines of a step
    pub record Read : Type 0 where
      pub short : length s ≤ longest
      pub next : ℕ
      pub is : read_step free (sizes_of m) (length m.events) s 0 ≡ got w next

    -- then it brings the step
    pub read_brings : Read → brings m s ≡ some (step_of w)
    unfolding brings step_in
    read_brings r = rw (le-leb (length s) longest r.short, brings) (ap step_in r.is)

    module _ (r : Read) where
      -- its event and its net-tokens are the model's
      read_known : StepOf m (step_of w)
      unfolding right_step right_block
      read_known =
          let p = and_true (ltb w.event (length m.events)) _ (read_right (sizes_of m) (length m.events) s w r.next free r.is) in
          let q = and_true (right_block free (sizes_of m) w.taken) _ p.1 in
          record {
            known = ltb-true w.event (length m.events) p.0;
            taken = proper_read free m w.taken q.0;
            given = proper_read free m w.given q.1;
          }

      -- within the limits these are the lines that the engine reads
      pub read_bounds : length (spelt w.taken) ≤ cover_limit → Small count_limit (spelt w.taken)
          → length (spelt w.given) ≤ cover_limit → Small count_limit (spelt w.given)
          → read_step bounds (sizes_of m) (length m.events) s 0 ≡ got w r.next
      unfolding right_step
      read_bounds few small few' small' =
          let p = and_true (ltb w.event (length m.events)) _ (read_right (sizes_of m) (length m.events) s w r.next free r.is) in
          let q = and_true (right_block free (sizes_of m) w.taken) _ p.1 in
          read_again (sizes_of m) (length m.events) s w r.next free bounds r.is
          (and_both (ltb w.event (length m.events)) _ p.0
          (and_both (right_block bounds (sizes_of m) w.taken) _ (few_right (sizes_of m) w.taken q.0 few small) (few_right (sizes_of m) w.given q.1 few' small')))

  module _ (s : Text) (t : Step) where
    step-got : (o : Outcome Written) → step_in o ≡ some t → (w : Written) × (next : ℕ) × (o ≡ got w next) × (step_of w ≡ t)
    unfolding step_in
    step-got (got w next) e = (w, next, refl, cc)
    step-got (bad d) e = some_not (sym e)

    -- and only then
    pub brings_read : brings m s ≡ some t → (w : Written) × Read s w × (step_of w ≡ t)
    unfolding brings
    brings_read e =
        by_test (leb (length s) longest)
        (λ h.
        let (w, next, is, step) = step-got (read_step free (sizes_of m) (length m.events) s 0) (rw (h, brings) at e) in
        (w, record { short = leb-true (length s) longest h; next = next; is = is }, step))
        (λ h. some_not (sym (rw (h, brings) at e)))

    -- what is brought is of the model
    pub brings-known : brings m s ≡ some t → StepOf m t
    brings-known e = let (w, r, step) = brings_read e in subst (StepOf m) step (read_known s w r)

  -- the lines of a step of the model bring it, however large its numbers and whatever stands behind them
  pub step-brings : (w : Written) (rest : Text) → right_step free (sizes_of m) (length m.events) w ≡ true → length (step_text w ++ rest) ≤ longest
      → brings m (step_text w ++ rest) ≡ some (step_of w)
  step-brings w rest right short =
      let s = step_text w ++ rest in
      read_brings s w (record {
        short = short;
        next = _;
        is = (step_exactly free (sizes_of m) (length m.events) s).forth 0 w (front_stands s 0 (step_text w) rest refl) right;
      })
