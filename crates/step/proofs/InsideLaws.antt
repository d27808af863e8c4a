-- Laws of the insides of the net-tokens of entries, added up net by net.
use Prim.Native.Nat.{ℕ, suc, ◌+◌, ◌-◌, ◌*◌, ◌≤◌, ◌<◌}
use mathlib.Core.Path.{◌≡◌, sym, ap, ◌∙◌}
use mathlib.Core.List.{List, []}
use native.Mathlib.Omega.{arith}
use borrow.Author.Tests.{eq-eqb, ne_eqb, eqb-true, eqb-false}
use lib.Dec.{eqb}
use lib.ListN.{length, get_or, drop, set, length-set, replicate, length-replicate, get_or-replicate, get_or-eq_default}
use lib.Seq.{get_or-set_same, get_or-set_other}
use Rattle.text.proofs.Basics.{by_test}
use Rattle.eos.specs.Vector.{◌⊕◌, times, zeros}
use Rattle.eos.proofs.VectorLaws.{get_d-⊕}
use Rattle.eos.proofs.VectorSums.{length-zeros, nth-times, nth_zero}
use Rattle.marking.specs.declared.Entry.{Entry}
use Rattle.model.specs.Limits.{alike_limit, count_limit}
use Rattle.model.specs.Rules.{nth}
use Rattle.model.proofs.SlotLaws.{by_index}
use Rattle.model.specs.Held.{no_row, row_at}
use Rattle.step.specs.Verdict.{inside_in, inner_entries}
use Rattle.step.specs.VerdictParts.{Rowed, Added, Inner}
use Rattle.step.proofs.VectorArrays.{sum_nil}
use Rattle.step.proofs.TokenSums.{sum-start, sum_turn, sum_end, insides_in, inner_none, inner_more}

by_same : {G : Type 0} (n m : ℕ) → (n ≡ m → G) → ((n ≡ m → ⊥) → G) → G
by_same n m f g = by_test (eqb n m) (λ q. f (eqb-true n m q)) (λ q. g (eqb-false n m q))

-- ---- one entry

module _ (types : List ℕ) (e : Entry) (d : ℕ) (typed : get_or types (e.token.place - 1) 0 ≡ d) where
  inside_own : (n : ℕ) → d ≡ suc n → inside_in types n e.token ≡ e.token.counts
  inside_own n h = rw (typed, eq-eqb d (suc n) h)

  inside_other : (n : ℕ) → (d ≡ suc n → ⊥) → inside_in types n e.token ≡ []
  inside_other n h = rw (typed, ne_eqb d (suc n) h)

  abbrev insides : List ℕ
  insides = times e.times e.token.counts

  module _ (before : List (List ℕ)) (rowed : Rowed before) where
    -- black tokens add nothing
    pub added_none : d ≡ 0 → Added types e before before
    added_none z = record {
      rowed = rowed;
      rows = λ n h. rw (inside_other n (λ q. omega arith)) (sym (sum_nil (row_at before n)));
      small = λ n k. omega arith;
    }

    -- any others their counts to their net
    pub added_inside : 1 ≤ d → d ≤ 8 → length (row_at before (d - 1) ⊕ insides) ≡ 32 → ((i : ℕ) → e.times * nth e.token.counts i ≤ alike_limit * count_limit)
        → (after : List (List ℕ)) → after ≡ set before (d - 1) (row_at before (d - 1) ⊕ insides) → Added types e before after
    added_inside pos few long small after is =
        let m = d - 1 in
        let row = row_at before m ⊕ insides in
        let own : row_at after m ≡ row = rw is (get_or-set_same before m row [] (omega (arith, rowed.many))) in
        let other : (n : ℕ) → (n ≡ m → ⊥) → row_at after n ≡ row_at before n = λ n q. rw is (get_or-set_other before m n row [] q) in
        record {
          rowed = record {
            many = ap length is ∙ length-set before m row ∙ rowed.many;
            long = λ n h. by_same n m (λ z. rw (z, own) long) (λ q. rw (other n q) (rowed.long n h));
          };
          rows = λ n h.
              by_same n m
              (λ z. rw (z, own, inside_own m (omega arith)))
              (λ q. rw (other n q, inside_other n (λ p. q (omega arith))) (sym (sum_nil (row_at before n))));
          small = λ n k.
              by_same n m
              (λ z. rw (z, own) (omega (arith, get_d-⊕ (row_at before m) insides k, nth-times e.times e.token.counts k, small k)))
              (λ q. rw (other n q) (omega arith));
        }

-- ---- all entries

-- no numbers in any row
abbrev no_rows : List (List ℕ)
no_rows = replicate 8 no_row

blank : (m : ℕ) → m < 8 → row_at no_rows m ≡ zeros 32
blank m h = get_or-replicate 8 m no_row [] h

pub rowed_none : Rowed no_rows
rowed_none = record { many = length-replicate 8 no_row; long = λ n h. rw (blank n h) (length-zeros 32) }

pub none-small : (n k : ℕ) → nth (row_at no_rows n) k ≤ 0
none-small n k =
    by_index 8 n
    (λ h. rw (blank n h) (omega (arith, nth_zero 32 k)))
    (λ h. rw (get_or-eq_default no_rows [] {n = n} (omega (arith, length-replicate 8 no_row))) (omega arith))

module _ (types : List ℕ) (es : List Entry) where
  -- the sums of the first i entries, and those of the others
  abbrev pub Partly : ℕ → List (List ℕ) → Type 0
  Partly i s = (m : ℕ) → m < 8 → inner_entries types m es ≡ row_at s m ⊕ inner_entries types m (drop i es)

  pub inner_start : Partly 0 no_rows
  inner_start m h =
      rw (blank m h) (sum-start (insides_in types m) (inner_entries types m) (inner_none types m) (inner_more types m) es)

  pub inner_turn : (i : ℕ) (s after : List (List ℕ)) (d : Entry) → i < length es → Partly i s → Added types (get_or es i d) s after → Partly (i + 1) after
  inner_turn i s after d h p a m k =
      p m k
      ∙ rw (a.rows m k) (sum_turn (insides_in types m) (inner_entries types m) (inner_none types m) (inner_more types m) es i (row_at s m) d h)

  pub inner_end : (i : ℕ) (s : List (List ℕ)) → i ≤ 256 → length es ≤ i → Rowed s → ((n k : ℕ) → nth (row_at s n) k ≤ i * (alike_limit * count_limit)) → Partly i s → Inner types es s
  inner_end i s few over rowed small p = record {
    rowed = rowed;
    rows = λ m h.
        sym (p m h
        ∙ sum_end (insides_in types m) (inner_entries types m) (inner_none types m) (inner_more types m) es i (row_at s m) over (rowed.long m h));
    small = λ n k. omega (arith, small n k);
  }
