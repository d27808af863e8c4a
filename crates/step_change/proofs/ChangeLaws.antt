-- Laws of a step's change: a line takes more than there is, those given have no room, or all lines are done. What was done is undone.
use Prim.Native.Nat.{ℕ, zero, suc, ◌+◌, ◌≤◌, ◌<◌}
use mathlib.Core.Path.{◌≡◌, refl, sym, ap, ◌∙◌}
use mathlib.Core.Bool.{Bool, true, false}
use mathlib.Core.List.{List, [], ◌∷◌, ◌++◌}
use mathlib.Core.Option.{none, some}
use native.Mathlib.Omega.{arith}
use native.Mathlib.Nat.{zero-add}
use borrow.Author.Tests.{le-leb, leb-true, leb-false}
use lib.Dec.{leb}
use lib.ListN.{length, get_or, take}
use lib.Seq.{take_all}
use Rattle.std.specs.Prelude.{Ok, Err}
use Rattle.text.proofs.Basics.{by_test}
use Rattle.eos.specs.Multiset.{count, less, Within, Same}
use Rattle.eos.specs.Counted.{total}
use Rattle.eos.specs.Causes.{first, at, unless}
use Rattle.eos.proofs.MultisetLaws.{count_append, count_less}
use Rattle.eos.proofs.RoomLaws.{fits_part, fits_same}
use Rattle.model.specs.Limits.{alike_limit}
use Rattle.marking.specs.Tokens.{like, before, no_entry, all_counted, spelt_out, tokens_in, held_by, Kept}
use Rattle.marking.specs.declared.NetToken.{NetToken}
use Rattle.marking.specs.declared.Entry.{Entry}
use Rattle.marking.specs.declared.Marking.{Marking}
use Rattle.marking.proofs.TokenOrder.{held_alike, held_order}
use Rattle.marking.proofs.KeptLaws.{kept_by, kept_once}
use Rattle.step.specs.Verdict.{lacking_lines, left_held, marking_causes}
use Rattle.step.specs.Changing.{changed_or, changing, covered, Took, Gave}
use Rattle.step.specs.declared.Refusal.TheVariants.{Missing, Crowded}
use Rattle.step_change.proofs.AfterLaws.{never, room_kept, len_part}
use Rattle.marking.proofs.Changes.{roomy, held_same}
use Rattle.step_change.proofs.LineLaws.{said, said_front, said_fewer, count_said, count_lines}

-- ---- the first line that takes more than there is

module _ (held : List NetToken) where
  -- whether line j takes no more than there is, where `seen` are before the first
  abbrev enough_at : List Entry → List Entry → ℕ → Bool
  enough_at seen es j =
      leb (total like (get_or es j no_entry).token (all_counted seen) + said (get_or es j no_entry).token (suc j) es) (count like (get_or es j no_entry).token held)

  -- one line more is before the first
  enough_next : (seen : List Entry) (e : Entry) (es : List Entry) (j : ℕ) → enough_at (e ∷ seen) es j ≡ enough_at seen (e ∷ es) (suc j)
  enough_next seen e es j =
      let x : NetToken = (get_or es j no_entry).token in
      let n : total like x (all_counted (e ∷ seen)) + said x (suc j) es ≡ total like x (all_counted seen) + said x (suc (suc j)) (e ∷ es) = omega arith in
      ap (λ (m : ℕ). leb m (count like x held)) n

  lacking_test : (seen : List Entry) (e : Entry) (es : List Entry)
      → leb (total like e.token (all_counted (e ∷ seen))) (count like e.token held) ≡ enough_at seen (e ∷ es) 0
  lacking_test seen e es =
      let n : total like e.token (all_counted (e ∷ seen)) ≡ total like e.token (all_counted seen) + said e.token 1 (e ∷ es) = omega arith in
      ap (λ (m : ℕ). leb m (count like e.token held)) n

  lacking_at : (i : ℕ) (seen es : List Entry) (n : ℕ) → n < length es → ((j : ℕ) → j < n → enough_at seen es j ≡ true) → enough_at seen es n ≡ false
      → lacking_lines held i seen es ≡ some (i + n)
  lacking_at i seen [] n h y f = absurd (omega arith)
  lacking_at i seen (e ∷ es) zero h y f =
      let t : leb (total like e.token (all_counted (e ∷ seen))) (count like e.token held) ≡ false = lacking_test seen e es ∙ f in
      let z : i ≡ i + 0 = omega arith in
      rw t (ap some z)
  lacking_at i seen (e ∷ es) (suc n) h y f =
      let t : leb (total like e.token (all_counted (e ∷ seen))) (count like e.token held) ≡ true = lacking_test seen e es ∙ y 0 (omega arith) in
      let z : suc i + n ≡ i + suc n = omega arith in
      rw t
      (lacking_at (suc i) (e ∷ seen) es n (omega arith) (λ j u. enough_next seen e es j ∙ y (suc j) (omega arith)) (enough_next seen e es n ∙ f) ∙ ap some z)

  lacking_none : (i : ℕ) (seen es : List Entry) → ((j : ℕ) → j < length es → enough_at seen es j ≡ true) → lacking_lines held i seen es ≡ none
  lacking_none i seen [] y = refl
  lacking_none i seen (e ∷ es) y =
      let t : leb (total like e.token (all_counted (e ∷ seen))) (count like e.token held) ≡ true = lacking_test seen e es ∙ y 0 (omega arith) in
      rw t (lacking_none (suc i) (e ∷ seen) es (λ j u. enough_next seen e es j ∙ y (suc j) (omega arith)))

  -- the lines before it take no more
  covered_yes : (lines : List Entry) (n i : ℕ) → ((x : NetToken) → said x n lines ≤ count like x held) → i < n → covered held lines i ≡ true
  unfolding covered
  covered_yes lines n i w h =
      let x : NetToken = (get_or lines i no_entry).token in
      le-leb (said x (suc i) lines) (count like x held) (omega (arith, w x, said_fewer x (suc i) n lines h))

  covered_is : (lines : List Entry) (j : ℕ) → enough_at [] lines j ≡ covered held lines j
  unfolding covered
  covered_is lines j =
      let x : NetToken = (get_or lines j no_entry).token in
      ap (λ (m : ℕ). leb m (count like x held)) (zero-add (said x (suc j) lines))

  lacking_first : (lines : List Entry) (n : ℕ) → ((x : NetToken) → said x n lines ≤ count like x held) → n < length lines → covered held lines n ≡ false
      → lacking_lines held 0 [] lines ≡ some n
  lacking_first lines n w h f =
      lacking_at 0 [] lines n h (λ j u. covered_is lines j ∙ covered_yes lines n j w u) (covered_is lines n ∙ f) ∙ ap some (zero-add n)

  lacking_all : (lines : List Entry) (n : ℕ) → ((x : NetToken) → said x n lines ≤ count like x held) → length lines ≤ n → lacking_lines held 0 [] lines ≡ none
  lacking_all lines n w h = lacking_none 0 [] lines (λ j u. covered_is lines j ∙ covered_yes lines n j w (omega arith))

-- ---- the lines given

-- where one line has no room, all have none
all_stop : (room : ℕ) (μ : List NetToken) (lines : List Entry) (done : ℕ) (k : Marking) → Gave room μ lines done k → done < length lines
    → roomy room (μ ++ spelt_out lines) ≡ false
all_stop room μ lines done k v h =
    let part : List NetToken = μ ++ spelt_out (take (suc done) lines) in
    let all : List NetToken = μ ++ spelt_out lines in
    let w : Within like part all = λ x. omega (
      arith,
      count_append like held_alike x μ (spelt_out (take (suc done) lines)),
      count_append like held_alike x μ (spelt_out lines),
      count_said x (suc done) lines,
      count_lines x lines,
      said_front x (suc done) lines,
    ) in
    by_test (roomy room all) (λ t. absurd (never (fits_part before like held_order held_alike room alike_limit part all w t) (v.stop h))) (λ t. t)

-- where no line is behind the first ones, they are all
said_all : (x : NetToken) (n : ℕ) (lines : List Entry) → length lines ≤ n → said x n lines ≡ total like x (all_counted lines)
said_all x n lines h = ap (λ (l : List Entry). total like x (all_counted l)) (take_all n lines h)

module _ (room : ℕ) (k : Marking) (kept : Kept k) (h : k.len ≤ room) where
  -- where the lines that were taken are given back, it is the marking it was
  undone : (back : List Entry) (μ : List NetToken) (d : ℕ) (j : Marking) → ((x : NetToken) → count like x μ + total like x (all_counted back) ≡ count like x (tokens_in k))
      → Gave room μ back d j → j ≡ k
  undone back μ d j s v = by_test (leb (length back) d) all part
    where
      all : leb (length back) d ≡ true → j ≡ k
      all t = kept_once j k v.kept kept (λ x. omega (arith, v.counts x, s x, said_all x d back (leb-true (length back) d t)))

      part : leb (length back) d ≡ false → j ≡ k
      part t =
          let same : Same like (μ ++ spelt_out back) (tokens_in k) = λ x. omega (arith, count_append like held_alike x μ (spelt_out back), count_lines x back, s x) in
          let r : roomy room (μ ++ spelt_out back) ≡ true =
          fits_same before like held_order held_alike room alike_limit (μ ++ spelt_out back) (tokens_in k) same ∙ room_kept k kept room h in
          absurd (never r (all_stop room μ back d j v (leb-false (length back) d t)))

-- ---- a step's change

module _ (room : ℕ) (k : Marking) (taken given : List Entry) where
  answer_missing : (i : ℕ) → lacking_lines (tokens_in k) 0 [] taken ≡ some i → changing room k taken given ≡ record { answer = Err (Missing (3 + i)); marking = k }
  unfolding changing changed_or marking_causes first at
  answer_missing i e = rw e

  module _ (e : lacking_lines (tokens_in k) 0 [] taken ≡ none) where
    answer_crowded : roomy room (left_held (tokens_in k) taken given) ≡ false
        → changing room k taken given ≡ record { answer = Err (Crowded (3 + length taken)); marking = k }
    unfolding changing changed_or marking_causes first at unless
    answer_crowded t = rw (e, t)

    answer_done : roomy room (left_held (tokens_in k) taken given) ≡ true
        → changing room k taken given ≡ record { answer = Ok tt; marking = held_by (left_held (tokens_in k) taken given) }
    unfolding changing changed_or marking_causes first at unless
    answer_done t = rw (e, t)

  module _ (kept : Kept k) (h : k.len ≤ room) (out : ℕ) (k₁ : Marking) (took : Took (tokens_in k) taken out k₁) where
    within : (x : NetToken) → said x out taken ≤ count like x (tokens_in k)
    within x = omega (arith, took.counts x)

    -- there is room for what is left
    pub len_took : k₁.len ≤ room
    len_took = omega (arith, h, len_part k kept k₁ took.kept (λ x. omega (arith, took.counts x)))

    pub change_missing : out < length taken → (d : ℕ) (j : Marking) → Gave room (tokens_in k₁) (take out taken) d j
        → record { answer = Err (Missing (out + 3)); marking = j } ≡ changing room k taken given
    change_missing l d j v =
        let is : j ≡ k = undone room k kept h (take out taken) (tokens_in k₁) d j took.counts v in
        let n : out + 3 ≡ 3 + out = omega arith in
        rw (n, is) (sym (answer_missing out (lacking_first (tokens_in k) taken out within l (took.stop l))))

    -- all lines were there
    module _ (l : length taken ≤ out) where
      none_lacks : lacking_lines (tokens_in k) 0 [] taken ≡ none
      none_lacks = lacking_all (tokens_in k) taken out within l

      all_taken : (x : NetToken) → count like x (tokens_in k₁) + total like x (all_counted taken) ≡ count like x (tokens_in k)
      all_taken x = omega (arith, took.counts x, said_all x out taken l)

      -- what is held after it
      after_same : Same like (left_held (tokens_in k) taken given) (tokens_in k₁ ++ spelt_out given)
      after_same x =
          let w : Within like (spelt_out taken) (tokens_in k) = λ y. omega (arith, all_taken y, count_lines y taken) in
          omega (
            arith,
            count_append like held_alike x (tokens_in k₁) (spelt_out given),
            count_append like held_alike x (less like (tokens_in k) (spelt_out taken)) (spelt_out given),
            count_less like held_alike x (spelt_out taken) (tokens_in k) w,
            count_lines x taken,
            all_taken x,
          )

      module _ (put : ℕ) (k₂ : Marking) (gave : Gave room (tokens_in k₁) given put k₂) where
        pub change_crowded : put < length given → (b : ℕ) (k₃ : Marking) → Took (tokens_in k₂) (take put given) b k₃ → (d : ℕ) (j : Marking)
            → Gave room (tokens_in k₃) taken d j → record { answer = Err (Crowded (length taken + 3)); marking = j } ≡ changing room k taken given
        change_crowded p b k₃ v d j w =
            let back : List Entry = take put given in
            let whole : length back ≤ b =
            by_test (leb (length back) b) (λ t. leb-true (length back) b t) (λ t.
            let u : b < length back = leb-false (length back) b t in
            absurd (never (covered_yes (tokens_in k₂) back (length back) b (λ x. omega (arith, gave.counts x, said_all x (length back) back (omega arith))) u) (v.stop u))) in
            let same : (x : NetToken) → count like x (tokens_in k₃) + total like x (all_counted taken) ≡ count like x (tokens_in k) =
            λ x. omega (arith, v.counts x, gave.counts x, said_all x b back whole, all_taken x) in
            let is : j ≡ k = undone room k kept h taken (tokens_in k₃) d j same w in
            let r : roomy room (left_held (tokens_in k) taken given) ≡ false =
            fits_same before like held_order held_alike room alike_limit (left_held (tokens_in k) taken given) (tokens_in k₁ ++ spelt_out given) after_same
            ∙ all_stop room (tokens_in k₁) given put k₂ gave p in
            let n : length taken + 3 ≡ 3 + length taken = omega arith in
            let e : record { answer = Err (Crowded (length taken + 3)); marking = j } ≡ changing room k taken given =
            rw (n, is) (sym (answer_crowded none_lacks r)) in
            e

        pub change_done : length given ≤ put → record { answer = Ok tt; marking = k₂ } ≡ changing room k taken given
        change_done p =
            let after : List NetToken = left_held (tokens_in k) taken given in
            let same : Same like (tokens_in k₂) after = λ x. omega (
              arith,
              gave.counts x,
              after_same x,
              count_append like held_alike x (tokens_in k₁) (spelt_out given),
              count_lines x given,
              said_all x put given p,
            ) in
            let r : roomy room after ≡ true =
            sym (fits_same before like held_order held_alike room alike_limit (tokens_in k₂) after same) ∙ room_kept k₂ gave.kept room gave.within in
            ap (λ (m : Marking). record { answer = Ok tt; marking = m }) (kept_by k₂ gave.kept ∙ held_same (tokens_in k₂) after same)
            ∙ sym (answer_done none_lacks r)
