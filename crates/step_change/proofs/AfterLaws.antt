-- What a change's answer tells of the marking after it: it is kept, and so much of each net-token is there.
use Prim.Native.Nat.{ℕ, suc, ◌+◌, ◌*◌, ◌≤◌, ◌<◌}
use mathlib.Core.Path.{◌≡◌, refl, ap, ◌∙◌}
use mathlib.Core.Bool.{Bool, true, false}
use mathlib.Core.List.{List, [], ◌∷◌, ◌++◌}
use native.Mathlib.Omega.{arith}
use borrow.Author.Tests.{le-leb, leb-true, leb-false}
use lib.Dec.{leb}
use lib.ListN.{length}
use Rattle.text.proofs.Basics.{by_test}
use Rattle.eos.specs.Multiset.{bit, count, less, Within}
use Rattle.eos.specs.Counted.{up_to, tally, fits}
use Rattle.eos.proofs.Basics.{true_is, is_true, false_is}
use Rattle.eos.proofs.MultisetLaws.{count_append, count_less, less_part}
use Rattle.eos.proofs.CountedLaws.{count_copies, tally_spelt}
use Rattle.eos.proofs.RoomLaws.{fits_part, length_part}
use Rattle.model.specs.Limits.{room_limit, alike_limit}
use Rattle.marking.specs.Tokens.{like, before, all_counted, copies, entries_in, tokens_in, held_by, Kept, Change, put_in, take_out}
use Rattle.marking.specs.declared.NetToken.{NetToken}
use Rattle.marking.specs.declared.Entry.{Entry}
use Rattle.marking.specs.declared.Marking.{Marking}
use Rattle.marking.proofs.TokenOrder.{held_alike, held_order}
use Rattle.marking.proofs.KeptLaws.{length_held, kept_tally, tokens_tally}
use Rattle.marking.proofs.Changes.{roomy, held_done}

-- a test answers one thing
pub never : {b : Bool} → b ≡ true → b ≡ false → ⊥
never t f = false_is f (true_is t)

-- ---- kept markings

length_counted : (es : List Entry) → length (all_counted es) ≡ length es
length_counted [] = refl
length_counted (e ∷ es) = ap suc (length_counted es)

module _ (k : Marking) (kept : Kept k) where
  tally_kept : tally before like (tokens_in k) ≡ all_counted (entries_in k)
  tally_kept = tally_spelt before like held_order held_alike (all_counted (entries_in k)) kept.strict

  len_kept : length (tally before like (tokens_in k)) ≡ k.len
  len_kept = ap length tally_kept ∙ length_counted (entries_in k) ∙ length_held k kept

  -- there is room for what is kept
  pub room_kept : (room : ℕ) → k.len ≤ room → roomy room (tokens_in k) ≡ true
  unfolding fits
  room_kept room h =
      let cs = tally before like (tokens_in k) in
      let n : leb (length cs) room ≡ true = le-leb (length cs) room (omega (arith, len_kept)) in
      rw n (ap (up_to alike_limit) tally_kept ∙ is_true _ kept.small)

  -- a part of it has no more entries
  pub len_part : (j : Marking) → Kept j → Within like (tokens_in j) (tokens_in k) → j.len ≤ k.len
  len_part j p w =
      let own : length (tally before like (tokens_in j)) ≡ j.len =
      ap length (tally_spelt before like held_order held_alike (all_counted (entries_in j)) p.strict) ∙ length_counted (entries_in j) ∙ length_held j p in
      omega (arith, own, len_kept, length_part before like held_order held_alike (tokens_in j) (tokens_in k) w)

-- ---- what is answered

-- an entry's net-tokens came to k, which is j now
pub record Grown (room : ℕ) (e : Entry) (k j : Marking) : Type 0 where
  pub within : j.len ≤ room
  pub kept : Kept j
  pub counts : (x : NetToken) → count like x (tokens_in j) ≡ count like x (tokens_in k) + bit (like x e.token) * e.times

-- and left it
pub record Shrunk (e : Entry) (k j : Marking) : Type 0 where
  pub kept : Kept j
  pub counts : (x : NetToken) → count like x (tokens_in j) + bit (like x e.token) * e.times ≡ count like x (tokens_in k)

module _ (e : Entry) (k : Marking) (kept : Kept k) where
  pub put_done : {j : Marking} (room : ℕ) → room ≤ room_limit → record { done = true; marking = j } ≡ put_in room e k → Grown room e k j
  put_done room h d =
      let ts = copies e ++ tokens_in k in
      let p = held_done room k ts d in
      rw (p.1) (record {
        within = (kept_tally room ts h p.0).0;
        kept = (kept_tally room ts h p.0).1;
        counts = λ x. omega (arith, tokens_tally ts x, count_append like held_alike x (copies e) (tokens_in k), count_copies like x e.token e.times);
      })

  -- as many of it are there as are taken
  abbrev there : Bool
  there = leb e.times (count like e.token (tokens_in k))

  enough : there ≡ true → Within like (copies e) (tokens_in k)
  enough h x =
      let n : e.times ≤ count like e.token (tokens_in k) = leb-true e.times (count like e.token (tokens_in k)) h in
      by_test (like x e.token)
      (λ t.
      let q : count like x (tokens_in k) ≡ count like e.token (tokens_in k) = ap (λ (y : NetToken). count like y (tokens_in k)) (held_alike.same x e.token (true_is t)) in
      let b : bit (like x e.token) * e.times ≡ 1 * e.times = ap (λ (c : Bool). bit c * e.times) t in
      omega (arith, count_copies like x e.token e.times))
      (λ t. let b : bit (like x e.token) * e.times ≡ 0 * e.times = ap (λ (c : Bool). bit c * e.times) t in omega (arith, count_copies like x e.token e.times))

  out_yes : there ≡ true → take_out e k ≡ record { done = true; marking = held_by (less like (tokens_in k) (copies e)) }
  unfolding take_out
  out_yes t = rw (t, take_out)

  out_no : there ≡ false → take_out e k ≡ record { done = false; marking = k }
  unfolding take_out
  out_no t = rw (t, take_out)

  gone : there ≡ true → Shrunk e k (held_by (less like (tokens_in k) (copies e)))
  gone t =
      let ts = less like (tokens_in k) (copies e) in
      let w = enough t in
      let r : roomy room_limit ts ≡ true =
      fits_part before like held_order held_alike room_limit alike_limit ts (tokens_in k) (less_part like held_alike (copies e) (tokens_in k) w) (room_kept k kept room_limit kept.few) in
      record {
        kept = (kept_tally room_limit ts (omega arith) r).1;
        counts = λ x. omega (arith, tokens_tally ts x, count_less like held_alike x (copies e) (tokens_in k) w, count_copies like x e.token e.times);
      }

  pub out_done : {j : Marking} → record { done = true; marking = j } ≡ take_out e k → Shrunk e k j
  out_done {j} d =
      by_test there
      (λ t. let is : j ≡ held_by (less like (tokens_in k) (copies e)) = ap (λ (c : Change). c.marking) (d ∙ out_yes t) in rw is (gone t))
      (λ t. absurd (never {b = true} refl (ap (λ (c : Change). c.done) (d ∙ out_no t))))

  pub out_left : {j : Marking} → record { done = false; marking = j } ≡ take_out e k → (count like e.token (tokens_in k) < e.times) × (j ≡ k)
  out_left d =
      by_test there
      (λ t. absurd (never {b = false} (ap (λ (c : Change). c.done) (d ∙ out_yes t)) refl))
      (λ t. (leb-false e.times (count like e.token (tokens_in k)) t, ap (λ (c : Change). c.marking) (d ∙ out_no t)))
