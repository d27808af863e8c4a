-- What an accepted line says of its numbers, and of several things how many they are and what holds of each.
use Prim.Native.Nat.{ℕ, zero, suc, ◌≤◌}
use mathlib.Core.Path.{◌≡◌, ap}
use mathlib.Core.List.{List}
use mathlib.Core.Bool.{Bool, true}
use lib.Dec.{leb, eqb}
use borrow.Author.Tests.{eqb-true, leb-true}
use lib.ListN.{length}
use Rattle.text.specs.Bytes.{Text}
use Rattle.text.proofs.Basics.{and_true}
use Rattle.text.specs.Lines.{Outcome, got, in_range, every, many, read_number, read_list}
use Rattle.text.proofs.Exactly.{then-got, got-is}
use Rattle.text.proofs.LinesExactly.{number_exactly, list_exactly}

-- ---- a line of one number

-- an accepted number is in its range
pub number_in : (key : Text) (lo hi : ℕ) (s : Text) (at v next : ℕ) → read_number key (in_range lo hi) s at ≡ got v next → (lo ≤ v) × (v ≤ hi)
number_in key lo hi s at v next e =
    let p = and_true (leb lo v) (leb v hi) ((number_exactly key (in_range lo hi) s).back at v next e).fine-is in
    (leb-true lo v p.0, leb-true v hi p.1)

-- ---- a line of several numbers

module _ (key : Text) (n hi : ℕ) (s : Text) (at : ℕ) where
  -- its length and its range
  pub list_in : (vs : List ℕ) (next : ℕ) → read_list key n (λ v. leb v hi) s at ≡ got vs next → (length vs ≡ n) × (every (λ v. leb v hi) vs ≡ true)
  list_in vs next e =
      let p = and_true (eqb (length vs) n) (every (λ v. leb v hi) vs) ((list_exactly key n (λ v. leb v hi) s).back at vs next e).fine-is in
      (eqb-true (length vs) n p.0, p.1)

-- ---- several things

-- n things are n
pub many-long : {A : Type 0} (f : ℕ → Outcome A) (n at : ℕ) (l : List A) (next : ℕ) → many f n at ≡ got l next → length l ≡ n
unfolding many
many-long f zero at l next e = let k = got-is e in rw (← k.0)
many-long f (suc n) at l next e =
    let p = then-got (f at) _ l next e in
    let q = then-got (many f n p.next) _ l next p.rest in
    let k = got-is q.rest in
    rw (← k.0) (ap suc (many-long f n p.next q.value q.next q.first))

-- what holds of each thing that is read holds of all
pub many-every : {A : Type 0} (fine : A → Bool) (f : ℕ → Outcome A) → ((at : ℕ) (a : A) (next : ℕ) → f at ≡ got a next → fine a ≡ true)
    → (n at : ℕ) (l : List A) (next : ℕ) → many f n at ≡ got l next → every fine l ≡ true
unfolding many
many-every fine f one zero at l next e = let k = got-is e in rw (← k.0)
many-every fine f one (suc n) at l next e =
    let p = then-got (f at) _ l next e in
    let q = then-got (many f n p.next) _ l next p.rest in
    let k = got-is q.rest in
    rw (← k.0, one at p.value p.next p.first) (many-every fine f one n p.next q.value q.next q.first)
