-- Laws for every loop over lines: one turn, a refusal, the end; and for answers taken apart by how they ended.
use Prim.Native.Nat.{ℕ, suc, ◌+◌, ◌-◌, ◌≤◌, ◌<◌}
use mathlib.Core.Path.{◌≡◌, refl}
use mathlib.Core.List.{List, [], ◌∷◌, ◌++◌}
use mathlib.Core.Bool.{Bool, true, false}
use native.Mathlib.Omega.{arith}
use native.Mathlib.Numerals.{add-one}
use Rattle.text.specs.Lines.{Outcome, got, bad, fault, then, need, many, many_within}
use Rattle.text.specs.Repeat.{many_at, fill, filled}
use Rattle.text.specs.declared.Fault.{Fault}
use Rattle.text.specs.declared.Cause.{Cause}

-- what is put behind the thing just read
put_next_lem : {A B : Type 0} (put : ℕ → A → B → B) (i : ℕ) (t : B) (o : Outcome (List A)) (a : A)
    → filled put i t (then o (λ l end. got (a ∷ l) end)) ≡ filled put (suc i) (put i a t) o
unfolding filled fill then
put_next_lem put i t (got l end) a = refl
put_next_lem put i t (bad e) a = refl

-- a loop that reads n things and puts each at its index; it stands at i
module _ {A B : Type 0} (put : ℕ → A → B → B) (f : ℕ → Outcome A) (i n at : ℕ) (t : B) where
  pub loop_turn : i < n → (a : A) (next : ℕ) → f at ≡ got a next
      → filled put i t (many f (n - i) at) ≡ filled put (i + 1) (put i a t) (many f (n - (i + 1)) next)
  unfolding many then
  loop_turn h a next e =
      let left : n - i ≡ suc (n - suc i) = omega arith in
      rw (add-one i, left, e, many) (put_next_lem put i t (many f (n - suc i) next) a)

  pub loop_bad : i < n → (d : Fault) → f at ≡ bad d → filled put i t (many f (n - i) at) ≡ bad d
  unfolding many then filled
  loop_bad h d e = let left : n - i ≡ suc (n - suc i) = omega arith in rw (left, e)

  pub loop_done : n ≤ i → filled put i t (many f (n - i) at) ≡ got t at
  unfolding many filled fill
  loop_done h = let z : n - i ≡ 0 = omega arith in rw z

-- the same where each is put to a test with those before it, which were read already
module _ {A B : Type 0} (put : ℕ → A → B → B) (fits : List A → Bool) (cause : Cause) (f : ℕ → Outcome A) (seen : List A) (i n at : ℕ) (t : B) where
  pub within_turn : i < n → (a : A) (next : ℕ) → f at ≡ got a next → fits (seen ++ (a ∷ [])) ≡ true
      → filled put i t (many_within fits cause f seen (n - i) at)
      ≡ filled put (i + 1) (put i a t) (many_within fits cause f (seen ++ (a ∷ [])) (n - (i + 1)) next)
  unfolding many_within then need
  within_turn h a next e w =
      let left : n - i ≡ suc (n - suc i) = omega arith in
      rw (add-one i, left, e, w, many_within) (put_next_lem put i t (many_within fits cause f (seen ++ (a ∷ [])) (n - suc i) next) a)

  pub within_bad : i < n → (d : Fault) → f at ≡ bad d → filled put i t (many_within fits cause f seen (n - i) at) ≡ bad d
  unfolding many_within then filled
  within_bad h d e = let left : n - i ≡ suc (n - suc i) = omega arith in rw (left, e)

  pub within_out : i < n → (a : A) (next : ℕ) → f at ≡ got a next → fits (seen ++ (a ∷ [])) ≡ false
      → filled put i t (many_within fits cause f seen (n - i) at) ≡ bad (fault cause at)
  unfolding many_within then need filled
  within_out h a next e w = let left : n - i ≡ suc (n - suc i) = omega arith in rw (left, e, w)

  pub within_done : n ≤ i → filled put i t (many_within fits cause f seen (n - i) at) ≡ got t at
  unfolding many_within filled fill
  within_done h = let z : n - i ≡ 0 = omega arith in rw z

-- the same where the reading depends on the index
module _ {A B : Type 0} (put : ℕ → A → B → B) (f : ℕ → ℕ → Outcome A) (i n at : ℕ) (t : B) where
  pub turn_at_lem : i < n → (a : A) (next : ℕ) → f i at ≡ got a next
      → filled put i t (many_at f i (n - i) at) ≡ filled put (i + 1) (put i a t) (many_at f (i + 1) (n - (i + 1)) next)
  unfolding many_at then
  turn_at_lem h a next e =
      let left : n - i ≡ suc (n - suc i) = omega arith in
      rw (add-one i, left, e, many_at) (put_next_lem put i t (many_at f (suc i) (n - suc i) next) a)

  pub bad-at : i < n → (d : Fault) → f i at ≡ bad d → filled put i t (many_at f i (n - i) at) ≡ bad d
  unfolding many_at then filled
  bad-at h d e = let left : n - i ≡ suc (n - suc i) = omega arith in rw (left, e)

  pub done_at : n ≤ i → filled put i t (many_at f i (n - i) at) ≡ got t at
  unfolding many_at filled fill
  done_at h = let z : n - i ≡ 0 = omega arith in rw z
