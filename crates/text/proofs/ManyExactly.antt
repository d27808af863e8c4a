-- Several things in a row, each read by its index, are accepted exactly where they are printed.
use Prim.Native.Nat.{ℕ, zero, suc, ◌+◌}
use mathlib.Core.Path.{◌≡◌, refl, ap}
use mathlib.Core.List.{List, [], ◌∷◌}
use mathlib.Core.Bool.{Bool, true, ◌&&◌}
use native.Mathlib.Omega.{arith}
use native.Mathlib.Nat.{add-zero}
use lib.Dec.{eqb}
use borrow.Author.Tests.{eqb-true, eq-eqb}
use lib.ListN.{length}
use Rattle.text.specs.Bytes.{Text}
use Rattle.text.proofs.Basics.{and_true}
use Rattle.text.specs.Lines.{Outcome, got, then}
use Rattle.text.specs.Repeat.{many_at, every_at}
use Rattle.text.specs.Printed.{texts}
use Rattle.text.proofs.Standing.{Stands, stands_left, stands_right, ends_join, nothing_reaches, reach_join}
use Rattle.text.proofs.Exactly.{Accepts, accepts_as, Exactly, got-is, then-got}

module _ {A : Type 0} (s : Text) (f : ℕ → ℕ → Outcome A) (text : A → Text) (fine : ℕ → A → Bool) (one : (i : ℕ) → Exactly s (f i) text (fine i)) where
  back_at : (n i at : ℕ) (l : List A) (next : ℕ) → many_at f i n at ≡ got l next
      → Accepts s at (texts text l) next (eqb (length l) n && every_at fine i l)
  unfolding many_at texts
  back_at zero i at l next e =
      let k = got-is e in
      accepts_as s at (texts text) (λ l. eqb (length l) 0 && every_at fine i l) [] l at next k (record { reaches = nothing_reaches s at; fine-is = refl })
  back_at (suc n) i at l next e =
      let p = then-got (f i at) _ l next e in
      let q = then-got (many_at f (suc i) n p.next) _ l next p.rest in
      let a = (one i).back at p.value p.next p.first in
      let b = back_at n (suc i) p.next q.value q.next q.first in
      let t = and_true (eqb (length q.value) n) (every_at fine (suc i) q.value) b.fine-is in
      accepts_as s at (texts text) (λ l. eqb (length l) (suc n) && every_at fine i l) (p.value ∷ q.value) l q.next next (got-is q.rest) (record {
        reaches = reach_join s at (text p.value) (texts text q.value) p.next q.next a.reaches b.reaches;
        fine-is = rw (eq-eqb (suc (length q.value)) (suc n) (ap suc (eqb-true (length q.value) n t.0)), a.fine-is, t.1);
      })

  forth_at : (n i at : ℕ) (l : List A) → Stands s at (texts text l) → (eqb (length l) n && every_at fine i l) ≡ true
      → many_at f i n at ≡ got l (at + length (texts text l))
  unfolding many_at texts then
  forth_at zero i at [] st h = rw (add-zero at)
  forth_at zero i at (a ∷ l) st h =
      absurd (omega (arith, eqb-true (suc (length l)) 0 (and_true (eqb (suc (length l)) 0) (every_at fine i (a ∷ l)) h).0))
  forth_at (suc n) i at [] st h = absurd (omega (arith, eqb-true 0 (suc n) (and_true (eqb 0 (suc n)) true h).0))
  forth_at (suc n) i at (a ∷ l) st h =
      let t = and_true (eqb (suc (length l)) (suc n)) (every_at fine i (a ∷ l)) h in
      let u = and_true (fine i a) (every_at fine (suc i) l) t.1 in
      let ln : length l ≡ n = omega (arith, eqb-true (suc (length l)) (suc n) t.0) in
      let g : (eqb (length l) n && every_at fine (suc i) l) ≡ true = rw (eq-eqb (length l) n ln, u.1) in
      rw (
        (one i).forth at a (stands_left s at (text a) (texts text l) st) u.0,
        forth_at n (suc i) (at + length (text a)) l (stands_right s at (text a) (texts text l) st) g,
        ends_join,
      )

  -- n things in a row, the first of index i
  pub many_at_exactly : (i n : ℕ) → Exactly s (many_at f i n) (texts text) (λ l. eqb (length l) n && every_at fine i l)
  many_at_exactly i n = record { back = back_at n i; forth = forth_at n i }
