-- Laws of the values of a list of any length, read on from a number, by the byte `last` that ends the list.
use Prim.Native.Nat.{ℕ, zero, suc, ◌+◌, ◌-◌, ◌≤◌, ◌<◌, max}
use mathlib.Core.Path.{◌≡◌, refl, ap, sym, ◌∙◌}
use mathlib.Core.Bool.{true, false, true≢false}
use mathlib.Core.List.{List, [], ◌∷◌}
use native.Mathlib.Omega.{arith}
use lib.Dec.{eqb}
use borrow.Author.Tests.{eqb-true, eqb-false}
use lib.ListN.{length, get_or}
use Rattle.std.specs.declared.result.Result.TheVariants.{Ok, Err}
use Rattle.text.specs.Bytes.{Text, comma}
use Rattle.text.proofs.Basics.{by_test}
use Rattle.text.specs.Number.{Read, missing, found, made, both, either, is_digit, number, ended, item}
use Rattle.text.specs.Printed.{decimal}
use Rattle.text.specs.Capped.{passed}
use Rattle.text.specs.Lists.{joined, values, list_end, any_items, any_list}
use Rattle.text.proofs.ReadLaws.{by_read}
use Rattle.text.proofs.Parts.{made_missing}
use Rattle.text.proofs.Spelled.{number_spelled}
use Rattle.text.proofs.Halts.{number_halts, number_missing}
use Rattle.text.proofs.LineParts.{Closes}
use Rattle.text.proofs.AnyParts.{any_least}
use Rattle.text.proofs.NumberLaws.{number_end, number_other, number_forward, number-within, ended_here, ended_other}
use Rattle.text_tokens.specs.Ends.{closed}
use Rattle.text_tokens.proofs.EndLaws.{either_later, passed_made}

-- a number read in a turn lies in the text
pub turn_inside : (s : Text) (at v u : ℕ) → number s at ≡ found v u → at < length s
turn_inside s at v u e = omega (arith, number_forward s at v u e, number-within s at v u e)

module _ (last : ℕ) (closes : Closes last) where
  abbrev one_value : Text → ℕ → Read (List ℕ)
  one_value s at = list_end number last 1 s at

  abbrev several : ℕ → Text → ℕ → Read (List ℕ)
  several k s at = both (λ a l. a ∷ l) (item number comma s at) λ a next. any_items number last k s next

  -- ---- by the number at `at`
  module _ (s : Text) (at : ℕ) where
    module _ (b : ℕ) (e : number s at ≡ missing b) where
      one_none : one_value s at ≡ missing b
      unfolding list_end values joined both ended
      one_none = rw e

      more_none : (k : ℕ) → several k s at ≡ missing b
      unfolding both item ended
      more_none k = rw e

      any_none : (k : ℕ) → any_items number last k s at ≡ missing b
      unfolding any_items either
      any_none zero = one_none
      any_none (suc k) = let same : max b b ≡ b = omega arith in rw (one_none, more_none k, same)

    module _ (v u : ℕ) (e : number s at ≡ found v u) where
      one_ended : one_value s at ≡ ended last s (found (v ∷ []) u)
      unfolding list_end values joined both made
      one_ended = rw e

      more_here : (k : ℕ) → get_or s u 0 ≡ comma → several k s at ≡ made (λ l. v ∷ l) (any_items number last k s (u + 1))
      unfolding both item
      more_here k h = rw (e, ended_here comma s v u h)

      more_other : (k : ℕ) → (get_or s u 0 ≡ comma → ⊥) → several k s at ≡ missing u
      unfolding both item
      more_other k h = rw (e, ended_other comma s v u h)

  any_by : (k m : ℕ) (s : Text) (at : ℕ) → several k s at ≡ several m s at → any_items number last (suc k) s at ≡ any_items number last (suc m) s at
  unfolding any_items
  any_by k m s at e = ap (either (one_value s at)) e

  -- as many numbers as there are bytes left are enough
  any_enough : (k m : ℕ) (s : Text) (at : ℕ) → length s ≤ at + k → length s ≤ at + m → any_items number last k s at ≡ any_items number last m s at
  any_enough zero m s at h l = let none = number_end s at (omega arith) in any_none s at at none zero ∙ sym (any_none s at at none m)
  any_enough (suc k) zero s at h l = let none = number_end s at (omega arith) in any_none s at at none (suc k) ∙ sym (any_none s at at none zero)
  any_enough (suc k) (suc m) s at h l =
      by_read (number s at)
      (λ b e. any_none s at b e (suc k) ∙ sym (any_none s at b e (suc m)))
      (λ v u e.
      let f = number_forward s at v u e in
      any_by k m s at (by_test (eqb (get_or s u 0) comma)
      (λ c.
      let p = eqb-true _ _ c in
      more_here s at v u e k p ∙ ap (made (λ l. v ∷ l)) (any_enough k m s (u + 1) (omega arith) (omega arith)) ∙ sym (more_here s at v u e m p))
      (λ c. let p = eqb-false _ _ c in more_other s at v u e k p ∙ sym (more_other s at v u e m p))))

  least : (k : ℕ) (s : Text) (at b : ℕ) → any_items number last k s at ≡ missing b → at ≤ b
  least = any_least number decimal number_spelled number_halts last closes

  -- ---- where a list begins

  module _ (s : Text) (from : ℕ) where
    no_value : list_end number last 0 s from ≡ ended last s (found [] from)
    unfolding list_end values
    no_value = refl

    pub any_empty : is_digit (get_or s from 0) ≡ false → passed (any_list number last s from) ≡ closed last s (Ok from)
    unfolding any_list either closed
    any_empty d =
        let none = any_none s from from (number_other s from d) (length s) in
        let same : max from from ≡ from = omega arith in
        by_test (eqb (get_or s from 0) last)
        (λ h. let e = eqb-true _ _ h in rw (no_value ∙ ended_here last s [] from e, ended_here {A = Unit {0}} last s tt from e))
        (λ h. let n = eqb-false _ _ h in rw (no_value ∙ ended_other last s [] from n, ended_other {A = Unit {0}} last s tt from n, none, same))

    pub any_start : is_digit (get_or s from 0) ≡ true → passed (any_list number last s from) ≡ passed (any_items number last (length s - from) s from)
    unfolding any_list
    any_start d =
        let n : get_or s from 0 ≡ last → ⊥ = λ e. true≢false (sym d ∙ ap is_digit e ∙ closes.other) in
        rw (no_value ∙ ended_other last s [] from n)
        (ap passed (either_later from (any_items number last (length s) s from) (λ c w. least (length s) s from c w)
        ∙ any_enough (length s) (length s - from) s from (omega arith) (omega arith)))

  -- ---- the turn at `at`

  module _ (s : Text) (at : ℕ) where
    pub any_missing : (b : ℕ) → number s at ≡ missing b → passed (any_items number last (length s - at) s at) ≡ closed last s (Err at)
    unfolding closed
    any_missing b e = rw (any_none s at b e (length s - at)) (ap Err (number_missing s at b e).0)

    module _ (v u : ℕ) (e : number s at ≡ found v u) where
      any_turn : any_items number last (length s - at) s at ≡ either (one_value s at) (several (length s - at - 1) s at)
      unfolding any_items
      any_turn = let left : length s - at ≡ suc (length s - at - 1) = omega (arith, turn_inside s at v u e) in ap (λ (m : ℕ). any_items number last m s at) left

      pub any_last : (get_or s u 0 ≡ comma → ⊥) → passed (any_items number last (length s - at) s at) ≡ closed last s (Ok u)
      unfolding either closed
      any_last q =
          let other = more_other s at v u e (length s - at - 1) q in
          let same : max u u ≡ u = omega arith in
          by_test (eqb (get_or s u 0) last)
          (λ h. let p = eqb-true _ _ h in rw (any_turn, one_ended s at v u e ∙ ended_here last s (v ∷ []) u p, ended_here {A = Unit {0}} last s tt u p))
          (λ h.
          let n = eqb-false _ _ h in
          rw (any_turn, one_ended s at v u e ∙ ended_other last s (v ∷ []) u n, other, ended_other {A = Unit {0}} last s tt u n, same))

      pub any_more : get_or s u 0 ≡ comma → passed (any_items number last (length s - at) s at) ≡ passed (any_items number last (length s - (u + 1)) s (u + 1))
      any_more q =
          let m = length s - at - 1 in
          let f = number_forward s at v u e in
          let rest = any_items number last m s (u + 1) in
          let n : get_or s u 0 ≡ last → ⊥ = λ p. closes.no-comma (sym p ∙ q) in
          rw (any_turn, one_ended s at v u e ∙ ended_other last s (v ∷ []) u n, more_here s at v u e m q)
          (ap passed (either_later u (made (λ l. v ∷ l) rest) (λ c w. omega (arith, least m s (u + 1) c (made_missing (λ l. v ∷ l) rest c w))))
          ∙ passed_made (λ l. v ∷ l) rest
          ∙ ap passed (any_enough m (length s - (u + 1)) s (u + 1) (omega arith) (omega arith)))
