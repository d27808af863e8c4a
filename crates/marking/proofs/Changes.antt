-- What a change of a marking answers, and what it leaves: net-tokens that there is room for, held in the one way that they are held.
use Prim.Native.Nat.{ℕ}
use mathlib.Core.Path.{◌≡◌, ap, sym, ◌∙◌}
use mathlib.Core.List.{List}
use mathlib.Core.Bool.{Bool, true, false, false≢true}
use Rattle.text.proofs.Basics.{by_test}
use Rattle.eos.specs.Multiset as M
use Rattle.eos.specs.Counted.{fits}
use Rattle.eos.proofs.CountedLaws.{tally_same}
use Rattle.eos.proofs.RoomLaws.{fits_same}
use Rattle.model.specs.Limits.{alike_limit}
use Rattle.marking.specs.Tokens.{like, before, held_by, Change, held_or}
use Rattle.marking.specs.declared.NetToken.{NetToken}
use Rattle.marking.specs.declared.Marking.{Marking}
use Rattle.marking.proofs.TokenOrder.{held_alike, held_order}

-- room for net-tokens
abbrev pub roomy : ℕ → List NetToken → Bool
roomy room ts = fits before like room alike_limit ts

-- the same net-tokens are held alike
pub held_same : (ts us : List NetToken) → M.Same like ts us → held_by ts ≡ held_by us
unfolding held_by
held_same ts us h = rw (tally_same before like held_order held_alike ts us h)

module _ (room : ℕ) (k : Marking) (ts : List NetToken) where
  held_yes : roomy room ts ≡ true → held_or room k ts ≡ record { done = true; marking = held_by ts }
  unfolding held_or
  held_yes t = rw (t, held_or)

  held_no : roomy room ts ≡ false → held_or room k ts ≡ record { done = false; marking = k }
  unfolding held_or
  held_no t = rw (t, held_or)

  pub held_done : {j : Marking} → record { done = true; marking = j } ≡ held_or room k ts → (roomy room ts ≡ true) × (j ≡ held_by ts)
  held_done e =
      by_test (roomy room ts)
      (λ t. (t, ap (λ (c : Change). c.marking) (e ∙ held_yes t)))
      (λ t. absurd (false≢true (sym (ap (λ (c : Change). c.done) (e ∙ held_no t)))))

  pub held_left : {j : Marking} → record { done = false; marking = j } ≡ held_or room k ts → (roomy room ts ≡ false) × (j ≡ k)
  held_left e =
      by_test (roomy room ts)
      (λ t. absurd (false≢true (ap (λ (c : Change). c.done) (e ∙ held_yes t))))
      (λ t. (t, ap (λ (c : Change). c.marking) (e ∙ held_no t)))

-- and changed alike
pub held_or_same : (room : ℕ) (k : Marking) (ts us : List NetToken) → M.Same like ts us → held_or room k ts ≡ held_or room k us
held_or_same room k ts us h =
    let w = fits_same before like held_order held_alike room alike_limit ts us h in
    by_test (roomy room us)
    (λ e. held_yes room k ts (w ∙ e) ∙ ap (λ (j : Marking). record { done = true; marking = j }) (held_same ts us h) ∙ sym (held_yes room k us e))
    (λ e. held_no room k ts (w ∙ e) ∙ sym (held_no room k us e))
