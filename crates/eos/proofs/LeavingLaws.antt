-- Net-tokens leave the system only where the event's own pre empties what is taken.
use mathlib.Core.Path.{◌≡◌, refl, sym, ap, ◌∙◌}
use mathlib.Core.Bool.{Bool, true, false, cond}
use mathlib.Core.List.{[], ◌∷◌}
use Prim.Native.Nat.{ℕ, suc, ◌+◌, ◌-◌, ◌≤◌, ◌<◌}
use native.Mathlib.Omega.{arith}
use lib.Dec.{T, eqb, eqb→eq}
use lib.ListN.{length, get_or}
use Rattle.eos.specs.Vector.{◌⊕◌, ◌⊖◌, unit}
use Rattle.eos.specs.Multiset as M
use Rattle.eos.specs.Model.{NetToken, Marking, like, Act, move, idle, alone, Event, Model, event, places, net, type_of}
use Rattle.eos.specs.Firing.{outer, inner, pre, post, of_act, outer_of, inner_of, sees, asks, leaves, Enabled, Step, fires}
use Rattle.eos.specs.Leaving.{HasPlace, HasToken, Loses, LeaveEmpty}
use Rattle.eos.proofs.Basics.{true_is, false_is, eqb_of}
use Rattle.eos.proofs.MultisetLaws.{bit_self}
use Rattle.eos.proofs.VectorLaws.{get_d-⊕, get_d-⊖}
use Rattle.eos.proofs.VectorSums.{nth_zero, nth-unit, nth_other}
use Rattle.eos.proofs.FiringLaws.{alike, fires_yes}

-- ---- a place has as many net-tokens as the outer projection says

module _ (m : Model) where
  -- one of them, where there are some
  token_at : (p : ℕ) (μ : Marking) → 0 < get_or (outer m μ) p 0 → (t : NetToken) × (1 ≤ M.count like t μ) × (t.place ≡ p)
  unfolding outer
  token_at p [] h = absurd (omega (arith, nth_zero (places m) p))
  token_at p (u ∷ μ) h = go (eqb u.place p) refl (token_at p μ)
    where
      go : (b : Bool) → eqb u.place p ≡ b → (0 < get_or (outer m μ) p 0 → (t : NetToken) × (1 ≤ M.count like t μ) × (t.place ≡ p))
          → (t : NetToken) × (1 ≤ M.count like t (u ∷ μ)) × (t.place ≡ p)
      go true e r = (u, omega (arith, bit_self like alike u), eqb→eq u.place p (true_is e))
      go false e r =
          let t = r (omega (arith, get_d-⊕ (unit u.place) (outer m μ) p, nth_other u.place p (λ q. false_is e (eqb_of u.place p q)))) in
          (t.0, omega (arith, t.1), t.2)

  -- and it is one of those at its place
  at_place : (t : NetToken) (μ : Marking) → 1 ≤ M.count like t μ → 0 < get_or (outer m μ) t.place 0
  unfolding outer
  at_place t [] h = absurd (omega arith)
  at_place t (u ∷ μ) h = go (like t u) refl h (at_place t μ)
    where
      go : (b : Bool) → like t u ≡ b → 1 ≤ M.bit b + M.count like t μ → (1 ≤ M.count like t μ → 0 < get_or (outer m μ) t.place 0)
          → 0 < get_or (unit u.place ⊕ outer m μ) t.place 0
      go true e k r = rw (← (alike.same t u (true_is e))) (omega (arith, get_d-⊕ (unit t.place) (outer m μ) t.place, nth-unit t.place))
      go false e k r = omega (arith, get_d-⊕ (unit u.place) (outer m μ) t.place, r (omega arith))

-- ---- nothing is inside where there is no net-token of the net

inside_none : (m : Model) (n : ℕ) (μ : Marking) → (HasToken m n μ → ⊥) → (i : ℕ) → get_or (inner m n μ) i 0 ≡ 0
unfolding inner
inside_none m n [] h i = nth_zero (net m n).size i
inside_none m n (u ∷ μ) h i =
    go (eqb (type_of m u.place) (suc n)) refl (inside_none m n μ (λ t. h (t.0, omega (arith, t.1), t.2)) i)
  where
    go : (b : Bool) → eqb (type_of m u.place) (suc n) ≡ b → get_or (inner m n μ) i 0 ≡ 0 → get_or (cond b u.inside [] ⊕ inner m n μ) i 0 ≡ 0
    go true e r = absurd (h (u, omega (arith, bit_self like alike u), eqb→eq (type_of m u.place) (suc n) (true_is e)))
    go false e r = r

-- an event whose pre has a place of a net is no `alone`: what it takes and gives is pre(τ̂) and post(τ̂)
outside : (m : Model) (taken given : Marking) (n : ℕ) (a : Act) → HasPlace m n (of_act pre m a) → sees m a taken ≡ asks m a → outer m given ≡ leaves m a taken
    → (outer m taken ≡ of_act pre m a) × (outer m given ≡ of_act post m a)
outside m taken given n (move k) h s l = (s, l)
outside m taken given n (idle p) h s l = (s, l)
outside m taken given n (alone k) h s l = absurd (omega (arith, h.2, nth_zero (places m) h.0))

-- ---- 02, K2

-- an event that takes net-tokens of net n and gives none takes them empty but for what its own pre takes
pub leaves_empty : (m : Model) (e : Event) (taken given : Marking) (n : ℕ) → n < length m.nets → Loses m e n → Enabled m e taken given
    → LeaveEmpty m e taken given n
unfolding outer_of
leaves_empty m e taken given n known loses rule =
    let asked = inner_of pre m e n in
    let returned = inner_of post m e n in
    let out = outside m taken given n e.act loses.taking rule.outer-taken rule.outer-given in
    let some = token_at m loses.taking.0 taken (rw (← out.0) at loses.taking.2) in
    let none : HasToken m n given → ⊥ = λ t. loses.giving (t.0.place, t.2, rw out.1 at (at_place m t.0 given t.1)) in
    let left : (i : ℕ) → get_or (inner m n taken) i 0 - get_or asked i 0 + get_or returned i 0 ≡ 0 =
    λ i.
    sym (ap (λ v. get_or v i 0) (rule.inner-given n known) ∙ get_d-⊕ (inner m n taken ⊖ asked) returned i
    ∙ ap (λ k. k + get_or returned i 0) (get_d-⊖ (inner m n taken) asked i))
    ∙ inside_none m n given none i in
    record {
      some = (some.0, some.1, ap (type_of m) some.2 ∙ loses.taking.1);
      none = none;
      emptied = λ i. omega (arith, left i, rule.inner-taken n known i);
      nothing = λ i. omega (arith, left i);
    }

-- 004, the emptiness constraint: where it counts no transition that takes of the net, those taken have nothing inside, Π²_N(λ) = 0
pub leaves_unmarked : (m : Model) (e : Event) (taken given : Marking) (n : ℕ) → n < length m.nets → Loses m e n → Enabled m e taken given
    → ((i : ℕ) → get_or (inner_of pre m e n) i 0 ≡ 0) → (i : ℕ) → get_or (inner m n taken) i 0 ≡ 0
leaves_unmarked m e taken given n known loses rule nothing i = (leaves_empty m e taken given n known loses rule).emptied i ∙ nothing i

-- so does a step that fires
pub step_leaves_empty : (m : Model) (s : Step) (μ : Marking) (n : ℕ) → n < length m.nets → Loses m (event m s.event) n → T (fires m s μ)
    → LeaveEmpty m (event m s.event) s.taken s.given n
step_leaves_empty m s μ n known loses fired = leaves_empty m (event m s.event) s.taken s.given n known loses (fires_yes m s μ fired).0
