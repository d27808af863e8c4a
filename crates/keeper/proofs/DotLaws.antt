-- Weighted sums of vectors as sums over indices, which do not see where a vector ends.
use Prim.Native.Nat.{ℕ, zero, suc, ◌+◌, ◌≤◌, ◌<◌}
use mathlib.Core.Path.{◌≡◌, refl, sym, ap, ap₂, ◌∙◌}
use mathlib.Core.List.{List, [], ◌∷◌}
use native.Mathlib.Omega.{arith}
use lib.IntN.{ℤ, pos, ◌+ℤ◌, ◌-ℤ◌, ◌*ℤ◌, +ℤ_idl, +ℤ_idr, one, *ℤ-one, *ℤ-zero, zero-*ℤ}
use lib.ListN.{length, get_or, get_or-eq_default}
use lib.Seq.{get_or-take}
use Rattle.std.proofs.lemmas.Int.{ints}
use Rattle.eos.specs.Vector.{◌⊕◌, times, zeros, unit, ◌≤ᵛ◌}
use Rattle.eos.specs.Model.{Transition, no_transition, Model, net, Event}
use Rattle.eos.specs.Firing.{summed, inner_of}
use Rattle.eos.specs.Weights.{dot, dots}
use Rattle.eos.proofs.WeightLaws.{*ℤ-pos-+, dot-⊕, dot_zero, zeros_none}
use Rattle.model.specs.Rules.{nth}
use Rattle.model.specs.Held.{row_at, row_in}
use Rattle.model.proofs.SlotLaws.{by_index}
use Rattle.weigh.specs.Sums.{total, number_of}
use Rattle.weigh.proofs.TotalLaws.{total_none, total_same, total_zero, total_front}

pub dot_none : (u : List ℤ) → dot u [] ≡ pos 0
dot_none [] = refl
dot_none (w ∷ u) = refl

pub dot_zeros : (u : List ℤ) (k : ℕ) → dot u (zeros k) ≡ pos 0
dot_zeros u k = dot_zero u (zeros k) (zeros_none k)

-- a vector taken so many times
times_suc : (c : ℕ) (x : List ℕ) → times (suc c) x ≡ x ⊕ times c x
times_suc c [] = refl
times_suc c (a ∷ x) = ap₂ {A = ℕ} ◌∷◌ (omega arith) (times_suc c x)

times_none : (x : List ℕ) → times 0 x ≤ᵛ []
times_none [] i = omega arith
times_none (a ∷ x) zero = omega arith
times_none (a ∷ x) (suc i) = times_none x i

pub dot_times : (u : List ℤ) (c : ℕ) (x : List ℕ) → dot u (times c x) ≡ dot u x *ℤ pos c
unfolding one
dot_times u zero x = dot_zero u (times 0 x) (times_none x) ∙ sym (*ℤ-zero (dot u x))
dot_times u (suc c) x =
    let e : 1 + c ≡ suc c = omega arith in
    ap (dot u) (times_suc c x) ∙ dot-⊕ u x (times c x)
    ∙ ap₂ ◌+ℤ◌ (sym (*ℤ-one (dot u x))) (dot_times u c x) ∙ sym (*ℤ-pos-+ (dot u x) 1 c) ∙ ap (λ (n : ℕ). dot u x *ℤ pos n) e

pub dot_unit : (u : List ℤ) (p : ℕ) → dot u (unit p) ≡ number_of u p
unfolding one
dot_unit [] p = refl
dot_unit (w ∷ u) zero = ap₂ ◌+ℤ◌ (*ℤ-one w) (dot_none u) ∙ +ℤ_idr w
dot_unit (w ∷ u) (suc p) = ap₂ ◌+ℤ◌ (*ℤ-zero w) (dot_unit u p) ∙ +ℤ_idl (number_of u p)

-- ---- as sums over indices

pub dot_total : (u : List ℤ) (x : List ℕ) (n : ℕ) → length u ≤ n → dot u x ≡ total n (λ i. number_of u i *ℤ pos (nth x i))
dot_total [] x n h = sym (total_zero n _ (λ i p. zero-*ℤ (pos (nth x i))))
dot_total (w ∷ u) [] n h = sym (total_zero n _ (λ i p. *ℤ-zero (number_of (w ∷ u) i)))
dot_total (w ∷ u) (a ∷ x) zero h = absurd (omega arith)
dot_total (w ∷ u) (a ∷ x) (suc n) h =
    ap (λ (z : ℤ). w *ℤ pos a +ℤ z) (dot_total u x n (omega arith)) ∙ sym (total_front n (λ i. number_of (w ∷ u) i *ℤ pos (nth (a ∷ x) i)))

pub dots_total : (us : List (List ℤ)) (k : ℕ) (i : ℕ → List ℕ) → dots us k i ≡ total (length us) (λ n. dot (get_or us n []) (i (k + n)))
dots_total [] k i = sym (total_none (λ n. dot (get_or [] n []) (i (k + n))))
dots_total (u ∷ us) k i =
    ap₂ ◌+ℤ◌ (ap (λ (j : ℕ). dot u (i j)) {x = k} {y = k + 0} (omega arith))
    (dots_total us (suc k) i
    ∙ total_same (length us) _ _ (λ n p. ap (λ (j : ℕ). dot (get_or us n []) (i j)) {x = suc k + n} {y = k + suc n} (omega arith)))
    ∙ sym (total_front (length us) (λ n. dot (get_or (u ∷ us) n []) (i (k + n))))

-- the sides of transitions, each as often as it is counted
dot_summed : (u : List ℤ) (side : Transition → List ℕ) → side no_transition ≡ [] → (cs : List ℕ) (ts : List Transition) (n : ℕ) → length cs ≤ n
    → dot u (summed side cs ts) ≡ total n (λ t. dot u (side (get_or ts t no_transition)) *ℤ pos (nth cs t))
dot_summed u side z [] ts n h = dot_none u ∙ sym (total_zero n _ (λ i p. *ℤ-zero (dot u (side (get_or ts i no_transition)))))
dot_summed u side z (c ∷ cs) [] n h =
    let e : dot u (side no_transition) ≡ pos 0 = ap (dot u) z ∙ dot_none u in
    dot_none u ∙ sym (total_zero n _ (λ i p. ap (λ (v : ℤ). v *ℤ pos (nth (c ∷ cs) i)) e ∙ zero-*ℤ (pos (nth (c ∷ cs) i))))
dot_summed u side z (c ∷ cs) (t ∷ ts) zero h = absurd (omega arith)
dot_summed u side z (c ∷ cs) (t ∷ ts) (suc n) h =
    dot-⊕ u (times c (side t)) (summed side cs ts)
    ∙ ap₂ ◌+ℤ◌ (dot_times u c (side t)) (dot_summed u side z cs ts n (omega arith))
    ∙ sym (total_front n (λ k. dot u (side (get_or (t ∷ ts) k no_transition)) *ℤ pos (nth (c ∷ cs) k)))

-- what a net's part in an event weighs
pub dot_inner : (u : List ℤ) (side : Transition → List ℕ) → side no_transition ≡ [] → (m : Model) (e : Event) (k n : ℕ) → length (get_or e.sync k []) ≤ n
    → dot u (inner_of side m e k) ≡ total n (λ t. dot u (side (get_or (net m k).transitions t no_transition)) *ℤ pos (nth (get_or e.sync k []) t))
unfolding inner_of
dot_inner u side z m e k n h =
    dot-⊕ u (zeros (net m k).size) (summed side (get_or e.sync k []) (net m k).transitions)
    ∙ ap₂ ◌+ℤ◌ (dot_zeros u (net m k).size) (dot_summed u side z (get_or e.sync k []) (net m k).transitions n h) ∙ +ℤ_idl _

-- a difference, so many times
pub minus_times : (a b : ℤ) (c : ℕ) → (a -ℤ b) *ℤ pos c ≡ a *ℤ pos c -ℤ b *ℤ pos c
unfolding one
minus_times a b zero = rw (*ℤ-zero (a -ℤ b), *ℤ-zero a, *ℤ-zero b)
minus_times a b (suc c) =
    let e : suc c ≡ 1 + c = omega arith in
    let p = *ℤ-pos-+ (a -ℤ b) 1 c in
    let q = *ℤ-pos-+ a 1 c in
    let r = *ℤ-pos-+ b 1 c in
    let i = minus_times a b c in
    rw e (omega (arith, ints, p, q, r, i, *ℤ-one (a -ℤ b), *ℤ-one a, *ℤ-one b))

-- ---- a row of a table

-- weights as many as a row's numbers, looked up where they are held
pub dot_row : (u w : List ℤ) (x y : List ℕ) → length u ≤ 32 → length w ≤ 32 → ((i : ℕ) → number_of w i ≡ number_of u i)
    → ((i : ℕ) → i < length u → nth x i ≡ nth y i) → dot u x ≡ dot w y
dot_row u w x y few long held is =
    dot_total u x 32 few
    ∙ total_same 32 _ (λ i. number_of w i *ℤ pos (nth y i))
    (λ i p.
    by_index (length u) i
    (λ q. ap₂ (λ (v : ℤ) (n : ℕ). v *ℤ pos n) (sym (held i)) (is i q))
    (λ q.
    let z : number_of u i ≡ pos 0 = get_or-eq_default u (pos 0) q in
    let y' : number_of w i ≡ pos 0 = held i ∙ z in
    ap (λ (v : ℤ). v *ℤ pos (nth x i)) z ∙ zero-*ℤ (pos (nth x i)) ∙ sym (ap (λ (v : ℤ). v *ℤ pos (nth y i)) y' ∙ zero-*ℤ (pos (nth y i)))))
    ∙ sym (dot_total w y 32 long)

-- a number among the first of a row is one of the row
pub row-nth : (n : ℕ) (table : List (List ℕ)) (t i : ℕ) → i < n → nth (row_in n table t) i ≡ nth (row_at table t) i
row-nth n table t i h = get_or-take n (row_at table t) i 0 h
