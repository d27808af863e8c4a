-- Several things in a row, each put to a test with those before it: they are accepted exactly where they are printed, are fine and fit, and
-- refused where the first is that is not so.
use Prim.Native.Nat.{ℕ, zero, suc, ◌+◌, ◌<◌}
use mathlib.Core.Path.{◌≡◌, refl, ap, sym, fun_ext, ◌∙◌}
use mathlib.Core.List.{List, [], ◌∷◌, ◌++◌, append_assoc, append-nil}
use mathlib.Core.Bool.{Bool, true, ◌&&◌}
use mathlib.Core.Logic.{inl, inr, ⊎_elim}
use native.Mathlib.Omega.{arith}
use native.Mathlib.Nat.{add-zero}
use lib.Dec.{eqb}
use borrow.Author.Tests.{eqb-true, eq-eqb}
use lib.ListN.{length}
use Rattle.text.specs.Bytes.{Text}
use Rattle.text.specs.Lines.{Outcome, got, bad, then, need, many, many_within, every}
use Rattle.text.specs.Printed.{texts}
use Rattle.text.specs.declared.Fault.{Fault}
use Rattle.text.specs.declared.Cause.{Cause}
use Rattle.text.proofs.Basics.{by_test, and_true}
use Rattle.text.proofs.TestLaws.{and_both}
use Rattle.text.proofs.LineLaws.{need_met, need_unmet}
use Rattle.text.proofs.Standing.{Stands, stands_left, stands_right, stands_join, ends_join, nothing_reaches, reach_join}
use Rattle.text.proofs.Exactly.{Accepts, accepts_as, Exactly, got-is, bad≢got, then-got, need-got}
use Rattle.text.proofs.Refusals.{Refuses, RuledFaults, ThenFaults, bad-is, then-bad, then_refuses}

-- what fits, fits before its last things come
abbrev pub Fronts : {A : Type 0} → (List A → Bool) → Type 0
Fronts fits = (l m : List _) → fits (l ++ m) ≡ true → fits l ≡ true

module _ {A : Type 0} (s : Text) (text : A → Text) (One : ℕ → Fault → Type 0) (fine : A → Bool) (fits : List A → Bool) (cause : Cause) where
  -- behind those in `seen`: the first of n things that is refused, or that does not fit with those before it
  abbrev From : List A → ℕ → ℕ → Fault → Type 0
  From seen n at e =
      (l : List A)
      × (length l < n)
      × Stands s at (texts text l)
      × (every fine l ≡ true)
      × (fits (seen ++ l) ≡ true)
      × RuledFaults s text One fine (λ a. fits ((seen ++ l) ++ (a ∷ []))) cause (at + length (texts text l)) e

  -- the faults of n things in a row, by those that stand there, are fine and fit: behind them One, or `cause` where the next does not fit with
  -- them
  abbrev pub WithinFaults : ℕ → ℕ → Fault → Type 0
  WithinFaults n at e =
      (l : List A)
      × (length l < n)
      × Stands s at (texts text l)
      × (every fine l ≡ true)
      × (fits l ≡ true)
      × RuledFaults s text One fine (λ a. fits (l ++ (a ∷ []))) cause (at + length (texts text l)) e

  -- and behind all of them those of what comes next
  abbrev pub WithinThen : ℕ → (List A → ℕ → Fault → Type 0) → ℕ → Fault → Type 0
  WithinThen n Next = ThenFaults s (texts text) (WithinFaults n) (λ l. eqb (length l) n && (every fine l && fits l)) Next

module _ {A : Type 0} {s : Text} {f : ℕ → Outcome A} {text : A → Text} {fine : A → Bool} (one : Exactly s f text fine) (fits : List A → Bool) (cause : Cause)
    (fronts : Fronts fits)
  where
    abbrev within : List A → ℕ → ℕ → Outcome (List A)
    within = many_within fits cause f

    moved : (seen : List A) (a : A) (l : List A) → fits ((seen ++ (a ∷ [])) ++ l) ≡ fits (seen ++ (a ∷ l))
    moved seen a l = ap fits (append_assoc seen (a ∷ []) l)

    -- a thing that fits with all of them fits with those before it
    next_fits : (seen : List A) (a : A) (l : List A) → fits (seen ++ (a ∷ l)) ≡ true → fits (seen ++ (a ∷ [])) ≡ true
    next_fits seen a l h = fronts (seen ++ (a ∷ [])) l (moved seen a l ∙ h)

    within_back : (n : ℕ) (seen : List A) (at : ℕ) (l : List A) (next : ℕ) → fits seen ≡ true → within seen n at ≡ got l next
        → Accepts s at (texts text l) next (eqb (length l) n && (every fine l && fits (seen ++ l)))
    unfolding many_within texts
    within_back zero seen at l next h e =
        accepts_as s at (texts text) (λ l. eqb (length l) 0 && (every fine l && fits (seen ++ l))) [] l at next (got-is e)
        (record { reaches = nothing_reaches s at; fine-is = rw (append-nil seen) h })
    within_back (suc n) seen at l next h e =
        let p = then-got (f at) _ l next e in
        let more = seen ++ (p.value ∷ []) in
        let t = need-got (fits more) cause at _ l next p.rest in
        let q = then-got (within more n p.next) _ l next t.1 in
        let a = one.back at p.value p.next p.first in
        let b = within_back n more p.next q.value q.next t.0 q.first in
        let u = and_true (eqb (length q.value) n) _ b.fine-is in
        let v = and_true (every fine q.value) (fits (more ++ q.value)) u.1 in
        accepts_as s at (texts text) (λ l. eqb (length l) (suc n) && (every fine l && fits (seen ++ l))) (p.value ∷ q.value) l q.next next (got-is q.rest) (record {
          reaches = reach_join s at (text p.value) (texts text q.value) p.next q.next a.reaches b.reaches;
          fine-is =
              rw (
                eq-eqb (suc (length q.value)) (suc n) (ap suc (eqb-true (length q.value) n u.0)),
                a.fine-is,
                v.0,
                sym (moved seen p.value q.value) ∙ v.1,
              );
        })

    within_forth : (n : ℕ) (seen : List A) (at : ℕ) (l : List A) → Stands s at (texts text l)
        → (eqb (length l) n && (every fine l && fits (seen ++ l))) ≡ true → within seen n at ≡ got l (at + length (texts text l))
    unfolding many_within texts then need
    within_forth zero seen at [] st h = rw (add-zero at)
    within_forth zero seen at (a ∷ l) st h = absurd (omega (arith, eqb-true (suc (length l)) 0 (and_true (eqb (suc (length l)) 0) _ h).0))
    within_forth (suc n) seen at [] st h = absurd (omega (arith, eqb-true 0 (suc n) (and_true (eqb 0 (suc n)) _ h).0))
    within_forth (suc n) seen at (a ∷ l) st h =
        let t = and_true (eqb (suc (length l)) (suc n)) _ h in
        let u = and_true (fine a && every fine l) (fits (seen ++ (a ∷ l))) t.1 in
        let v = and_true (fine a) (every fine l) u.0 in
        let ln : length l ≡ n = omega (arith, eqb-true (suc (length l)) (suc n) t.0) in
        let g : (eqb (length l) n && (every fine l && fits ((seen ++ (a ∷ [])) ++ l))) ≡ true =
        rw (eq-eqb (length l) n ln, v.1, moved seen a l ∙ u.1) in
        rw (
          one.forth at a (stands_left s at (text a) (texts text l) st) v.0,
          next_fits seen a l u.1,
          within_forth n (seen ++ (a ∷ [])) (at + length (text a)) l (stands_right s at (text a) (texts text l) st) g,
          ends_join,
        )

    -- n things in a row, where nothing fits as well
    pub within_exactly : fits [] ≡ true → (n : ℕ) → Exactly s (many_within fits cause f [] n) (texts text) (λ l. eqb (length l) n && (every fine l && fits l))
    within_exactly h n = record { back = λ at l next e. within_back n [] at l next h e; forth = λ at l st g. within_forth n [] at l st g }

    module _ {One : ℕ → Fault → Type 0} (faults : Refuses f One) where
      -- one more before them, which fits
      more : (n : ℕ) (seen : List A) (at : ℕ) (e : Fault) (a : A) (next : ℕ) → Accepts s at (text a) next (fine a)
          → From s text One fine fits cause (seen ++ (a ∷ [])) n next e → From s text One fine fits cause seen (suc n) at e
      unfolding texts
      more n seen at e a next b (l, lt, st, ev, fit, out) =
          let r = b.reaches in
          let place : next + length (texts text l) ≡ at + length (text a ++ texts text l) = rw (r.next_is, ends_join) in
          let whole : (seen ++ (a ∷ [])) ++ l ≡ seen ++ (a ∷ l) = append_assoc seen (a ∷ []) l in (
            a ∷ l,
            omega (arith, lt),
            stands_join s at (text a) (texts text l) r.stands (rw (← r.next_is) st),
            and_both (fine a) _ b.fine-is ev,
            sym (moved seen a l) ∙ fit,
            rw (whole, place) at out,
          )

      here : (n : ℕ) (seen : List A) (at : ℕ) (e : Fault) → fits seen ≡ true → RuledFaults s text One fine (λ a. fits (seen ++ (a ∷ []))) cause at e
          → From s text One fine fits cause seen (suc n) at e
      unfolding texts
      here n seen at e h out = ([], omega arith, rw (add-zero at), refl, rw (append-nil seen) h, rw (append-nil seen, add-zero at) out)

      refused_back : (n : ℕ) (seen : List A) (at : ℕ) (e : Fault) → fits seen ≡ true → within seen n at ≡ bad e → From s text One fine fits cause seen n at e
      unfolding many_within
      refused_back zero seen at e h k = absurd (bad≢got (sym k))
      refused_back (suc n) seen at e h k =
          ⊎_elim
          (λ b. here n seen at e h (inl (faults.back at e b)))
          (λ g.
          let a = g.0 in
          let acc = one.back at a g.1 g.2 in
          let many = seen ++ (a ∷ []) in
          by_test (fits many)
          (λ w.
          ⊎_elim
          (λ r. more n seen at e a g.1 acc (refused_back n many g.1 e w r))
          (λ r. absurd (bad≢got (sym r.3)))
          (then-bad (within many n g.1) _ e (sym (need_met (fits many) cause at _ w) ∙ g.3)))
          (λ w. here n seen at e h (inr (bad-is (sym g.3 ∙ need_unmet (fits many) cause at _ w), (a, acc.reaches.stands, acc.fine-is, w)))))
          (then-bad (f at) _ e k)

      refused_forth : (n : ℕ) (seen : List A) (at : ℕ) (e : Fault) → From s text One fine fits cause seen n at e → within seen n at ≡ bad e
      unfolding many_within texts then need
      refused_forth zero seen at e (l, lt, st, ev, fit, out) = absurd (omega (arith, lt))
      refused_forth (suc n) seen at e ([], lt, st, ev, fit, out) =
          let o = rw (append-nil seen, add-zero at) at out in
          ⊎_elim
          (λ k. rw (faults.forth at e k))
          (λ k. let a = k.1 in rw (one.forth at a.0 a.1 a.2, a.3, k.0))
          o
      refused_forth (suc n) seen at e (a ∷ l, lt, st, ev, fit, out) =
          let v = and_true (fine a) (every fine l) ev in
          let whole : (seen ++ (a ∷ [])) ++ l ≡ seen ++ (a ∷ l) = append_assoc seen (a ∷ []) l in
          let x = at + length (text a) in
          let place : x + length (texts text l) ≡ at + length (text a ++ texts text l) = ends_join at (text a) (texts text l) in
          rw (
            one.forth at a (stands_left s at (text a) (texts text l) st) v.0,
            next_fits seen a l fit,
            refused_forth n (seen ++ (a ∷ [])) x e
                (l, omega (arith, lt), stands_right s at (text a) (texts text l) st, v.1, moved seen a l ∙ fit, rw (whole, place) out),
          )

      -- and the faults of n things in a row
      pub within_refuses : fits [] ≡ true → (n : ℕ) → Refuses (many_within fits cause f [] n) (WithinFaults s text One fine fits cause n)
      within_refuses h n = record { back = λ at e k. refused_back n [] at e h k; forth = λ at e k. refused_forth n [] at e k }

      -- and what comes behind them
      pub within_then : {B : Type 0} → fits [] ≡ true → (n : ℕ) → {rest : List A → ℕ → Outcome B} {Next : List A → ℕ → Fault → Type 0}
          → ((l : List A) → Refuses (rest l) (Next l)) → Refuses (λ at. then (many_within fits cause f [] n at) rest) (WithinThen s text One fine fits cause n Next)
      within_then h n two = then_refuses (within_exactly h n) (within_refuses h n) two

-- where everything fits, they are n things in a row
pub within_always : {A : Type 0} (fits : List A → Bool) (cause : Cause) (f : ℕ → Outcome A) → ((l : List A) → fits l ≡ true) → (seen : List A) (n at : ℕ)
    → many_within fits cause f seen n at ≡ many f n at
unfolding many_within many need
within_always fits cause f all seen zero at = refl
within_always {A} fits cause f all seen (suc n) at =
    ap (then (f at)) (fun_ext λ a. fun_ext λ next.
    rw (all (seen ++ (a ∷ []))) (ap (λ (o : Outcome (List A)). then o (λ l end. got (a ∷ l) end)) (within_always fits cause f all (seen ++ (a ∷ [])) n next)))
