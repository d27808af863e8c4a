-- The byte at fault in a line, of any kind. A line is 2 at b exactly where no line of its form stands there and b is the first byte at which
-- none could go on, and 3 at b exactly where one does of which the first number out of range begins at b. It has no other fault.
use Prim.Native.Nat.{ℕ, suc, ◌+◌, ◌-◌, ◌≤◌, max}
use mathlib.Core.Path.{◌≡◌, refl, ap, sym, ◌∙◌}
use mathlib.Core.List.{◌++◌, append_assoc}
use mathlib.Core.Bool.{Bool, true, false, ◌&&◌}
use mathlib.Core.Logic.{◌↔◌, ◌⊎◌, inl, inr, ⊎_elim}
use native.Mathlib.Omega.{arith}
use lib.Dec.{leb}
use borrow.Author.Tests.{leb-true, leb-false}
use lib.ListN.{length, take, drop, take-append-drop}
use Rattle.text.specs.Bytes.{Text, far, column_at}
use Rattle.text.proofs.Basics.{by_test, by_le}
use Rattle.text.specs.Number.{Read, missing, found}
use Rattle.text.specs.Lines.{bad, fault_at, judged}
use Rattle.text.specs.declared.Cause.TheVariants.{Syntax, Range}
use Rattle.text.specs.declared.Fault.{Fault}
use Rattle.text.proofs.Far.{far_within, far_begins, begins_far, between_is}
use Rattle.text.proofs.Exactly.{Exactly, bad≢got, judged_exactly}
use Rattle.text.proofs.Parts.{Furthest, Part, furthest_least, furthest_one, none_stands}
use Rattle.text.proofs.Refusals.{Refuses, Formless, Failing, Wrong, LineFaults, bad-is, one_cause}

-- ---- the furthest byte, in these words and back
module _ {A : Type 0} {text : A → Text} {form : A → Bool} {s : Text} {at b : ℕ} where
  wrong_at : Furthest text form s at b → Formless s text form at → Wrong s text form at b
  wrong_at k none =
      let g = k.goes in
      let h = furthest_least k in
      let i : b ≤ max at (length s) = omega (arith, g.2, far_within s at (text g.0)) in
      record {
        inside = (h, i);
        could = let f = far_begins s at (text g.0) b h g.2 in (g.0, g.1, f.0, f.1);
        cannot = λ l a r rest e. let f = begins_far s at (text a) rest (b + 1) (omega arith) (omega arith) e in omega (arith, f, k.stays a r);
        none = none;
      }

  wrong_furthest : Wrong s text form at b → Furthest text form s at b
  wrong_furthest w =
      let i = w.inside in
      record {
        goes = let c = w.could in (c.0, c.1, begins_far s at (text c.0) c.2 b i.0 i.1 c.3);
        stays = λ a r.
            by_test (leb (far s at (text a)) b)
            (λ l. leb-true _ _ l)
            (λ l.
            let more = leb-false (far s at (text a)) b l in
            let f = far_begins s at (text a) (b + 1) (omega arith) (omega arith) in
            absurd (w.cannot (omega (arith, far_within s at (text a))) a r f.0 f.1));
      }

  -- its column, counted from 1
  pub wrong_column : Wrong s text form at b → column_at s at b ≡ suc (b - at)
  wrong_column w = let i = w.inside in ap suc (between_is s at b i.0 i.1)

  -- of a line that is missing it is 1
  pub missing_column : length s ≤ at → Wrong s text form at b → column_at s at b ≡ 1
  missing_column past w = let i = w.inside in omega (arith, wrong_column w, i.0, i.1, past)

  -- where the text ends early, all that is left being the beginning of a right line, the byte at fault is the one after the last
  pub early_end : (a : A) → form a ≡ true → (rest : Text) → text a ≡ drop at s ++ rest → Wrong s text form at b → length s ≤ b
  early_end a fine rest e w =
      by_le (length s) b
      (λ h. h)
      (λ h.
      let n = b + 1 - at in
      let l = drop at s in
      absurd (w.cannot h a fine (drop n l ++ rest) (e ∙ ap (λ (t : Text). t ++ rest) (sym (take-append-drop n l)) ∙ append_assoc (take n l) (drop n l) rest)))

-- ---- what a line is refused with
module _ {A : Type 0} (range : A → Bool) (out : A → ℕ) (at : ℕ) where
  -- nothing is found, or what is found is out of range
  judged-bad : (r : Read A) (e : Fault) → judged range out at r ≡ bad e
      → ((b : ℕ) × (r ≡ missing b) × (e ≡ fault_at Syntax at b)) ⊎ ((a : A) × (next : ℕ) × (r ≡ found a next) × (range a ≡ false) × (e ≡ fault_at Range at (out a)))
  unfolding judged
  judged-bad (missing b) e h = inl (b, refl, sym (bad-is h))
  judged-bad (found a next) e h =
      by_test (range a)
      (λ w. absurd (bad≢got (sym (rw (w, judged) at h))))
      (λ w. inr (a, next, refl, w, sym (bad-is (rw (w, judged) at h))))

module _ {A : Type 0} {read : Text → ℕ → Read A} {text : A → Text} {form : A → Bool} (one : Part read text form) where
  -- a line is accepted exactly where a text of the form stands that is in range
  pub part_exactly : (range : A → Bool) (out : ℕ → A → ℕ) (s : Text) → Exactly s (λ at. judged range (out at) at (read s at)) text (λ a. form a && range a)
  part_exactly range out s = judged_exactly s (read s) text form (one.finds s) range out

  -- where no line of the form stands there, nothing is found, and the byte is that at fault
  fails_at : (s : Text) (at b : ℕ) → Wrong s text form at b → (r : Read A) → read s at ≡ r → read s at ≡ missing b
  fails_at s at b w (missing c) e = e ∙ ap missing (furthest_one (one.fails s at c e) (wrong_furthest w))
  fails_at s at b w (found a next) e = let k = (one.finds s).back at a next e in absurd (w.none a k.reaches.stands k.fine-is)

  -- the faults of any line, whose right texts are those of a part
  pub column-exactly : (range : A → Bool) (out : ℕ → A → ℕ) (s : Text) → Refuses (λ at. judged range (out at) at (read s at)) (LineFaults s text form range out)
  unfolding judged
  column-exactly range out s = record {
    back = λ at e h.
        ⊎_elim
        (λ k. inl (k.0, k.2, wrong_at (one.fails s at k.0 k.1) (λ a st g. none_stands one s at k.0 k.1 a g st)))
        (λ k.
        let r = (one.finds s).back at k.0 k.1 k.2 in
        inr (out at k.0, k.4, record { one = k.0; stands = r.reaches.stands; formed = r.fine-is; out_of_range = k.3; here = refl }))
        (judged-bad range (out at) at (read s at) e h);
    forth = λ at e h.
        ⊎_elim
        (λ k. rw (fails_at s at k.0 k.2 (read s at) refl, k.1))
        (λ k. let o = k.2 in rw ((one.finds s).forth at o.one o.stands o.formed, judged, o.out_of_range, o.here, k.1))
        h;
  }

  -- the cause alone, as it was without the byte: 2 exactly where no line of the form stands there
  pub two_exactly : (range : A → Bool) (out : ℕ → A → ℕ) (s : Text) (at : ℕ)
      → ((b : ℕ) × (judged range (out at) at (read s at) ≡ bad (fault_at Syntax at b))) ↔ Formless s text form at
  unfolding judged
  two_exactly range out s at = (
    λ h. ⊎_elim (λ k. k.2.none) (λ k. absurd (no_two k.1)) ((column-exactly range out s).back at (fault_at Syntax at h.0) h.1),
    λ n. go n (read s at) refl,
  )
    where
      no_two : {b c : ℕ} → fault_at Syntax at b ≡ fault_at Range at c → ⊥
      no_two h = let z : 2 ≡ 3 = one_cause h in omega (arith, z)

      go : Formless s text form at → (r : Read A) → read s at ≡ r → (b : ℕ) × (judged range (out at) at (read s at) ≡ bad (fault_at Syntax at b))
      go n (missing b) e = (b, rw e)
      go n (found a next) e = let k = (one.finds s).back at a next e in absurd (n a k.reaches.stands k.fine-is)

  -- and 3 exactly where one does that is out of range
  pub three_exactly : (range : A → Bool) (out : ℕ → A → ℕ) (s : Text) (at : ℕ)
      → ((b : ℕ) × (judged range (out at) at (read s at) ≡ bad (fault_at Range at b))) ↔ Failing s text form range at
  three_exactly range out s at =
      let law = column-exactly range out s in (
        λ h.
            ⊎_elim
            (λ k. let z : 3 ≡ 2 = one_cause k.1 in absurd (omega (arith, z)))
            (λ k. let o = k.2 in (o.one, o.stands, o.formed, o.out_of_range))
            (law.back at (fault_at Range at h.0) h.1),
        λ h. (out at h.0, law.forth at (fault_at Range at (out at h.0)) (inr (out at h.0, refl, record { one = h.0; stands = h.1; formed = h.2; out_of_range = h.3; here = refl }))),
      )
