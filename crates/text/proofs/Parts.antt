-- Parts of a line: what each finds exactly, and how far the right ones go where it finds nothing. Parts are put together by few laws:
-- a text that is fixed, two parts in a row, what is made of a part, the one or the other.
use Prim.Native.Nat.{ℕ, ◌+◌, ◌≤◌, max}
use mathlib.Core.Path.{◌≡◌, refl, ap, sym, ◌∙◌}
use mathlib.Core.List.{◌++◌}
use mathlib.Core.Bool.{Bool, true, ◌||◌, or-true}
use mathlib.Core.Logic.{◌⊎◌, inl, inr, ⊎_elim}
use native.Mathlib.Omega.{arith}
use lib.Dec.{eqb, leb}
use borrow.Author.Tests.{eqb-true, eqb-false, leb-true, leb-false}
use lib.ListN.{length}
use Rattle.text.specs.Bytes.{Text, far}
use Rattle.text.proofs.Basics.{by_test}
use Rattle.text.proofs.ByteLaws.{far_least}
use Rattle.text.specs.Number.{Read, missing, found, made, both, either, literal}
use Rattle.text.proofs.ReadLaws.{missing≢found, missing-is, found-is}
use Rattle.text.proofs.ReadLaws.{literal_here, literal_other}
use Rattle.text.proofs.Standing.{Stands, stands_left, stands_right, stands_all, ends_join, reach_join}
use Rattle.text.proofs.Far.{far_most, far_stands, far_whole, far_past, far_short, far_more, far_front}
use Rattle.text.proofs.Exactly.{Accepts, Finds}

-- b is as far as any fine text goes with s from `at` on
pub record Furthest {A : Type 0} (text : A → Text) (fine : A → Bool) (s : Text) (at b : ℕ) : Type 0 where
  pub goes : (a : A) × (fine a ≡ true) × (b ≤ far s at (text a))
  pub stays : (a : A) → fine a ≡ true → far s at (text a) ≤ b

-- f finds exactly the fine texts, of which there are some, and fails at the furthest byte
pub record Part {A : Type 0} (f : Text → ℕ → Read A) (text : A → Text) (fine : A → Bool) : Type 0 where
  pub some : (a : A) × (fine a ≡ true)
  pub finds : (s : Text) → Finds s (f s) text fine
  pub fails : (s : Text) (at b : ℕ) → f s at ≡ missing b → Furthest text fine s at b

module _ {A : Type 0} {text : A → Text} {fine : A → Bool} {s : Text} {at : ℕ} where
  pub furthest_least : {b : ℕ} → Furthest text fine s at b → at ≤ b
  furthest_least k = let g = k.goes in omega (arith, far_least s at (text g.0), k.stays g.0 g.1)

  -- there is only one such byte
  pub furthest_one : {b c : ℕ} → Furthest text fine s at b → Furthest text fine s at c → b ≡ c
  furthest_one p q =
      let g = p.goes in
      let k = q.goes in
      omega (arith, q.stays g.0 g.1, p.stays k.0 k.1)

-- ---- of one part
module _ {A : Type 0} {f : Text → ℕ → Read A} {text : A → Text} {fine : A → Bool} (one : Part f text fine) (s : Text) (at : ℕ) where
  -- where nothing is found no fine text stands
  pub none_stands : (b : ℕ) → f s at ≡ missing b → (a : A) → fine a ≡ true → Stands s at (text a) → ⊥
  none_stands b e a h st = missing≢found (sym e ∙ (one.finds s).forth at a st h)

  module _ (a : A) (next : ℕ) (e : f s at ≡ found a next) where
    -- what is found is the only one that stands there
    only_stands : (c : A) → fine c ≡ true → Stands s at (text c) → c ≡ a
    only_stands c h st = (found-is (sym ((one.finds s).forth at c st h) ∙ e)).0

    -- and no other goes beyond it
    none_beyond : (c : A) → fine c ≡ true → far s at (text c) ≤ next
    none_beyond c h =
        let r = (one.finds s).back at a next e in
        by_test (leb (far s at (text c)) next)
        (λ k. leb-true (far s at (text c)) next k)
        (λ k.
        let st = far_front s at (text a) (text c) next r.reaches (omega (arith, leb-false (far s at (text c)) next k)) in
        let p = (one.finds (text c)).forth 0 a st r.fine-is in
        let q = (one.finds (text c)).forth 0 c (stands_all (text c) (text c) refl) h in
        omega (arith, far_most s at (text c), r.reaches.next_is, (found-is (sym p ∙ q)).1))

-- ---- a text that is fixed
module _ (t : Text) where
  literal_back : (s : Text) (at : ℕ) (c : Unit {0}) (next : ℕ) → literal t s at ≡ found c next → Accepts s at t next true
  literal_back s at c next e =
      by_test (eqb (far s at t) (at + length t))
      (λ h.
      let w = eqb-true _ _ h in
      let k = found-is (sym (literal_here t s at w) ∙ e) in
      record { reaches = record { stands = far_stands s at t w; next_is = sym k.1 }; fine-is = refl })
      (λ h. absurd (missing≢found (sym (literal_other t s at (eqb-false _ _ h)) ∙ e)))

  literal_fails : (s : Text) (at b : ℕ) → literal t s at ≡ missing b → Furthest (λ (v : Unit {0}). t) (λ v. true) s at b
  literal_fails s at b e =
      by_test (eqb (far s at t) (at + length t))
      (λ h. absurd (missing≢found (sym e ∙ literal_here t s at (eqb-true _ _ h))))
      (λ h.
      let k : far s at t ≡ b = missing-is (sym (literal_other t s at (eqb-false _ _ h)) ∙ e) in
      record { goes = (tt, refl, omega (arith, k)); stays = λ c g. omega (arith, k) })

  -- it is found where it stands
  pub literal_part : Part (literal t) (λ (v : Unit {0}). t) (λ v. true)
  literal_part = record {
    some = (tt, refl);
    finds = λ s. record { back = literal_back s; forth = λ at c st g. literal_here t s at (far_whole s at t st) };
    fails = literal_fails;
  }

-- ---- what is made of a reading
module _ {A C : Type 0} (to : A → C) where
  pub made_found : (r : Read A) (c : C) (end : ℕ) → made to r ≡ found c end → (a : A) × (r ≡ found a end) × (to a ≡ c)
  unfolding made
  made_found (missing b) c end e = absurd (missing≢found e)
  made_found (found a t) c end e = let k = found-is e in (a, rw k.1, k.0)

  pub made_missing : (r : Read A) (b : ℕ) → made to r ≡ missing b → r ≡ missing b
  unfolding made
  made_missing (missing d) b e = rw (missing-is e)
  made_missing (found c t) b e = absurd (missing≢found (sym e))

-- ---- two parts in a row
module _ {A B C : Type 0} (make : A → B → C) where
  pub record Both (r : Read A) (g : A → ℕ → Read B) (c : C) (end : ℕ) : Type 0 where
    pub left : A
    pub next : ℕ
    pub right : B
    pub first : r ≡ found left next
    pub second : g left next ≡ found right end
    pub made_is : make left right ≡ c

  pub both_found : (r : Read A) (g : A → ℕ → Read B) (c : C) (end : ℕ) → both make r g ≡ found c end → Both r g c end
  unfolding both
  both_found (missing b) g c end e = absurd (missing≢found e)
  both_found (found a t) g c end e =
      let k = made_found (make a) (g a t) c end e in
      record { left = a; next = t; right = k.0; first = refl; second = k.1; made_is = k.2 }

  both_missing : (r : Read A) (g : A → ℕ → Read B) (b : ℕ) → both make r g ≡ missing b
      → (r ≡ missing b) ⊎ ((a : A) × (next : ℕ) × (r ≡ found a next) × (g a next ≡ missing b))
  unfolding both
  both_missing (missing d) g b e = inl (rw (missing-is e))
  both_missing (found a t) g b e = inr (a, t, refl, made_missing (make a) (g a t) b e)

  -- the texts of what is made are the texts of the parts, one after the other
  pub record Joins (text₁ : A → Text) (fine₁ : A → Bool) (text₂ : B → Text) (fine₂ : A → B → Bool) (text : C → Text) (fine : C → Bool) : Type 0 where
    pub join : (a : A) (b : B) → fine₁ a ≡ true → fine₂ a b ≡ true → (text (make a b) ≡ text₁ a ++ text₂ b) × (fine (make a b) ≡ true)
    pub split : (c : C) → fine c ≡ true → (a : A) × (b : B) × (make a b ≡ c) × (fine₁ a ≡ true) × (fine₂ a b ≡ true)

  module _ {f : Text → ℕ → Read A} {text₁ : A → Text} {fine₁ : A → Bool} {text₂ : B → Text} {fine₂ : A → B → Bool} {text : C → Text} {fine : C → Bool}
      (one : Part f text₁ fine₁) (joins : Joins text₁ fine₁ text₂ fine₂ text fine)
    where
      module _ (s : Text) (at b : ℕ) where
        -- the first part fails
        first_fails : ((a : A) → (c : B) × (fine₂ a c ≡ true)) → f s at ≡ missing b → Furthest text fine s at b
        first_fails some₂ e =
            let k = one.fails s at b e in
            record {
              goes =
                  let g = k.goes in
                  let w = some₂ g.0 in
                  let j = joins.join g.0 w.0 g.1 w.1 in
                  (make g.0 w.0, j.1, rw j.0 (omega (arith, g.2, far_more s at (text₁ g.0) (text₂ w.0))));
              stays = λ c h.
                  let p = joins.split c h in
                  let j = joins.join p.0 p.1 p.3 p.4 in
                  rw (← p.2, j.0, far_short s at (text₁ p.0) (text₂ p.1) (none_stands one s at b e p.0 p.3)) (k.stays p.0 p.3);
            }

        module _ (a : A) (next : ℕ) (e : f s at ≡ found a next) (k : Furthest text₂ (fine₂ a) s next b) where
          after : (d : A) (c : B) → d ≡ a → fine₂ d c ≡ true → far s at (text₁ d ++ text₂ c) ≤ b
          after d c q h =
              let r = ((one.finds s).back at a next e).reaches in
              rw (q, far_past s at (text₁ a) (text₂ c) next r) (k.stays c (rw q at h))

          -- the second part fails
          second_fails : Furthest text fine s at b
          second_fails =
              let r = (one.finds s).back at a next e in
              record {
                goes =
                    let g = k.goes in
                    let j = joins.join a g.0 r.fine-is g.1 in
                    (make a g.0, j.1, rw (j.0, far_past s at (text₁ a) (text₂ g.0) next r.reaches) g.2);
                stays = λ c h.
                    let p = joins.split c h in
                    let t = text₁ p.0 in
                    let j = joins.join p.0 p.1 p.3 p.4 in
                    rw (← p.2, j.0)
                    (by_test (eqb (far s at t) (at + length t))
                    (λ w. after p.0 p.1 (only_stands one s at a next e p.0 p.3 (far_stands s at t (eqb-true _ _ w))) p.4)
                    (λ w.
                    let n = far_short s at t (text₂ p.1) (λ st. eqb-false _ _ w (far_whole s at t st)) in
                    omega (arith, n, none_beyond one s at a next e p.0 p.3, furthest_least k)));
              }

      module _ {g : A → Text → ℕ → Read B} (two : (a : A) → Part (g a) text₂ (fine₂ a)) where
        abbrev row : Text → ℕ → Read C
        row s at = both make (f s at) λ a next. g a s next

        row_back : (s : Text) (at : ℕ) (c : C) (next : ℕ) → row s at ≡ found c next → Accepts s at (text c) next (fine c)
        row_back s at c next e =
            let k = both_found (f s at) (λ a next. g a s next) c next e in
            let p = (one.finds s).back at k.left k.next k.first in
            let q = ((two k.left).finds s).back k.next k.right next k.second in
            let j = joins.join k.left k.right p.fine-is q.fine-is in
            rw (← k.made_is) (record {
              reaches = rw j.0 (reach_join s at (text₁ k.left) (text₂ k.right) k.next next p.reaches q.reaches);
              fine-is = j.1;
            })

        row_forth : (s : Text) (at : ℕ) (c : C) → Stands s at (text c) → fine c ≡ true → row s at ≡ found c (at + length (text c))
        unfolding both made
        row_forth s at c st h =
            let p = joins.split c h in
            let l = text₁ p.0 in
            let r = text₂ p.1 in
            let t : text c ≡ l ++ r = ap text (sym p.2) ∙ (joins.join p.0 p.1 p.3 p.4).0 in
            let w : Stands s at (l ++ r) = rw t at st in
            rw (
              (one.finds s).forth at p.0 (stands_left s at l r w) p.3,
              ((two p.0).finds s).forth (at + length l) p.1 (stands_right s at l r w) p.4,
              t,
              p.2,
              ends_join,
            )

        -- two parts in a row, the second by what the first finds
        pub row_part : Part row text fine
        row_part = record {
          some =
              let a = one.some in
              let b = (two a.0).some in
              (make a.0 b.0, (joins.join a.0 b.0 a.1 b.1).1);
          finds = λ s. record { back = row_back s; forth = row_forth s };
          fails = λ s at b e.
              ⊎_elim
              (λ k. first_fails s at b (λ a. (two a).some) k)
              (λ k. second_fails s at b k.0 k.1 k.2 ((two k.0).fails s k.1 b k.3))
              (both_missing (f s at) (λ a next. g a s next) b e);
        }

-- ---- what is made of a part
module _ {A C : Type 0} (to : A → C) where
  module _ {f : Text → ℕ → Read A} {text₁ : A → Text} {fine₁ : A → Bool} (one : Part f text₁ fine₁) (text : C → Text) (fine : C → Bool)
      (join : (a : A) → fine₁ a ≡ true → (text (to a) ≡ text₁ a) × (fine (to a) ≡ true))
      (split : (c : C) → fine c ≡ true → (a : A) × (to a ≡ c) × (fine₁ a ≡ true))
    where
      made_forth : (s : Text) (at : ℕ) (c : C) → Stands s at (text c) → fine c ≡ true → made to (f s at) ≡ found c (at + length (text c))
      unfolding made
      made_forth s at c st h =
          let p = split c h in
          let t : text c ≡ text₁ p.0 = ap text (sym p.1) ∙ (join p.0 p.2).0 in
          let w : Stands s at (text₁ p.0) = rw t at st in
          rw ((one.finds s).forth at p.0 w p.2, t, p.1)

      -- what is made of the values of a part, each text being that of one value
      pub made_part : Part (λ s at. made to (f s at)) text fine
      made_part = record {
        some = let a = one.some in (to a.0, (join a.0 a.1).1);
        finds = λ s. record {
          back = λ at c next e.
              let k = made_found to (f s at) c next e in
              let p = (one.finds s).back at k.0 next k.1 in
              let j = join k.0 p.fine-is in
              rw (← k.2) (record { reaches = rw j.0 (p.reaches); fine-is = j.1 });
          forth = made_forth s;
        };
        fails = λ s at b e.
            let k = one.fails s at b (made_missing to (f s at) b e) in
            record {
              goes = let g = k.goes in let j = join g.0 g.1 in (to g.0, j.1, rw j.0 g.2);
              stays = λ c h. let p = split c h in rw (← p.1, (join p.0 p.2).0) (k.stays p.0 p.2);
            };
      }

-- the same values, said to be right in other words
module _ {A : Type 0} {f : Text → ℕ → Read A} {text₁ : A → Text} {fine₁ : A → Bool} (one : Part f text₁ fine₁) (text : A → Text) (fine : A → Bool)
    (to : (a : A) → fine₁ a ≡ true → (text a ≡ text₁ a) × (fine a ≡ true)) (from : (a : A) → fine a ≡ true → fine₁ a ≡ true)
  where
    pub same_part : Part f text fine
    same_part = record {
      some = let a = one.some in (a.0, (to a.0 a.1).1);
      finds = λ s. record {
        back = λ at a next e.
            let p = (one.finds s).back at a next e in
            let j = to a p.fine-is in
            record { reaches = rw j.0 (p.reaches); fine-is = j.1 };
        forth = λ at a st h. let t = (to a (from a h)).0 in rw t ((one.finds s).forth at a (rw t at st) (from a h));
      };
      fails = λ s at b e.
          let k = one.fails s at b e in
          record {
            goes = let g = k.goes in let j = to g.0 g.1 in (g.0, j.1, rw j.0 g.2);
            stays = λ a h. rw ((to a (from a h)).0) (k.stays a (from a h));
          };
    }

-- ---- the one or the other
module _ {A : Type 0} where
  -- the byte that the better of two reaches
  either_furthest : {text : A → Text} {fine₁ fine₂ : A → Bool} {s : Text} {at b c : ℕ} → Furthest text fine₁ s at b → Furthest text fine₂ s at c
      → Furthest text (λ a. fine₁ a || fine₂ a) s at (max b c)
  either_furthest {fine₁ = fine₁} {fine₂ = fine₂} {b = b} {c = c} p q = record {
    goes =
        let g = p.goes in
        let k = q.goes in
        by_test (leb b c)
        (λ w. (k.0, rw (k.1, or-true), omega (arith, leb-true b c w, k.2)))
        (λ w. (g.0, rw g.1, omega (arith, leb-false b c w, g.2)));
    stays = λ a h.
        by_test (fine₁ a)
        (λ w. omega (arith, p.stays a w))
        (λ w. omega (arith, q.stays a (rw w at h)));
  }

  either_missing : (p q : Read A) (b : ℕ) → either p q ≡ missing b → (c : ℕ) × (d : ℕ) × (p ≡ missing c) × (q ≡ missing d) × (max c d ≡ b)
  unfolding either
  either_missing (found a t) q b e = absurd (missing≢found (sym e))
  either_missing (missing c) (found a t) b e = absurd (missing≢found (sym e))
  either_missing (missing c) (missing d) b e = (c, d, refl, refl, missing-is e)

  either_found : (p q : Read A) (a : A) (end : ℕ) → either p q ≡ found a end → (p ≡ found a end) ⊎ (q ≡ found a end)
  unfolding either
  either_found (found c t) q a end e = inl e
  either_found (missing c) (found d t) a end e = inr e
  either_found (missing c) (missing d) a end e = absurd (missing≢found e)

  module _ {f g : Text → ℕ → Read A} {text : A → Text} {fine₁ fine₂ : A → Bool} (one : Part f text fine₁) (two : Part g text fine₂)
      (apart : (a c : A) → fine₁ a ≡ true → fine₂ c ≡ true → (s : Text) (at : ℕ) → Stands s at (text a) → Stands s at (text c) → ⊥)
    where
      second_forth : (s : Text) (at : ℕ) (c : A) → Stands s at (text c) → fine₂ c ≡ true → (p : Read A) → f s at ≡ p
          → either p (g s at) ≡ found c (at + length (text c))
      unfolding either
      second_forth s at c st h (found a t) e = let r = (one.finds s).back at a t e in absurd (apart a c r.fine-is h s at r.reaches.stands st)
      second_forth s at c st h (missing b) e = rw ((two.finds s).forth at c st h)

      -- the one or the other of two parts whose texts never stand at one place
      pub either_part : Part (λ s at. either (f s at) (g s at)) text (λ a. fine₁ a || fine₂ a)
      unfolding either
      either_part = record {
        some = let a = one.some in (a.0, rw a.1);
        finds = λ s. record {
          back = λ at a next e.
              ⊎_elim
              (λ k. let r = (one.finds s).back at a next k in record { reaches = r.reaches; fine-is = rw r.fine-is })
              (λ k. let r = (two.finds s).back at a next k in record { reaches = r.reaches; fine-is = rw (r.fine-is, or-true) })
              (either_found (f s at) (g s at) a next e);
          forth = λ at a st h.
              by_test (fine₁ a)
              (λ w. rw ((one.finds s).forth at a st w))
              (λ w. second_forth s at a st (rw w at h) (f s at) refl);
        };
        fails = λ s at b e.
            let k = either_missing (f s at) (g s at) b e in
            rw (← k.4) (either_furthest (one.fails s at k.0 k.2) (two.fails s at k.1 k.3));
      }
