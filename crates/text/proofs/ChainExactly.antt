-- Readings in a row: where each is accepted exactly where it is printed, so is what they make together.
use Prim.Native.Nat.{ℕ, ◌+◌}
use mathlib.Core.Path.{◌≡◌, ap, sym, ◌∙◌, subst, subst₂}
use mathlib.Core.List.{◌++◌}
use mathlib.Core.Bool.{Bool, true}
use lib.ListN.{length}
use Rattle.text.specs.Bytes.{Text}
use Rattle.text.specs.Lines.{Outcome, got, then, need}
use Rattle.text.proofs.Standing.{Stands, Reaches, stands_left, stands_right, ends_join, reach_join}
use Rattle.text.proofs.Exactly.{Exactly, got-is, need-got, then-got}
use Rattle.text.specs.declared.Cause.{Cause}

-- as Exactly, for a Fine that is a proposition: it can say of which earlier values a whole was made
pub record Makes {C : Type 0} (s : Text) (f : ℕ → Outcome C) (text : C → Text) (Fine : C → Type 0) : Type 0 where
  pub reach : (at : ℕ) (c : C) (next : ℕ) → f at ≡ got c next → Reaches s at (text c) next
  pub told : (at : ℕ) (c : C) (next : ℕ) → f at ≡ got c next → Fine c
  pub forth : (at : ℕ) (c : C) → Stands s at (text c) → Fine c → f at ≡ got c (at + length (text c))

-- a Fine that a test decides
pub exactly_by : {C : Type 0} {s : Text} {f : ℕ → Outcome C} {text : C → Text} {Fine : C → Type 0} {fine : C → Bool} → Makes s f text Fine
    → ((c : C) → Fine c → fine c ≡ true) → ((c : C) → fine c ≡ true → Fine c) → Exactly s f text fine
exactly_by m to from = record {
  back = λ at c next e. record { reaches = m.reach at c next e; fine-is = to c (m.told at c next e) };
  forth = λ at c st h. m.forth at c st (from c h);
}

-- the same by another text, which is that of all that is Fine
pub made_as : {C : Type 0} {s : Text} {f : ℕ → Outcome C} {text told : C → Text} {Fine : C → Type 0} → Makes s f text Fine
    → ((c : C) → Fine c → text c ≡ told c) → Makes s f told Fine
made_as {s} m same = record {
  reach = λ at c next e. subst (λ t. Reaches s at t next) (same c (m.told at c next e)) (m.reach at c next e);
  told = m.told;
  forth = λ at c st h. rw (← same c h) (m.forth at c (rw (same c h) st) h);
}

-- what is exact, as what is made
pub made_exactly : {C : Type 0} {s : Text} {f : ℕ → Outcome C} {text : C → Text} {fine : C → Bool} → Exactly s f text fine → Makes s f text (λ c. fine c ≡ true)
made_exactly one = record {
  reach = λ at c next e. (one.back at c next e).reaches;
  told = λ at c next e. (one.back at c next e).fine-is;
  forth = one.forth;
}

module _ {A C : Type 0} {s : Text} {f : ℕ → Outcome A} {text : A → Text} {fine : A → Bool} (one : Exactly s f text fine) where
  module _ (test : A → Bool) (cause : Cause) (make : A → C) (part : C → A) (again : (a : A) → fine a ≡ true → part (make a) ≡ a) where
    abbrev Last : C → Type 0
    Last c = (fine (part c) ≡ true) × (test (part c) ≡ true) × (make (part c) ≡ c)

    of_last : (a : A) (c : C) → make a ≡ c → fine a ≡ true → test a ≡ true → Last c
    of_last a c e h t = let k : a ≡ part c = sym (again a h) ∙ ap part e in (rw (← k) h, rw (← k) t, rw (← k) e)

    -- the last reading, a test of what it gives, and the whole that is made of it; `part` finds again what it was made of
    pub last_makes : Makes s (λ at. then (f at) λ a next. need (test a) cause at (got (make a) next)) (λ c. text (part c)) Last
    unfolding then need
    last_makes = record {
      reach = λ at c next e.
          let p = then-got (f at) _ c next e in
          let q = need-got (test p.value) cause at (got (make p.value) p.next) c next p.rest in
          let k = got-is q.1 in
          let b = one.back at p.value p.next p.first in
          let v : p.value ≡ part c = sym (again p.value b.fine-is) ∙ ap part k.0 in
          subst₂ (λ a n. Reaches s at (text a) n) v k.1 b.reaches;
      told = λ at c next e.
          let p = then-got (f at) _ c next e in
          let q = need-got (test p.value) cause at (got (make p.value) p.next) c next p.rest in
          of_last p.value c (got-is q.1).0 (one.back at p.value p.next p.first).fine-is q.0;
      forth = λ at c st h. rw (one.forth at (part c) st h.0, h.1, h.2);
    }

  module _ {rest : A → ℕ → Outcome C} {others : C → Text} {Fine : A → C → Type 0} (two : (a : A) → Makes s (rest a) others (Fine a))
      (part : C → A) (again : (a : A) (c : C) → fine a ≡ true → Fine a c → a ≡ part c)
    where
      -- a reading before others, which depend on what it gives
      pub first_makes : Makes s (λ at. then (f at) rest) (λ c. text (part c) ++ others c) (λ c. (fine (part c) ≡ true) × Fine (part c) c)
      unfolding then
      first_makes = record {
        reach = λ at c next e.
            let p = then-got (f at) rest c next e in
            let b = one.back at p.value p.next p.first in
            let v : p.value ≡ part c = again p.value c b.fine-is ((two p.value).told p.next c next p.rest) in
            reach_join s at (text (part c)) (others c) p.next next
            (subst (λ a. Reaches s at (text a) p.next) v b.reaches) ((two p.value).reach p.next c next p.rest);
        told = λ at c next e.
            let p = then-got (f at) rest c next e in
            let b = (one.back at p.value p.next p.first).fine-is in
            let r = (two p.value).told p.next c next p.rest in
            let v : p.value ≡ part c = again p.value c b r in
            (subst (λ a. fine a ≡ true) v b, subst (λ a. Fine a c) v r);
        forth = λ at c st h.
            let a = text (part c) in
            rw (
              one.forth at (part c) (stands_left s at a (others c) st) h.0,
              (two (part c)).forth (at + length a) c (stands_right s at a (others c) st) h.1,
              ends_join,
            );
      }
