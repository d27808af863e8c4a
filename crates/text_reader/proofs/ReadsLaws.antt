-- What functions over the reader of a file read, by what the readings in them say: one after the other, each where the one before has
-- ended, up to the first that is refused.
use Prim.Native.Nat.{ℕ, ◌≤◌}
use mathlib.Core.List.{List}
use mathlib.Core.Bool.{false}
use lib.Dec.{leb}
use Rattle.text.specs.Number.{signed_if}
use Rattle.text.specs.Printed.{signed_text}
use Rattle.text.specs.Lines.{modest, read_row, read_list}
use Rattle.text.specs.Values.{number_in}
use Rattle.text.specs.Answers.{padded, row}
use Rattle.text.proofs.ListLaws.{numbers_row}
use mathlib.Core.Path.{◌≡◌, refl, sym, ap, subst, ◌∙◌}
use native.Mathlib.Omega.{arith}
use Rattle.std.specs.Prelude.{Result}
use Rattle.std.specs.declared.result.Result.TheVariants.{Ok, Err}
use Rattle.text.specs.Bytes.{Text}
use Rattle.text.specs.Lines.{Outcome, got, bad, then}
use Rattle.text.specs.Answers.{kept, parsed, accepted}
use Rattle.text.specs.declared.Fault.{Fault}
use Rattle.text.specs.declared.Parsed.{Parsed}
use Rattle.text_reader.specs.Place.{placed, Reads}
use Rattle.text_reader.specs.declared.Reader.{Reader}

-- ---- a place

-- in the same bytes a place is the same
pub placed_same : (a b : Reader) → a.src ≡ b.src → (x : ℕ) → placed a x ≡ placed b x
placed_same a b same x = ap (λ (s : _). record { src = s; at = x }) same

-- ---- an outcome

module _ {A : Type 0} {old new : Reader} (o : Outcome A) where
  pub at_got : (a : A) → o ≡ got a new.at → new.src ≡ old.src → Reads o old new (Ok a)
  unfolding accepted
  at_got a e same = rw e (record { answers = refl; stands = ap (λ (s : _). record { src = s; at = new.at }) same })

  pub at_bad : (e : Fault) → o ≡ bad e → new ≡ placed old e.at → Reads o old new (Err e)
  unfolding accepted
  at_bad e is stands = rw is (record { answers = refl; stands = stands })

-- ---- one reading

-- a value that was read up to a place, as it is held
pub record Read {A B : Type 0} (f : A → B) (o : Outcome A) (old new : Reader) (b : B) : Type 0 where
  pub value : A
  pub is : o ≡ got value new.at
  pub held : b ≡ f value
  pub moved : new ≡ placed old new.at

-- a reading that is refused: the reader stands at the line at fault
pub record Refused {A : Type 0} (o : Outcome A) (old new : Reader) (e : Fault) : Type 0 where
  pub is : o ≡ bad e
  pub stands : new ≡ placed old e.at

module _ {A B : Type 0} (f : A → B) {old new : Reader} where
  pub read_of : (o : Outcome A) (b : B) → Reads (kept f o) old new (Ok b) → Read f o old new b
  unfolding kept accepted
  read_of (got a next) b h =
      let p : b ≡ f a = by_ok h.answers in
      let at : new.at ≡ next = ap (λ (r : Reader). r.at) h.stands in
      record { value = a; is = rw at; held = p; moved = h.stands ∙ ap (placed old) (sym at) }
    where
      by_ok : ◌≡◌ {A = Result B Fault} (Ok b) (Ok (f a)) → b ≡ f a
      by_ok e = cc
  read_of (bad d) b h = let e = h.answers in let z : ◌≡◌ {A = ℕ} 0 1 = cc in absurd (omega arith)

  pub refused_of : (o : Outcome A) (e : Fault) → Reads (kept f o) old new (Err e) → Refused o old new e
  unfolding kept accepted
  refused_of (got a next) e h = let k = h.answers in let z : ◌≡◌ {A = ℕ} 0 1 = cc in absurd (omega arith)
  refused_of (bad d) e h = let k = h.answers in let p : d ≡ e = cc in record { is = ap bad p; stands = h.stands ∙ ap (λ (c : Fault). placed old c.at) p }

  pub passes : (o : Outcome A) (a : A) → o ≡ got a new.at → new ≡ placed old new.at → Reads (kept f o) old new (Ok (f a))
  unfolding kept accepted
  passes o a e m = rw e (record { answers = refl; stands = m })

  pub fails : (o : Outcome A) (e : Fault) → o ≡ bad e → new ≡ placed old e.at → Reads (kept f o) old new (Err e)
  unfolding kept accepted
  fails o e is stands = rw is (record { answers = refl; stands = stands })

-- a value that is held as it is
module _ {A : Type 0} where
  abbrev pub itself : A → A
  itself a = a

  plain_is : (o : Outcome A) → kept itself o ≡ o
  unfolding kept
  plain_is (got a next) = refl
  plain_is (bad e) = refl

  module _ {old new : Reader} {o : Outcome A} {r : Result A Fault} where
    pub plainly : Reads o old new r → Reads (kept itself o) old new r
    plainly h = rw (plain_is o) h

-- ---- from what stands in the text

module _ {A : Type 0} {old : Reader} (o : Outcome A) (read : Result (Parsed A) Fault) where
  pub take_refused : (e : Fault) → read ≡ parsed o → read ≡ Err e → Reads o old (placed old e.at) (Err e)
  unfolding parsed accepted
  take_refused e is was = go o (sym is ∙ was)
    where
      go : (o : Outcome A) → parsed o ≡ Err e → Reads o old (placed old e.at) (Err e)
      go (got a next) k = let z : ◌≡◌ {A = ℕ} 0 1 = cc in absurd (omega arith)
      go (bad d) k = let z : d ≡ e = cc in rw z (record { answers = refl; stands = refl })

  pub take_read : (p : Parsed A) → read ≡ parsed o → read ≡ Ok p → Reads o old (placed old p.end) (Ok p.value)
  unfolding parsed accepted
  take_read p is was = go o (sym is ∙ was)
    where
      go : (o : Outcome A) → parsed o ≡ Ok p → Reads o old (placed old p.end) (Ok p.value)
      go (got a next) k = let z : p ≡ record { value = a; end = next } = cc in rw z (record { answers = refl; stands = refl })
      go (bad d) k = let z : ◌≡◌ {A = ℕ} 0 1 = cc in absurd (omega arith)

-- a line of n numbers, which are held as they are
pub list_read : (most hi : ℕ) (key : Text) (n : ℕ) (s : Text) (at : ℕ) {old new : Reader} {r : Result (List ℕ) Fault} → hi ≤ most
    → Reads (kept (row (number_in most)) (read_row (signed_if false) signed_text key n (modest hi) s at)) old new r
    → Reads (kept padded (read_list key n (λ v. leb v hi) s at)) old new r
list_read most hi key n s at {old} {new} {r} h k = subst (λ (o : Outcome (List ℕ)). Reads o old new r) (numbers_row most hi h n s key at) k

-- ---- one after the other

-- the same bytes, read from a place that was reached
module _ {A : Type 0} {old mid new : Reader} (same : mid.src ≡ old.src) where
  pub from_same : (o : Outcome A) (r : Result A Fault) → Reads o mid new r → Reads o old new r
  from_same (got a next) r h = record { answers = h.answers; stands = h.stands ∙ placed_same mid old same next }
  from_same (bad e) r h = record { answers = h.answers; stands = h.stands ∙ placed_same mid old same e.at }

module _ {A B C D : Type 0} (f : A → B) (h : C → D) (o : Outcome A) (g : Text → A → ℕ → Outcome C) {old : Reader} where
  pub first_refused : {new : Reader} (e : Fault) → Reads (kept f o) old new (Err e) → Reads (kept h (then o (g old.src.now))) old new (Err e)
  unfolding then
  first_refused e k = let r = refused_of f o e k in fails h _ e (rw r.is) r.stands

  pub followed : {mid new : Reader} (b : B) (r : Result D Fault) → Reads (kept f o) old mid (Ok b)
      → ((a : A) → o ≡ got a mid.at → b ≡ f a → Reads (kept h (g mid.src.now a mid.at)) mid new r) → Reads (kept h (then o (g old.src.now))) old new r
  unfolding then
  followed {mid} {new} b r k next =
      let q = read_of f o b k in
      let same : mid.src ≡ old.src = ap (λ (x : Reader). x.src) q.moved in
      let rest : Reads (kept h (g mid.src.now q.value mid.at)) old new r = from_same same (kept h (g mid.src.now q.value mid.at)) r (next q.value q.is q.held) in
      rw (q.is) (subst (λ (x : _). Reads (kept h (g x.now q.value mid.at)) old new r) same rest)
