-- A reading to the end of a text: nothing stands behind the last line.
use Prim.Native.Nat.{ℕ, ◌≤◌}
use mathlib.Core.Path.{◌≡◌, refl, ◌∙◌}
use mathlib.Core.Logic.{◌↔◌}
use mathlib.Core.Bool.{Bool, true}
use native.Mathlib.Nat.{le_refl}
use lib.Dec.{leb}
use lib.ListN.{length}
use borrow.Author.Tests.{leb-true, le-leb}
use Rattle.std.specs.Prelude.{Result}
use Rattle.std.specs.declared.result.Result.TheVariants.{Ok, Err}
use Rattle.text.specs.Bytes.{Text}
use Rattle.text.specs.Lines.{Outcome, got, then, need}
use Rattle.text.specs.Answers.{kept, accepted}
use Rattle.text.specs.declared.Fault.{Fault}
use Rattle.text.specs.declared.Cause.TheVariants.{Syntax}
use Rattle.text.proofs.Basics.{by_test}
use Rattle.text.proofs.Exactly.{Exactly, got-is, need-got, then-got}
use Rattle.text.proofs.Unique.{reads_back, was_printed}
use Rattle.text_reader.specs.Place.{Reads, lent, closed}
use Rattle.text_reader.specs.declared.Reader.{Reader}
use Rattle.text_reader.proofs.ReadsLaws.{first_refused, followed}
use Rattle.reader.specs.Reading.{read_end}

-- ---- what is accepted

module _ {A : Type 0} where
  -- what is accepted to the end of the text
  pub ended : (o : Outcome A) (s : Text) (a : A) (next : ℕ) → then o (read_end s) ≡ got a next → (o ≡ got a next) × (length s ≤ next)
  unfolding read_end
  ended o s a next e =
      let p = then-got o (read_end s) a next e in
      let q = need-got (leb (length s) p.next) Syntax p.next (got p.value p.next) a next p.rest in
      let k = got-is q.1 in
      (p.first ∙ rw (k.0, k.1), leb-true (length s) next (rw k.1 at q.0))

  pub to_end_lem : (o : Outcome A) (s : Text) (a : A) → o ≡ got a (length s) → then o (read_end s) ≡ got a (length s)
  unfolding then read_end need
  to_end_lem o s a e = rw (e, le-leb (length s) (length s) (le_refl (length s)))

module _ {A : Type 0} (read : Text → ℕ → Outcome A) (text : A → Text) (fine : A → Bool) (exact : (s : Text) → Exactly s (read s) text fine) where
  -- where lines are accepted exactly where they are printed, a whole text that is accepted was printed
  pub whole_printed : (s : Text) (a : A) (next : ℕ) → then (read s 0) (read_end s) ≡ got a next → (s ≡ text a) × (fine a ≡ true)
  whole_printed s a next e = let p = ended (read s 0) s a next e in was_printed read text fine exact s a next p.0 p.1

  -- and it is accepted exactly where it was
  pub whole_exactly : (s : Text) (a : A) → (then (read s 0) (read_end s) ≡ got a (length s)) ↔ ((s ≡ text a) × (fine a ≡ true))
  whole_exactly s a = (whole_printed s a (length s), λ h. to_end_lem (read s 0) s a (rw h.0 (reads_back read text fine exact a h.1)))

-- ---- what is held, into lent memory

module _ {A B : Type 0} (f : A → B) (o : Outcome A) (old new : Reader) where
  -- a line is refused
  pub refused_to_end : (e : Fault) → Reads (kept f o) old new (Err e) → Err e ≡ accepted (kept f (then o (read_end old.src.now)))
  refused_to_end e k = (first_refused f f o (λ s. read_end s) e k).answers

  -- the end behind lines that were read
  closes : (a : A) → Reads (kept f (read_end new.src.now a new.at)) new new (lent (f a) (accepted (closed new.src.now new.at)))
  unfolding accepted kept closed read_end need
  closes a =
      by_test (leb (length new.src.now) new.at)
      (λ t. rw t (record { answers = refl; stands = refl }))
      (λ t. rw t (record { answers = refl; stands = refl }))

  -- behind lines that ended where they did, it is the reading of the whole text
  pub read_to_end : (b : B) → Reads (kept f o) old new (Ok b) → (end : Result (Unit {0}) Fault) → end ≡ accepted (closed new.src.now new.at)
      → lent b end ≡ accepted (kept f (then o (read_end old.src.now)))
  read_to_end b k end e = (followed f f o (λ s. read_end s) {new = new} b (lent b end) k (λ a is held. rw (held, e) (closes a))).answers
