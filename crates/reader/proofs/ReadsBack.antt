-- What was written reads back, at the call: the bytes that the writer says it wrote. And a buffer of 53,002 bytes is enough.
use Prim.Native.Nat.{ℕ, ◌≤◌}
use mathlib.Core.Path.{◌≡◌, refl, ap, sym, ◌∙◌}
use mathlib.Core.Bool.{true}
use mathlib.Core.List.{List}
use native.Mathlib.Omega.{arith}
use native.Mathlib.Nat.{zero-add}
use lib.ListN.{length, take}
use Rattle.text.specs.Bytes.{Text}
use Rattle.text.proofs.Basics.{by_test, by_le, and_true}
use Rattle.text.proofs.LaidLaws.{laid_front}
use Rattle.model.specs.Test.{held_model}
use Rattle.model.specs.declared.Model.{Model}
use Rattle.model.proofs.HeldTests.{held-is, most-places}
use Rattle.marking.specs.Held.{SizedMarking, tokens_of}
use Rattle.marking.specs.Printed.{marking_text}
use Rattle.marking.specs.Sizes.{sizes_for}
use Rattle.marking.specs.declared.Marking.{Marking}
use Rattle.marking.proofs.SizeLaws.{held_roomy}
use Rattle.marking.proofs.WriteLaws.{held_text_length}
use Rattle.reader.specs.Answers.{Answered, marking_reading, held_both, lay_whole, marking_writing, held_in}
use Rattle.reader.proofs.WriteAnswers.{whole-fits, whole-short}
use Rattle.reader.proofs.HeldExactly.{written_reads_back}
use Rattle.std.specs.Prelude.{Ok, Result, Err}
use Rattle.reader.specs.declared.WriteRefusal.{WriteRefusal}

refused≢written : {G : Type 0} {n : ℕ} {e : WriteRefusal} → ◌≡◌ {A = Result ℕ WriteRefusal} (Err e) (Ok n) → G
refused≢written h = let z : ◌≡◌ {A = ℕ} 0 1 = cc in absurd (omega arith)

-- a text that was laid whole stands in the first bytes
laid_stands : (text : Text) (out : List ℕ) (n : ℕ) → (lay_whole text out).answer ≡ Ok n → take n (lay_whole text out).bytes ≡ text
laid_stands text out n e =
    by_le (length text) (length out)
    (λ h.
    let w : ◌≡◌ {A = Result ℕ WriteRefusal} (Ok (length text)) (Ok n) = rw (← whole-fits text out h) at e in
    let z : length text ≡ n = cc in
    rw (← whole-fits text out h) (laid_front text out 0 (sym z ∙ sym (zero-add (length text)), refl) (omega (arith, zero-add (length text)))))
    (λ h. refused≢written (rw (← whole-short text out h) at e))

module _ (m : Model) (k : Marking) (out : List ℕ) where
  abbrev text : Text
  text = marking_text (tokens_of (sizes_for m) k)

  held_writes : held_both m k ≡ true → marking_writing m k out ≡ lay_whole text out
  unfolding marking_writing
  held_writes h = rw (h, marking_writing)

  -- what is not held is not written
  written_held : (n : ℕ) → (marking_writing m k out).answer ≡ Ok n → held_both m k ≡ true
  unfolding marking_writing
  written_held n e = by_test (held_both m k) (λ h. h) (λ h. refused≢written (rw (h, marking_writing) at e))

  module _ (sized : SizedMarking k) where
    -- where the writer answers n bytes, the first n of the lent bytes are accepted as the same marking
    pub writing_reads_back : (n : ℕ) → (marking_writing m k out).answer ≡ Ok n
        → marking_reading m (take n (marking_writing m k out).bytes) ≡ Ok k
    writing_reads_back n e =
        let h = written_held n e in
        let w = held_writes h in
        let s : take n (marking_writing m k out).bytes ≡ text =
        ap (λ (a : Answered). take n a.bytes) w ∙ laid_stands text out n (ap (λ (a : Answered). a.answer) (sym w) ∙ e) in
        ap (marking_reading m) s ∙ written_reads_back m k sized h

    -- a held marking is written into any buffer of 53,002 bytes
    pub writing_fits : held_both m k ≡ true → 53002 ≤ length out → (n : ℕ) × ((marking_writing m k out).answer ≡ Ok n)
    unfolding held_in
    writing_fits h long =
        let a = and_true (held_model m) _ h in
        let n = held_text_length (sizes_for m) (held_roomy m a.0) (omega (arith, most-places m (held-is m a.0))) k sized a.1 in
        (length text, ap (λ (a : Answered). a.answer) (held_writes h ∙ sym (whole-fits text out (omega arith))))
