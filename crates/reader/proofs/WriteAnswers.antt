-- What writing a text and writing a marking answer, by how their parts ended.
use Prim.Native.Nat.{ℕ, ◌≤◌, ◌<◌}
use mathlib.Core.Path.{◌≡◌, refl, ap, sym, ◌∙◌}
use mathlib.Core.List.{List}
use mathlib.Core.Bool.{true, false}
use native.Mathlib.Omega.{arith}
use native.Mathlib.Nat.{zero-add}
use lib.ListN.{length}
use lib.Seq.{sets}
use Rattle.text.specs.Bytes.{Text}
use Rattle.text.specs.Writing.{Laying, lay}
use Rattle.text.specs.declared.TooSmall as small
use Rattle.std.specs.Prelude.{Result, Err, Ok}
use Rattle.text.proofs.Basics.{and_true}
use Rattle.text.proofs.LaidLaws.{lay-whole, lay-short}
use Rattle.model.specs.Limits.{room_limit}
use Rattle.model.specs.Test.{held_model}
use Rattle.model.specs.declared.Model.{Model}
use Rattle.marking.specs.Held.{as_sizes, Roomy, tokens_of, held_marking}
use Rattle.marking.specs.Printed.{marking_text}
use Rattle.marking.specs.declared.Marking.{Marking}
use Rattle.marking.specs.Sizes.{place_sizes}
use Rattle.marking.specs.declared.PlaceSizes.{PlaceSizes}
use Rattle.reader.specs.Answers.{held_both, written_as, Answered, lay_whole, marking_writing, held_in}
use Rattle.reader.proofs.ReadingLaws.{sizes_roomy}
use Rattle.reader.specs.declared.WriteRefusal.{WriteRefusal}
use Rattle.reader.specs.declared.WriteRefusal.TheVariants.{TooSmall, Unheld}

-- ---- a text laid from the first byte on

abbrev as_written : Laying → Answered
as_written l = record { answer = written_as l.answer; bytes = l.bytes }

module _ (text : Text) (out : List ℕ) where
  pub whole-fits : length text ≤ length out → record { answer = Ok (length text); bytes = sets out 0 text } ≡ lay_whole text out
  unfolding lay_whole
  whole-fits h =
      let n = zero-add (length text) in
      ap as_written (lay-whole text out 0 {n = length text} {m = sets out 0 text} (omega (arith, n)) (sym n) refl)

  pub whole-short : length out < length text → record { answer = Err (TooSmall (length text)); bytes = out } ≡ lay_whole text out
  unfolding lay_whole
  whole-short h = let n = zero-add (length text) in ap as_written (lay-short text out 0 {n = length text} (omega (arith, n)) (sym n))

  -- what the writer of a text answers
  pub whole_as : (w : Result ℕ small.TooSmall) (a : Result ℕ WriteRefusal) (after : List ℕ) → a ≡ written_as w → record { answer = w; bytes = after } ≡ lay text out 0
      → record { answer = a; bytes = after } ≡ lay_whole text out
  unfolding lay_whole
  whole_as w a after f l = rw f (ap as_written l)

module _ (m : Model) (k : Marking) where
  -- what the writer of a marking asks
  pub write_asks : held_both m k ≡ true → (z : PlaceSizes) → z ≡ place_sizes m → (held_marking room_limit (as_sizes z) k ≡ true) × Roomy (as_sizes z)
  unfolding held_in
  write_asks h z e = let p = and_true (held_model m) _ h in (rw e p.1, sizes_roomy m p.0 z e)

  module _ (out : List ℕ) where
    -- the two are not held
    pub write_unheld : held_both m k ≡ false → record { answer = Err Unheld; bytes = out } ≡ marking_writing m k out
    unfolding marking_writing
    write_unheld h = rw (h, marking_writing)

    -- the writer of a marking was called
    pub write_laid : held_both m k ≡ true → (z : PlaceSizes) → z ≡ place_sizes m → (w : Result ℕ small.TooSmall) (a : Result ℕ WriteRefusal) (after : List ℕ) → a ≡ written_as w
        → record { answer = w; bytes = after } ≡ lay (marking_text (tokens_of (as_sizes z) k)) out 0
        → record { answer = a; bytes = after } ≡ marking_writing m k out
    unfolding marking_writing
    write_laid h z e w a after f l =
        let text = marking_text (tokens_of (as_sizes z) k) in
        let s : lay_whole text out ≡ marking_writing m k out = rw (h, marking_writing, e) in
        whole_as text out w a after f l ∙ s
