-- A line of one of two keys and a number.
use Rattle.std.specs.Prelude.{ℕ, ◌+◌, Bool, length}
use Rattle.text.specs.Bytes.{Text, lf}
use Rattle.text.specs.Number.{Read, made, either, number, item}
use Rattle.text.specs.Printed.{number_text}
use Rattle.text.specs.Lines.{Outcome, judged, behind}
use Rattle.text.specs.declared.Keyed.{Keyed}
use Rattle.text.specs.declared.Keyed.TheVariants.{Former, Latter}

-- f or g of the number, by its key
abbrev pub by_key : {B : Type 0} → (ℕ → B) → (ℕ → B) → Keyed → B
by_key f g (Former n) = f n
by_key f g (Latter n) = g n

module _ (one two : Text) where
  abbrev pub keyed_text : Keyed → Text
  keyed_text = by_key (number_text one) (number_text two)

  -- where its number begins, in a line that begins at `at`
  abbrev pub keyed_out : ℕ → Keyed → ℕ
  keyed_out at = by_key (λ n. at + length one) (λ n. at + length two)

  unfoldable pub keyed_form : Text → ℕ → Read Keyed
  keyed_form s at = either (made Former (behind one (item number lf) s at)) (made Latter (behind two (item number lf) s at))

  -- the line of the key `one` or `two` and a number, each in a range of its own
  unfoldable pub read_keyed : (ℕ → Bool) → (ℕ → Bool) → Text → ℕ → Outcome Keyed
  read_keyed range₁ range₂ s at = judged (by_key range₁ range₂) (keyed_out at) at (keyed_form s at)
