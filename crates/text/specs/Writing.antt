-- Writing a text into a lent buffer (01's cause 13): whole, or no byte and the number of bytes needed.
use Rattle.std.specs.Prelude.{true, false, List, ℕ, ◌+◌, leb, length, Result, Ok, Err}
use Rattle.std.proofs.lemmas.List.Edits.{sets}
use Rattle.text.specs.Bytes.{Text}
use Rattle.text.specs.declared.TooSmall.{TooSmall}

-- what the writer answers, where the text ends or how many bytes it needs, and the lent bytes after it
pub record Laying : Type 0 where
  pub answer : Result ℕ TooSmall
  pub bytes : List ℕ

-- the text laid over the bytes from `at` on, and where it ends; where it does not fit, no byte is touched
unfoldable pub lay : Text → List ℕ → ℕ → Laying
lay text out at =
    elim (leb (at + length text) (length out)) [
      | true ↦ record { answer = Ok (at + length text); bytes = sets out at text }
      | false ↦ record { answer = Err (record { needed = at + length text }); bytes = out }
    ]
