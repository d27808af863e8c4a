-- What was written reads back (01, "Files": a written marking "is read back for a held model"), at the calls.
use Rattle.std.specs.Prelude.{◌≡◌, List, ℕ, ◌≤◌, length, take, Ok}
use Rattle.model.specs.declared.Model.{Model}
use Rattle.marking.specs.declared.Marking.{Marking}
use Rattle.reader.specs.Answers.{marking_reading, marking_writing}

-- of a held marking of a held model, and any lent bytes
pub record ReadsBack (m : Model) (k : Marking) (out : List ℕ) : Type 0 where
  -- where the writer answers n bytes, the first n of the lent bytes after it are accepted, and give the same marking
  pub back : (n : ℕ) → (marking_writing m k out).answer ≡ Ok n
      → marking_reading m (take n (marking_writing m k out).bytes) ≡ Ok k
  -- and 53,002 lent bytes are enough
  pub fits : 53002 ≤ length out → (n : ℕ) × ((marking_writing m k out).answer ≡ Ok n)
