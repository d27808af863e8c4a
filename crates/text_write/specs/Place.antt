-- The place that the writer of a text has reached.
use Rattle.std.specs.Prelude.{◌≡◌, ◌+◌, length, take}
use Rattle.std.proofs.lemmas.List.Edits.{sets}
use Rattle.text.specs.Bytes.{Text}
use Rattle.text_write.specs.declared.Writer.{Writer}

-- the bytes up to the place reached
abbrev pub written : Writer → Text
written w = take w.at w.out.now

-- what laying a text does: it stands over the bytes from the place reached on, the place is behind it, and the writer still has the bytes
-- that it was lent
pub record Lays (text : Text) (old new : Writer) : Type 0 where
  pub place : new.at ≡ old.at + length text
  pub bytes : new.out.now ≡ sets old.out.now old.at text
  pub lent : new.out.ghost_name ≡ old.out.ghost_name
