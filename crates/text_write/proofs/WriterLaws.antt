-- What the writer of a text leaves, text after text.
use Prim.Native.Nat.{◌+◌, ◌≤◌}
use mathlib.Core.Path.{◌≡◌, ◌∙◌}
use mathlib.Core.List.{◌++◌}
use lib.ListN.{length}
use lib.Seq.{length-sets}
use Rattle.text.specs.Bytes.{Text}
use Rattle.text.proofs.LaidLaws.{Laid, laid_then, laid_front}
use Rattle.text_write.specs.Place.{written, Lays}
use Rattle.text_write.specs.declared.Writer.{Writer}

module _ (text : Text) {old new : Writer} (h : Lays text old new) where
  -- as many bytes as before
  pub lays_room : length new.out.now ≡ length old.out.now
  lays_room = rw h.bytes (length-sets old.out.now old.at text)

  -- over the bytes themselves
  pub laid_by : Laid text old.out.now old.at new.at new.out.now
  laid_by = (h.place, h.bytes)

  -- the text stands behind what stood before the place
  pub lays_behind : old.at + length text ≤ length old.out.now → written new ≡ written old ++ text
  lays_behind fits = laid_front text old.out.now old.at laid_by fits

-- one text after another
pub lays_both : (a b : Text) {old mid new : Writer} → Lays a old mid → Lays b mid new → Lays (a ++ b) old new
lays_both a b {old} p q =
    let l = laid_then a b old.out.now old.at (laid_by a p) (laid_by b q) in
    record { place = l.0; bytes = l.1; lent = q.lent ∙ p.lent }
