-- The lines of a listing before its net-tokens: of which parts they are made, and how long they are at most.
use Prim.Native.Nat.{ℕ, ◌+◌, ◌^◌, ◌≤◌, ◌<◌}
use mathlib.Core.Path.{◌≡◌, refl, ap}
use mathlib.Core.Bool.{Bool, cond}
use mathlib.Core.List.{◌++◌}
use native.Mathlib.Omega.{arith}
use lib.ListN.{length, length-append}
use lib.IntN.{ℤ, pos, negsuc, nat_abs}
use lib.Signed.{◌≤ℤ◌, ◌<ℤ◌}
use Rattle.std.proofs.lemmas.Int.{ints}
use Rattle.text.specs.Bytes.{Text, bytes}
use Rattle.text.specs.Lists.{stop_of}
use Rattle.text.specs.Printed.{decimal, signed_text, items_text, end_text, number_text, list_text, weights_text}
use Rattle.text.proofs.DecimalLaws.{length-below}
use Rattle.text.proofs.TextLengths.{number-length}
use Rattle.text_write.specs.Place.{Lays}
use Rattle.text_write.specs.declared.Writer.{Writer}
use Rattle.text_write.proofs.WriterLaws.{lays_both}
use Rattle.eos.specs.Causes.{Refusal}
use Rattle.listing.specs.Listing.{triple_text, sum_text, cover_text}

-- the line of a number of 64 bits
pub long-line : (key : Text) (n : ℕ) → n < 2 ^ 64 → length (number_text key n) ≤ length key + 21
long-line key n h = number-length key 19 n (omega arith)

-- a text laid as a line of at most so many bytes
pub lays_as : (text line : Text) (most : ℕ) {old new : Writer} → text ≡ line → length line ≤ most → Lays line old new
    → Lays text old new × (new.at ≤ old.at + most)
lays_as text line most e n l = rw e (l, omega (arith, l.place))

-- ---- a triple
module _ (key : Text) (r : Refusal) where
  -- what stands behind its number
  abbrev behind_number : Text
  behind_number = bytes "," ++ (decimal r.beside ++ number_text (bytes ",") r.column)

  triple_parts : triple_text key r ≡ key ++ (decimal r.number ++ behind_number)
  unfolding triple_text list_text end_text items_text stop_of number_text
  triple_parts = refl

  pub triple-length : r.number < 2 ^ 8 → r.beside < 2 ^ 64 → r.column < 2 ^ 64 → length (triple_text key r) ≤ length key + 46
  triple-length p q t =
      omega (
        arith,
        ap length triple_parts,
        length-append key (decimal r.number ++ behind_number),
        length-append (decimal r.number) behind_number,
        length-append (decimal r.beside) (number_text (bytes ",") r.column),
        length-below 2 r.number (omega arith),
        length-below 19 r.beside (omega arith),
        long-line (bytes ",") r.column t,
      )

  pub lays_triple : {w a b c d e : Writer} → Lays key w a → Lays (decimal r.number) a b → Lays (bytes ",") b c → Lays (decimal r.beside) c d
      → Lays (number_text (bytes ",") r.column) d e → Lays (triple_text key r) w e
  lays_triple f g h i j =
      rw triple_parts
      (lays_both key (decimal r.number ++ behind_number) f
      (lays_both (decimal r.number) behind_number g
      (lays_both (bytes ",") (decimal r.beside ++ number_text (bytes ",") r.column) h
      (lays_both (decimal r.beside) (number_text (bytes ",") r.column) i j))))

-- ---- the sum

pub sum_below : (z : ℤ) (n : ℕ) → n ≡ nat_abs z → z <ℤ pos 0 → sum_text z ≡ number_text (bytes "sum=-") n
unfolding sum_text weights_text end_text items_text signed_text stop_of number_text
sum_below (pos k) n e h = absurd (omega (arith, ints, h))
sum_below (negsuc k) n e h = rw e

pub sum-above : (z : ℤ) (n : ℕ) → n ≡ nat_abs z → pos 0 ≤ℤ z → sum_text z ≡ number_text (bytes "sum=") n
unfolding sum_text weights_text end_text items_text signed_text stop_of number_text
sum-above (pos k) n e h = rw e
sum-above (negsuc k) n e h = absurd (omega (arith, ints, h))

-- ---- the cover

pub cover_length : (n : ℕ) → n < 10 → length (number_text (bytes "cover=") n) ≤ 8
cover_length n h = number-length (bytes "cover=") 0 n h

pub cover_is : (b : Bool) (n : ℕ) → n ≡ cond b 1 0 → cover_text b ≡ number_text (bytes "cover=") n
unfolding cover_text
cover_is b n e = rw e
