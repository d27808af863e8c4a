-- `put_cover` meets its contract: 1 or 0.
use Prim.Native.Nat.{◌<◌}
use mathlib.Core.Path.{◌≡◌, refl}
use mathlib.Core.Bool.{Bool, true, false, cond}
use native.Mathlib.Omega.{arith}
use mir.Val.{bool_byte}
use Rattle.listing.proofs.ListingLines.{lays_as, cover_length, cover_is}
use Rattle.listing.proofs.head.put_cover.Goals as goal

byte_is : (b : Bool) → bool_byte b ≡ cond b 1 0
byte_is true = refl
byte_is false = refl

one_digit : (b : Bool) → bool_byte b < 10
one_digit true = omega arith
one_digit false = omega arith

pub number_line-requires : goal.number_line-requires
number_line-requires c = rw c.from.ensures (omega (arith, cover_length _ (one_digit c.args.cover)))

pub returns : goal.returns
returns c =
    let a = c.args in
    let n = bool_byte a.cover in
    lays_as _ _ 8 (cover_is a.cover n (byte_is a.cover)) (cover_length n (one_digit a.cover)) (rw c.from.ensures at c.number_line.ensures)
