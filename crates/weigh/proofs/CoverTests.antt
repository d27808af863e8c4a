-- The test of weights that cover, at small weights by computation.
use mathlib.Core.Path.{◌≡◌, refl}
use mathlib.Core.Bool.{true, false}
use mathlib.Core.List.{[], ◌∷◌}
use lib.IntN.{pos}
use Rattle.model.specs.declared.ObjectNet.{ObjectNet}
use Rattle.weigh.specs.Sums.{covered}

-- 256 racks of weight 1 are covered, and 257 are not; and so of a count inside
abbrev pub net : ObjectNet
net = record { places = 1; transitions = 0; pre = []; post = [] }

pub cover-cases :
    (covered 256 1 0 [] ((pos 1 ∷ []) ∷ []) 256 ≡ true)
    × (covered 256 1 0 [] ((pos 1 ∷ []) ∷ []) 257 ≡ false)
    × (covered 256 1 1 (net ∷ []) ((pos 512 ∷ []) ∷ (pos 1 ∷ []) ∷ []) 65535 ≡ true)
    × (covered 256 1 1 (net ∷ []) ((pos 512 ∷ []) ∷ (pos 1 ∷ []) ∷ []) 65536 ≡ false)
unfolding covered
cover-cases = (refl, refl, refl, refl)
