-- `net_covered` is the test of the weights of a net's places.
use Prim.Native.Nat.{ℕ, zero, suc, ◌+◌}
use mathlib.Core.Path.{◌≡◌, refl, ap, ap₂, ◌∙◌}
use mathlib.Core.List.{List, [], ◌∷◌, map}
use native.Mathlib.Omega.{arith}
use native.Mathlib.Numerals.{add-one}
use lib.ListN.{take, get_or}
use Rattle.eos.specs.Multiset.{every}
use Rattle.model.specs.Limits.{count_limit}
use Rattle.model.specs.Held.{no_net, row_at}
use Rattle.model.specs.declared.ObjectNet.{ObjectNet}
use Rattle.weigh.specs.Sums.{numbers, enough}
use Rattle.weigh.proofs.NumberLaws.{first_numbers}
use Rattle.weigh_cover.proofs.net_covered.Goals as goal

-- what the code reads past the last net has no places
abbrev outside : ObjectNet
outside = record { places = 0; transitions = 0; pre = []; post = [] }

same_places : (objects : List ObjectNet) (n : ℕ) → (get_or objects n outside).places ≡ (get_or objects n no_net).places
same_places [] n = refl
same_places (o ∷ objects) zero = refl
same_places (o ∷ objects) (suc n) = same_places objects n

pub returns : goal.returns
returns g c =
    let a = c.args in
    let n = a.n in
    let number = g.W.Factor.number in
    let rows = a.weights.now in
    let places = (get_or a.m.now.objects n no_net).places in
    let row = first_numbers number places rows (n + 1) [] (omega (arith, c.told-weights, c.requires.nets.0)) in
    c.all_enough.ensures
    ∙ ap₂ (λ (most few : ℕ). every (enough most a.sum) (map number (take few (get_or rows (n + 1) [])))) c.from.ensures (same_places a.m.now.objects n)
    ∙ ap (every (enough count_limit a.sum)) (row ∙ ap (λ (i : ℕ). take places (row_at (numbers number rows) i)) (add-one n))
