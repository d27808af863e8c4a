-- How many counts the net-tokens of a held model have, place by place.
use Rattle.std.specs.Prelude.{ℕ, zero, suc, ◌≤◌, List, get_or}
use Rattle.model.specs.Rules.{nth}
use Rattle.model.specs.Held.{no_net, listed}
use Rattle.model.specs.declared.Model.{Model}
use Rattle.model.specs.declared.ObjectNet.{ObjectNet}
use Rattle.marking.specs.declared.PlaceSizes.{PlaceSizes}
use Rattle.marking.specs.Held.{Sizes, as_sizes}

-- of a place of type 0, none; of one of net n, as many as the net has places
abbrev pub size_of_type : List ObjectNet → ℕ → ℕ
size_of_type objects zero = 0
size_of_type objects (suc n) = (get_or objects n no_net).places

-- for each of 32 places
unfoldable pub sizes_in : Model → List ℕ
sizes_in m = listed (λ p. size_of_type m.objects (nth m.types p)) 0 32

-- those of a held model
abbrev pub place_sizes : Model → PlaceSizes
place_sizes m = record { places = m.places; sizes = sizes_in m }

abbrev pub sizes_for : Model → Sizes
sizes_for m = as_sizes (place_sizes m)

-- no object net has more places than there is room for
abbrev pub SmallNets : List ObjectNet → Type 0
SmallNets objects = (n : ℕ) → (get_or objects n no_net).places ≤ 32
