-- `sizes` lists, for each place, the size of its type.
use Rattle.std.proofs.Common.{rules, ◌≡◌, ◌∙◌, ap, ℕ, ◌<◌, length, get_or, arith, List}
use Rattle.std.proofs.iter.Serving.{serving}
use Rattle.model.specs.Rules.{nth}
use Rattle.model.proofs.SlotLaws.{listed_at, made_listed}
use Rattle.marking.specs.Sizes.{size_of_type, sizes_in}
use Rattle.marking.proofs.SizeLaws.{net-few, type-few}
use Rattle.marking_test.proofs.sizes.Goals as goal

pub by_type-of_type-requires : goal.by_type-of_type-requires
by_type-of_type-requires c = net-few c.args.m.now c.requires

pub from_fn-requires : goal.from_fn-requires
from_fn-requires c =
    let few = type-few c.args.m.now c.requires in
    let long : length c.by_type-of_type.result ≡ 9 = search rules in
    grind serving

pub returns : goal.returns
unfolding sizes_in
returns c =
    let m = c.args.m.now in
    let of_type : (p : ℕ) → p < 32 → get_or c.by_type-of_type.result (nth m.types p) 0 ≡ size_of_type m.objects (nth m.types p) =
    λ p h. ap (λ (x : List ℕ). get_or x (nth m.types p) 0) c.by_type-of_type.ensures ∙ listed_at (size_of_type m.objects) 9 (nth m.types p) 0 (omega (arith, type-few m c.requires p h)) in
    made_listed _ _ (λ p. size_of_type m.objects (nth m.types p)) 32 (λ p h b q k. search (rules, of_type p h)) _ 0 c.from_fn.ensures.items
