-- `by_type` lists the sizes by type: none of black tokens, and of each net how many places it has.
use Rattle.std.proofs.Common.{◌≡◌, ap, ℕ, ◌≤◌, ◌<◌, ◌-◌, get_or, arith}
use Rattle.std.proofs.iter.Serving.{serving}
use Rattle.model.specs.Held.{no_net}
use Rattle.model.specs.declared.ObjectNet.{ObjectNet}
use Rattle.model.proofs.SlotLaws.{made_listed}
use Rattle.model.proofs.HeldTestLoops.{at_any}
use Rattle.marking.specs.Sizes.{size_of_type}
use Rattle.marking.proofs.SizeLaws.{size-none, size-at}
use Rattle.marking_test.proofs.by_type.Goals as goal

pub from_fn-requires : goal.from_fn-requires
from_fn-requires c =
    let nets = c.args.objects.now in
    let few : (n : ℕ) (d : ObjectNet) → n < 8 → (get_or nets n d).places ≤ 32 =
    λ n d h. omega (arith, c.requires n h, ap (λ (o : ObjectNet). o.places) (at_any nets n d no_net (omega (arith, h, c.told-objects)))) in
    grind serving

pub returns : goal.returns
returns c =
    let nets = c.args.objects.now in
    let none = size-none nets in
    let net : (t : ℕ) → (t ≡ 0 → ⊥) → t < 9 → (d : ObjectNet) → (get_or nets (t - 1) d).places ≡ size_of_type nets t =
    λ t n h d. size-at nets t n (omega (arith, h, c.told-objects)) d in
    made_listed _ _ (size_of_type nets) 9 (λ t h b q k. grind (arith, none, net)) _ 0 c.from_fn.ensures.items
