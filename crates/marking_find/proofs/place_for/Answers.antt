use Rattle.std.proofs.Common.{rules, not}
use Rattle.std.proofs.lemmas.List.Sorted.{IsPartitionPoint-from_clause}
use Rattle.marking.specs.Tokens.{before}
use Rattle.marking.proofs.TokenOrder.{cmp_before}
use Rattle.marking.proofs.PlaceFor.{parted, place_is}
use Rattle.marking_find.proofs.place_for.Goals as goal

pub returns : goal.returns
returns c =
    let t = c.args.t.now in
    let es = c.args.entries.now in
    let e = place_is t es _ c.requires c.partition_point.ensures.bound
    (IsPartitionPoint-from_clause (λ e. not (before t e.token)) es _ c.partition_point.ensures.partitioned (parted t es c.requires)
    (λ a r f e. search (rules, cmp_before))) in
    (e, c.partition_point.ensures.bound)
