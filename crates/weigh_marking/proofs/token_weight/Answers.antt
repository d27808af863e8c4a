-- `token_weight` is the weight of the place and that of the counts.
use Prim.Native.Nat.{ℕ, ◌-◌}
use mathlib.Core.Path.{◌≡◌, sym, ap, ap₂, ◌∙◌}
use mathlib.Core.List.{[]}
use native.Mathlib.Omega.{arith}
use borrow.Author.Rules.{rules}
use lib.IntN.{◌+ℤ◌}
use lib.ListN.{length, get_or}
use mir.Syntax.{w64}
use mir.Val.{to_z, of_z}
use Rattle.std.proofs.lemmas.Int.{ints}
use Rattle.std.proofs.lemmas.List.{map-id}
use Rattle.model.specs.Rules.{nth}
use Rattle.model.specs.Held.{row_at}
use Rattle.weigh.specs.Sums.{numbers, number_of, token_weight}
use Rattle.weigh.proofs.DotLaws.{dot_same}
use Rattle.weigh.proofs.NumberLaws.{row_numbers, number_at}
use Rattle.weigh_marking.proofs.token_weight.Goals as goal

pub returns-clause-value : goal.returns-clause-value
unfolding token_weight
returns-clause-value g c =
    let number = g.W.Factor.number in
    let rows = c.args.weights.now in
    let held = numbers number rows in
    let types = c.args.types.now in
    let w = c.wide.ensures in
    let d = c.dot-counts.ensures in
    let place = c.from-place.ensures in
    let p = c.from-place.result - 1 in
    let s : to_z w64 (of_z w64 (to_z w64 (of_z w64 c.wide.result) +ℤ to_z w64 (of_z w64 c.dot-counts.result))) ≡ c.wide.result +ℤ c.dot-counts.result =
    omega (arith, ints, w, d.low, d.high, c.requires.most) in
    let long : length rows ≡ 9 = search rules in
    let wide : length (get_or rows 0 []) ≡ 32 = search rules in
    let few = c.requires.place.2 p (omega (arith, place, c.requires.place.1)) in
    let outer =
    w.0 ∙ number_at number rows 0 p [] c.index-weights-0.result (omega (arith, long)) (omega (arith, wide, place, c.requires.place.1)) in
    let row = row_numbers number rows c.from.result [] (omega (arith, long, few, c.from.ensures)) in
    let inside = sym row ∙ ap (row_at held) (c.from.ensures ∙ ap (λ (q : ℕ). nth types (q - 1)) place) in
    s ∙ ap₂ ◌+ℤ◌ (outer ∙ ap (λ (q : ℕ). number_of (row_at held 0) (q - 1)) place) (d.value ∙ dot_same inside (map-id c.args.t.now.counts))
