use Prim.Native.Nat.{ℕ, ◌+◌, ◌*◌, ◌^◌, ◌<◌, ◌≤◌}
use mathlib.Core.Path.{◌≡◌, refl, ap, ◌∙◌}
use mathlib.Core.List.{List}
use native.Mathlib.Omega.{arith}
use native.Mathlib.Nat.{mul-le-mul}
use native.Mathlib.Numerals.{add-one}
use borrow.Author.Rules.{rules}
use lib.IntN.{ℤ, pos, neg_ℤ, nat_abs, ◌+ℤ◌, ◌*ℤ◌, *ℤ_comm}
use lib.ListN.{length, get_or, drop, drop_of_length-le}
use lib.Seq.{drop-cons}
use lib.Signed.{◌≤ℤ◌}
use mir.Syntax.{w64}
use mir.Val.{SFits, to_z, of_z}
use Rattle.std.proofs.lemmas.Int.{ints}
use Rattle.marking.specs.declared.Entry.{Entry}
use Rattle.marking.proofs.TokenOrder.{outside}
use Rattle.marking.proofs.KeptLaws.{place_at}
use Rattle.weigh.specs.Sums.{numbers, token_weight, token_most, entry_most, marking_weight}
use Rattle.weigh.proofs.DotLaws.{sum_step, between, held_is, held_within, held_fits}
use Rattle.weigh_marking.proofs.marking_weight.Goals as goal

-- what the code reads past the last entry
abbrev past : Entry
past = record { token = outside; times = 0 }

module _ (weights : List (List ℤ)) (types : List ℕ) (es : List Entry) (i : ℕ) where
  -- the next entry's weight stands before that of the others
  next_weight : (d : Entry) → i < length es
      → marking_weight weights types (drop i es)
      ≡ pos (get_or es i d).times *ℤ token_weight weights types (get_or es i d).token +ℤ marking_weight weights types (drop (i + 1) es)
  unfolding marking_weight
  next_weight d h = rw (add-one i, drop-cons es i d h)

  -- there is none behind the last
  no_weight : length es ≤ i → marking_weight weights types (drop i es) ≡ pos 0
  unfolding marking_weight
  no_weight h = rw (drop_of_length-le es h)

-- the product of two numbers as the code has it
abbrev product : ℤ → ℤ → ℤ
product a w = to_z w64 (of_z w64 a) *ℤ to_z w64 (of_z w64 w)

-- that of a count and a weight of at most so much
module _ (most : ℕ) (within : most ≤ 137436856320) (a w : ℤ) (n : ℕ) (p : a ≡ pos n) (few : n < 65536) (low : neg_ℤ (pos most) ≤ℤ w) (high : w ≤ℤ pos most)
  where
    first : (w ≡ w) × (nat_abs w ≤ most) × (most ≤ 137436856320)
    first = (refl, between w most low high, within)

    second : (a ≡ pos n) × (n ≤ 65535) × (65535 ≤ 65535)
    second = (p, omega arith, omega arith)

    turned : product a w ≡ to_z w64 (of_z w64 w) *ℤ to_z w64 (of_z w64 a)
    turned = *ℤ_comm (to_z w64 (of_z w64 a)) (to_z w64 (of_z w64 w))

    product_is : product a w ≡ pos n *ℤ w
    product_is = turned ∙ held_is first second ∙ *ℤ_comm w (pos n)

    product_within : (neg_ℤ (pos (most * 65535)) ≤ℤ product a w) × (product a w ≤ℤ pos (most * 65535))
    product_within = rw turned (held_within first second)

    product_fits : SFits w64 (product a w)
    product_fits = rw turned (held_fits first second)

-- what a net-token weighs at most is within what may be a factor
token_within : (limit : ℕ) → limit ≤ 65535 → token_most limit ≤ 137436856320
token_within limit h = omega arith

-- entries of at most so much each, of which there are at most 256
module _ (most i : ℕ) (within : most ≤ 137436856320) where
  summed : i ≤ 256 → i * (most * 65535) ≤ 256 * (most * 65535)
  summed h = mul-le-mul h (omega arith)

  one_more : i * (most * 65535) + most * 65535 ≡ (i + 1) * (most * 65535)
  one_more = omega arith

  room : i < 256 → i * (most * 65535) + most * 65535 < 2 ^ 63
  room h =
      let p : (i + 1) * (most * 65535) ≤ 256 * (most * 65535) = mul-le-mul (omega arith) (omega arith) in
      omega (arith, p, one_more)

  more_fits : (bits : ℕ) (r : ℤ) → i < 256 → neg_ℤ (pos (i * (most * 65535))) ≤ℤ to_z w64 bits → to_z w64 bits ≤ℤ pos (i * (most * 65535))
      → neg_ℤ (pos (most * 65535)) ≤ℤ r → r ≤ℤ pos (most * 65535) → SFits w64 (to_z w64 bits +ℤ to_z w64 (of_z w64 r))
  more_fits bits r h low high l m = let p = room h in omega (arith, ints, p, low, high, l, m)

pub loop-e-init : goal.loop-e-init
loop-e-init g c =
    let a = c.args in
    let z = marking_weight (numbers g.W.Factor.number a.weights.now) a.types.now a.entries.now in
    let e : z ≡ pos 0 +ℤ z = omega (arith, ints) in
    (e, omega (arith, ints), omega (arith, ints))

pub token_weight-requires : goal.token_weight-requires
token_weight-requires g c =
    let p = place_at c.args.entries.now c.loop-e.e-index past c.requires.entries.1 c.loop-e-test.true in
    (omega arith, (omega arith, ((p.0, p.1, c.requires.entries.2), (c.requires.most, c.requires.small))))

pub overflow_mul-sum : goal.overflow_mul-sum
overflow_mul-sum g c =
    let t = c.token_weight.ensures in
    product_fits _ (token_within _ c.requires.most) _ _ _ c.from.ensures (search rules) t.low t.high

pub overflow_add-sum : goal.overflow_add-sum
overflow_add-sum g c =
    let l = c.loop-e in
    let i = l.invariant in
    let t = c.token_weight.ensures in
    let w = token_within _ c.requires.most in
    let p = product_within _ w _ _ _ c.from.ensures (search rules) t.low t.high in
    more_fits _ l.e-index w _ _ (omega (arith, c.requires.entries.0, c.loop-e-test.true)) i.1 i.2 p.0 p.1

pub loop-e-preserved : goal.loop-e-preserved
loop-e-preserved g c =
    let a = c.args in
    let l = c.loop-e in
    let i = l.invariant in
    let t = c.token_weight.ensures in
    let most = token_most g.W.Factor.limit in
    let rows = numbers g.W.Factor.number a.weights.now in
    let r = product c.from.result c.token_weight.result in
    let d = get_or a.entries.now l.e-index past in
    let within : most ≤ 137436856320 = token_within _ c.requires.most in
    let p = product_within most within _ _ _ c.from.ensures (search rules) t.low t.high in
    let w : r ≡ pos d.times *ℤ token_weight rows a.types.now d.token =
    product_is most within _ _ _ c.from.ensures (search rules) t.low t.high ∙ ap (λ (z : ℤ). pos d.times *ℤ z) t.value in
    let few : l.e-index < 256 = omega (arith, c.requires.entries.0, c.loop-e-test.true) in
    let e = sum_step l.sum-bits (l.e-index * entry_most g.W.Factor.limit) (entry_most g.W.Factor.limit) r (room most l.e-index within few) i.1 i.2 p.0 p.1 in
    let more = one_more most l.e-index within in
    let n = next_weight rows a.types.now a.entries.now l.e-index past c.loop-e-test.true in
    let v : marking_weight rows a.types.now a.entries.now ≡ (to_z w64 l.sum-bits +ℤ r) +ℤ marking_weight rows a.types.now (drop (l.e-index + 1) a.entries.now) =
    omega (arith, ints, i.0, w, n) in
    (rw e.0 v, rw (e.0, ← more) e.1, rw (e.0, ← more) e.2)

pub returns-clause-value : goal.returns-clause-value
returns-clause-value g c =
    let a = c.args in
    let l = c.loop-e in
    let n = no_weight (numbers g.W.Factor.number a.weights.now) a.types.now a.entries.now l.e-index c.loop-e-test.false in
    let i = l.invariant.0 in
    omega (arith, ints, i, n)

pub returns-clause-low : goal.returns-clause-low
returns-clause-low g c =
    let l = c.loop-e in
    let p = summed (token_most g.W.Factor.limit) l.e-index (token_within _ c.requires.most) (omega (arith, l.auto.e-index-end, c.requires.entries.0)) in
    omega (arith, ints, l.invariant.1, p)

pub returns-clause-high : goal.returns-clause-high
returns-clause-high g c =
    let l = c.loop-e in
    let p = summed (token_most g.W.Factor.limit) l.e-index (token_within _ c.requires.most) (omega (arith, l.auto.e-index-end, c.requires.entries.0)) in
    omega (arith, ints, l.invariant.2, p)
