-- `take_out` takes net-tokens out of their entry, and with the last of them the entry.
use Prim.Native.Nat.{◌-◌}
use mathlib.Core.Path.{◌≡◌, ap, ◌∙◌}
use mathlib.Core.Bool.{true}
use mathlib.Core.List.{List}
use native.Mathlib.Omega.{arith}
use lib.ListN.{length, get_or, set, drop, length-take, length-drop}
use borrow.Rule.Slice.PartMut.{mid_of, put_mid}
use Rattle.marking.specs.Tokens.{tokens, entries_in, place_for}
use Rattle.marking.specs.declared.NetToken.{NetToken}
use Rattle.marking.specs.declared.Entry.{Entry}
use Rattle.marking_edit.proofs.Change.{past, kept_sorted, token_is, moved_down, inside, out_none, out_fewer, out_some, out_last}
use Rattle.marking_edit.proofs.take_out.Goals as goal
use Rattle.marking_edit.proofs.take_out.Goals.{After-stands}

-- where the place was looked for
at : (c : After-stands) → c.place_for-p.result ≡ place_for c.args.e.now.token (tokens (entries_in c.args.k.now))
at c = c.place_for-p.ensures.0 ∙ ap (λ (es : List Entry). place_for c.args.e.now.token (tokens es)) c.held.ensures.entries

pub place_for-p-requires : goal.place_for-p-requires
place_for-p-requires c = rw c.held.ensures.entries (kept_sorted c.args.k.now c.requires.1)

pub returns-then-not-stands : goal.returns-then-not-stands
returns-then-not-stands c =
    out_none c.args.e.now c.args.k.now c.requires.1 c.requires.0 _ (at (goal.at.returns-then-not-stands c).After-stands) c.stands.ensures c.if-not-stands.true

pub returns-then-had-e : goal.returns-then-had-e
returns-then-had-e c =
    out_fewer c.args.e.now c.args.k.now c.requires.1 c.requires.0 _ (at (goal.at.returns-then-had-e c).After-stands) c.stands.ensures c.if-not-stands.false past c.if-had-e.true

pub returns-then-e-had : goal.returns-then-e-had
returns-then-e-had c =
    let e = c.args.e.now in
    let k = c.args.k.now in
    let p = c.place_for-p.result in
    let w = at (goal.at.returns-then-e-had c).After-stands in
    let t = token_is e k c.requires.1 c.requires.0 p w c.stands.ensures c.if-not-stands.false past in
    ap (λ (x : NetToken). record { done = true; marking = record { len = k.len; entries = set k.entries p (record { token = x; times = (get_or k.entries p past).times - e.times }) } }) t
    ∙ out_some e k c.requires.1 c.requires.0 p w c.stands.ensures c.if-not-stands.false past c.if-e-had.true

pub returns : goal.returns
returns c =
    let e = c.args.e.now in
    let k = c.args.k.now in
    let p = c.place_for-p.result in
    let w = at (goal.at.returns c).After-stands in
    let less = inside e k c.requires.1 c.requires.0 p w c.stands.ensures c.if-not-stands.false in
    let n : length (mid_of p (k.len - p) k.entries) ≡ k.len - p =
    omega (arith, length-take (k.len - p) (drop p k.entries), length-drop p k.entries, c.requires.1.few, c.requires.1.long) in
    ap (λ (u : Entry). record { done = true; marking = record { len = k.len - 1; entries = set (put_mid p (k.len - p) k.entries c.move_down.new.entries) (k.len - 1) u } }) c.empty.ensures
    ∙ out_last e k c.requires.1 c.requires.0 p w c.stands.ensures c.if-not-stands.false past _ (omega (arith, c.if-had-e.false, c.if-e-had.false))
    (moved_down k.entries c.move_down.new.entries p k.len less (omega (arith, c.requires.1.few, c.requires.1.long)) (rw n at c.move_down.ensures))
