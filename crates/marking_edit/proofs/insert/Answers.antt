-- `insert` puts net-tokens in at their place: into their entry, or before it where there is none.
use Prim.Native.Nat.{ℕ, ◌+◌, ◌-◌, ◌≤◌, ◌<◌}
use mathlib.Core.Path.{◌≡◌, ap, ap₂, ◌∙◌}
use mathlib.Core.Bool.{true}
use mathlib.Core.List.{List}
use native.Mathlib.Omega.{arith}
use lib.ListN.{length, get_or, set, drop, length-take, length-drop}
use borrow.Rule.Slice.PartMut.{mid_of}
use Rattle.marking.specs.Tokens.{tokens, entries_in, place_for}
use Rattle.marking.specs.declared.NetToken.{NetToken}
use Rattle.marking.specs.declared.Entry.{Entry}
use Rattle.marking.proofs.KeptLaws.{length_held}
use Rattle.marking_edit.proofs.Change.{past, token_is, kept_sorted, moved_up, put_over, put_more, put_full, put_new}
use Rattle.marking_edit.proofs.insert.Goals as goal
use Rattle.marking_edit.proofs.insert.Goals.{After-stands}

-- where the place was looked for
at : (c : After-stands) → c.place_for-p.result ≡ place_for c.args.e.now.token (tokens (entries_in c.args.k.now))
at c = c.place_for-p.ensures.0 ∙ ap (λ (es : List Entry). place_for c.args.e.now.token (tokens es)) c.held.ensures.entries

pub place_for-p-requires : goal.place_for-p-requires
place_for-p-requires c = rw c.held.ensures.entries (kept_sorted c.args.k.now c.requires.4)

pub returns-in_default : goal.returns-in_default
returns-in_default c =
    let a = c.args in
    put_over a.e.now a.k.now c.requires.4 c.requires.2 _ (at (goal.at.returns-in_default c).After-stands) c.stands.ensures c.if-stands.true past a.room (omega (arith, c.in_default.ensures))

pub returns-then-stands : goal.returns-then-stands
returns-then-stands c =
    let e = c.args.e.now in
    let k = c.args.k.now in
    let p = c.place_for-p.result in
    let w = at (goal.at.returns-then-stands c).After-stands in
    let t = token_is e k c.requires.4 c.requires.2 p w c.stands.ensures c.if-stands.true past in
    let n : c.in-Some.times ≡ (get_or k.entries p past).times + e.times = c.in-Some.ensures.1 in
    ap₂ (λ (x : NetToken) (m : ℕ). record { done = true; marking = record { len = k.len; entries = set k.entries p (record { token = x; times = m }) } }) t n
    ∙ put_more e k c.requires.4 c.requires.2 p w c.stands.ensures c.if-stands.true past c.args.room c.requires.1 (omega (arith, c.in-Some.ensures.0))

pub returns-then-n-room : goal.returns-then-n-room
returns-then-n-room c =
    let a = c.args in
    put_full a.e.now a.k.now c.requires.4 c.requires.2 _ (at (goal.at.returns-then-n-room c).After-stands) c.stands.ensures c.if-stands.false a.room c.if-n-room.true

pub returns : goal.returns
returns c =
    let e = c.args.e.now in
    let k = c.args.k.now in
    let p = c.place_for-p.result in
    let few : p ≤ k.len = omega (arith, c.place_for-p.ensures.1, ap length c.held.ensures.entries, length_held k c.requires.4) in
    let room : k.len < c.args.room = omega (arith, c.requires.1, c.if-n-room.false) in
    let m : length (mid_of p (k.len + 1 - p) k.entries) - 1 ≡ k.len - p =
    omega (arith, length-take (k.len + 1 - p) (drop p k.entries), length-drop p k.entries, c.requires.0, c.requires.4.long) in
    put_new e k c.requires.4 c.requires.2 p (at (goal.at.returns c).After-stands) c.stands.ensures c.if-stands.false c.args.room _ c.requires.0 room
    c.requires.3 (moved_up k.entries c.move_up.new.entries p k.len few (omega (arith, c.requires.0, c.requires.4.long)) (rw m at c.move_up.ensures))
