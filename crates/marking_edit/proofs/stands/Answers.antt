-- `stands` compares the net-token of the entry at p, if there is one.
use mathlib.Core.Path.{◌≡◌, ap, ◌∙◌}
use native.Mathlib.Omega.{arith}
use borrow.Author.Tests.{lt-ltb}
use lib.ListN.{get_or}
use Rattle.std.proofs.lemmas.List.{get_or_default}
use Rattle.marking.specs.Tokens.{like, no_entry}
use Rattle.marking.specs.declared.Entry.{Entry}
use Rattle.marking.proofs.TokenOrder.{eq_like}
use Rattle.marking_edit.proofs.Change.{past}
use Rattle.marking_edit.proofs.stands.Goals as goal

pub returns-then-p-k : goal.returns-then-p-k
returns-then-p-k c =
    let k = c.args.k.now in
    let p = c.args.p in
    let t = c.args.t.now in
    let h = c.if-p-k.true in
    let e : get_or k.entries p past ≡ get_or k.entries p no_entry = get_or_default k.entries p past no_entry (omega (arith, h, c.requires.few, c.requires.long)) in
    rw (lt-ltb p k.len h) (c.eq.ensures ∙ eq_like t (get_or k.entries p past).token ∙ ap (λ (x : Entry). like t x.token) e)
