-- `lay_with_held` meets its contract: the net-tokens do not fit behind the head, or both are laid.
use mathlib.Core.Path.{refl, ◌∙◌}
use borrow.Author.Rules.{rules}
use native.Mathlib.Omega.{arith}
use Rattle.text.proofs.Basics.{handed_on}
use Rattle.reader.proofs.ReadingLaws.{both_model}
use Rattle.reader.proofs.WriteAnswers.{write_asks}
use Rattle.listing.proofs.ListingLaid.{head_room, held_whole, held-short, by_sizes}
use Rattle.listing.proofs.lay_with_held.Goals as goal

pub place_sizes-requires : goal.place_sizes-requires
place_sizes-requires c = both_model _ _ c.requires.0

pub write-requires : goal.write-requires
write-requires c =
    let a = write_asks c.args.m.now c.args.k.now c.requires.0 _ c.place_sizes.ensures in
    (a.0, a.1, omega arith, omega (arith, c.requires.1))

pub text-requires : goal.text-requires
text-requires c = head_room c.args.head.now _ _ c.in_ok-bytes.ensures refl

pub returns-in_err-bytes : goal.returns-in_err-bytes
returns-in_err-bytes c =
    let a = c.args in
    rw (handed_on _ c.from_residual.ensures.1) (held-short a.head.now _ _ c.in_err-bytes.ensures refl ∙ by_sizes a.m.now a.k.now a.head.now a.out.now _ c.place_sizes.ensures)

pub returns : goal.returns
returns c =
    let a = c.args in
    held_whole a.head.now _ _ c.in_ok-bytes.ensures refl c.text.new.self.out.now (search rules) c.text.ensures.bytes
    ∙ by_sizes a.m.now a.k.now a.head.now a.out.now _ c.place_sizes.ensures
