-- `lay_head` meets its contract: the text does not fit, or it is laid.
use borrow.Author.Rules.{rules}
use native.Mathlib.Omega.{arith}
use Rattle.reader.proofs.WriteAnswers.{whole-short}
use Rattle.listing.proofs.ListingLaid.{laid_whole}
use Rattle.listing.proofs.lay_head.Goals as goal

pub returns-then-out-head : goal.returns-then-out-head
returns-then-out-head c = whole-short _ _ c.if-out-head.true

pub returns : goal.returns
returns c =
    let a = c.args in
    laid_whole a.head.now a.out.now c.text.new.self.out.now (search rules) c.text.ensures.bytes (omega arith)
