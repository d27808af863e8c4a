-- What `print_listing` writes stands in the buffer.
use Rattle.rackrun.proofs.print_listing.Goals as goal
use Rattle.rackrun.proofs.WrittenLaws.{written_counts}

pub slice_bounds-write_all-end : goal.slice_bounds-write_all-end
slice_bounds-write_all-end g c = (written_counts _ _ c.listing-answer.ensures c.in-Ok.is).0

pub slice_bounds-write_all-end-2 : goal.slice_bounds-write_all-end-2
slice_bounds-write_all-end-2 g c = (written_counts _ _ c.listing-answer.ensures c.in-Ok.is).1
