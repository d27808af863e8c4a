-- `place_sizes` meets its contract: a held model has at most 32 places.
use native.Mathlib.Omega.{arith}
use Rattle.model.proofs.HeldTests.{held-is, most-places}
use Rattle.marking_test.proofs.place_sizes.Goals as goal

pub overflow_cast-result : goal.overflow_cast-result
overflow_cast-result c = omega (arith, most-places _ (held-is _ c.requires))

pub returns : goal.returns
returns c = rw c.sizes.ensures
