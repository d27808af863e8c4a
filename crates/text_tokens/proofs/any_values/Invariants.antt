-- `any_values` meets its contract, whether LF ends the list or a star. The invariant: what is asked for is that of going on from here, with as
-- many numbers to come as bytes are left.
use Prim.Native.Nat.{ℕ, ◌-◌}
use mathlib.Core.Path.{◌≡◌}
use lib.ListN.{length}
use Rattle.text.specs.Bytes.{Text, lf, star}
use Rattle.text.specs.Number.{number}
use Rattle.text.specs.Capped.{passed}
use Rattle.text.specs.Lists.{any_list, any_items}
use Rattle.text_tokens.proofs.any_values.Given as goal

abbrev pub On : ℕ → Text → ℕ → ℕ → Type 0
On last s from at = passed (any_list number last s from) ≡ passed (any_items number last (length s - at) s at)

abbrev pub invariant-loop-end : goal.invariant-loop-end
invariant-loop-end l = On lf l.s l.from l.at × On star l.s l.from l.at

abbrev pub decreases-loop-end : goal.decreases-loop-end
decreases-loop-end l = length l.s - l.at
