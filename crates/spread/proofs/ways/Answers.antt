-- `spread::ways` meets its contract: tokens over their limit are answered first, then racks; the table that is lent follows the rule.
use native.Mathlib.Omega.{arith}
use Rattle.spread.proofs.TableLaws.{holds_spreads}
use Rattle.spread.proofs.CallLaws.{call_tokens, call_racks, call_ways}
use Rattle.spread.proofs.ways.Goals as goal

pub returns-then-n-gt31 : goal.returns-then-n-gt31
returns-then-n-gt31 c = call_tokens _ _ (omega arith)

pub returns-then-k-gt16 : goal.returns-then-k-gt16
returns-then-k-gt16 c = call_racks _ _ (omega arith) (omega arith)

-- `tt`: the rule's test, computed over the whole of `SPREADS`
pub entry-requires-clause-the_table : goal.entry-requires-clause-the_table
entry-requires-clause-the_table c = holds_spreads _ tt

pub returns : goal.returns
returns c = rw c.entry.ensures (call_ways _ _ (omega arith) (omega arith))
