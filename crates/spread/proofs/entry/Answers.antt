-- `spread::entry` meets its contract: the table's entry of n and k is the spread.
use Rattle.spread.specs.Table.{SpreadTable}
use Rattle.spread.proofs.entry.Goals as goal

pub returns : goal.returns
unfolding SpreadTable
returns c = c.requires.the_table _ _ c.requires.n_within c.requires.k_within
