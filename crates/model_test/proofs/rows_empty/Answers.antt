-- `rows_empty` looks at the rows as one.
use mathlib.Core.Path.{◌∙◌}
use Rattle.model.proofs.PaddedRows.{empty_flat}
use Rattle.model_test.proofs.rows_empty.Goals as goal

pub returns : goal.returns
returns c = c.all_empty.ensures ∙ rw c.as_flattened.ensures.value (empty_flat c.args.rows.now)
