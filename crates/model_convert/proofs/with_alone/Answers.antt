-- `with_alone` says what owning a model tells.
use Rattle.model.proofs.ModelSized.{model-sized}
use Rattle.model_convert.proofs.with_alone.Goals as goal

pub returns-clause-sized : goal.returns-clause-sized
returns-clause-sized c = model-sized c.args.m _ c.well_formed.0
