-- `replaced` looks the net of `alone` up.
use mathlib.Core.Path.{◌∙◌}
use native.Mathlib.Numerals.{sub-one}
use Rattle.model_convert.proofs.LikeLaws.{left, given_alone}
use Rattle.model_convert.proofs.replaced.Goals as goal

pub returns-in-Idle : goal.returns-in-Idle
returns-in-Idle c =
    c.new.ensures
    ∙ given_alone _ _ c.in-Idle.place _ c.in-Idle.ensures (c.saturating_sub-net.ensures ∙ rw (c.from.ensures, c.type_of.ensures) (sub-one _))

pub returns-in_default : goal.returns-in_default
returns-in_default c = left _ _ _ c.act.ensures c.in_default.not-Idle
