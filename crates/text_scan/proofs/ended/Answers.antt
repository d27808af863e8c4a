-- `ended` meets its contract.
use mathlib.Core.Path.{sym, ◌∙◌}
use Rattle.text.proofs.NumberLaws.{ended_here, ended_other}
use Rattle.text_scan.proofs.ended.Goals as goal

pub returns-then-byte_at-stop : goal.returns-then-byte_at-stop
returns-then-byte_at-stop g c = rw (ended_here _ _ _ _ (sym c.byte_at.ensures ∙ c.if-byte_at-stop.true))

pub returns : goal.returns
returns g c = rw (ended_other _ _ _ _ (λ h. c.if-byte_at-stop.false (c.byte_at.ensures ∙ h)))
