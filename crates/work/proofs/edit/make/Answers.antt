-- `edit::make` meets its contract: by what the step does.
use mathlib.Core.Path.{◌∙◌}
use Rattle.work.proofs.edit.make.Goals as goal

pub returns-then-step : goal.returns-then-step
returns-then-step c = c.lay.ensures ∙ rw c.if-step.true

pub returns : goal.returns
returns c = c.take_off.ensures ∙ rw c.if-step.false
