-- `lines::verdict` meets its contract: the verdict decides.
use mathlib.Core.Path.{◌∙◌}
use Rattle.answers.specs.Answers.{verdict_line}
use Rattle.answers.proofs.lines.verdict.Goals as goal

pub returns-in-Ok : goal.returns-in-Ok
unfolding verdict_line
returns-in-Ok c = c.text.ensures ∙ rw c.in-Ok.is

pub returns-in-Err : goal.returns-in-Err
unfolding verdict_line
returns-in-Err c = c.refusal.ensures ∙ rw c.in-Err.is
