-- `lines::got` meets its contract: the answer decides.
use mathlib.Core.Path.{◌∙◌}
use Rattle.answers.specs.Answers.{got_line}
use Rattle.answers.proofs.lines.got.Goals as goal

pub returns-in-Ok : goal.returns-in-Ok
unfolding got_line
returns-in-Ok c = c.status.ensures ∙ rw c.in-Ok.is

pub returns-in-Err : goal.returns-in-Err
unfolding got_line
returns-in-Err c = c.refusal.ensures ∙ rw c.in-Err.is
