-- `action::job_for` meets its contract: a time of 0 means 30.
use Rattle.std.proofs.Common.{eq-eqb, ne_eqb}
use Rattle.actions.proofs.action.job_for.Goals as goal

pub returns-then-time-eq0 : goal.returns-then-time-eq0
returns-then-time-eq0 c = simp (eq-eqb _ _ c.if-time-eq0.true)

pub returns-else-time-eq0 : goal.returns-else-time-eq0
returns-else-time-eq0 c = simp (ne_eqb _ _ c.if-time-eq0.false)
