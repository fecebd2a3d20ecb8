-- `rules::is_busy` meets its contract: a standing job is in the way of all but the unload of another payload.
use Rattle.std.proofs.Common.{eq-eqb, ne_eqb}
use Rattle.actions.specs.Actions.{is_busy}
use Rattle.actions.proofs.rules.is_busy.Goals as goal

pub returns-then-job-eq0 : goal.returns-then-job-eq0
unfolding is_busy
returns-then-job-eq0 c = simp (eq-eqb _ _ c.if-job-eq0.true)

pub returns-then-command-ne-UNLOAD : goal.returns-then-command-ne-UNLOAD
unfolding is_busy
returns-then-command-ne-UNLOAD c = simp (ne_eqb _ _ c.if-job-eq0.false, ne_eqb _ _ c.if-command-ne-UNLOAD.true)

pub returns : goal.returns
unfolding is_busy
returns c = simp (ne_eqb _ _ c.if-job-eq0.false, eq-eqb _ _ c.if-command-ne-UNLOAD.false)
