-- `rules::status_for` meets its contract.
use Rattle.std.proofs.Common.{eq-eqb, ne_eqb}
use Rattle.actions.proofs.rules.status_for.Goals as goal

pub returns-then-command-eq-REVERT : goal.returns-then-command-eq-REVERT
returns-then-command-eq-REVERT c = simp (eq-eqb _ _ c.if-command-eq-REVERT.true)

pub returns : goal.returns
returns c = simp (ne_eqb _ _ c.if-command-eq-REVERT.false)
