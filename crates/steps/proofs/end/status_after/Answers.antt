-- `end::status_after` meets its contract: a revert leaves its payload checked.
use borrow.Author.Tests.{eq-eqb, ne_eqb}
use Rattle.steps.proofs.end.status_after.Goals as goal

pub returns-then-action-eq-REVERT : goal.returns-then-action-eq-REVERT
returns-then-action-eq-REVERT c = rw (eq-eqb _ _ c.if-action-eq-REVERT.true)

pub returns : goal.returns
returns c = rw (ne_eqb _ _ c.if-action-eq-REVERT.false)
