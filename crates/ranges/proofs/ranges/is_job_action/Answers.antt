-- `ranges::is_job_action` meets its contract.
use borrow.Author.Tests.{le-leb, lt-leb}
use Rattle.ranges.specs.Ranges.{is_job_action}
use Rattle.ranges.proofs.ranges.is_job_action.Goals as goal

pub returns-then-action-lt-REVERT : goal.returns-then-action-lt-REVERT
unfolding is_job_action
returns-then-action-lt-REVERT c = simp (lt-leb _ _ c.if-action-lt-REVERT.true)

pub returns : goal.returns
unfolding is_job_action
returns c = simp (le-leb _ _ c.if-action-lt-REVERT.false)
