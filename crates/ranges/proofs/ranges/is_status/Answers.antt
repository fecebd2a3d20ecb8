-- `ranges::is_status` meets its contract.
use borrow.Author.Tests.{eq-eqb, ne_eqb}
use Rattle.ranges.specs.Ranges.{is_status}
use Rattle.ranges.proofs.ranges.is_status.Goals as goal

pub returns-then-status-eq-CHECKED : goal.returns-then-status-eq-CHECKED
unfolding is_status
returns-then-status-eq-CHECKED c = simp (eq-eqb _ _ c.if-status-eq-CHECKED.true)

pub returns : goal.returns
unfolding is_status
returns c = simp (ne_eqb _ _ c.if-status-eq-CHECKED.false)
