-- `ranges::stack_fits` meets its contract: by the job's action.
use borrow.Author.Tests.{eq-eqb, ne_eqb}
use Rattle.ranges.specs.Ranges.{stack_fits}
use Rattle.ranges.proofs.ranges.stack_fits.Goals as goal

pub returns-then-outline-eq-REVERT : goal.returns-then-outline-eq-REVERT
unfolding stack_fits
returns-then-outline-eq-REVERT c = λ s h. rw (← h.action, ← h.depth, eq-eqb _ _ c.if-outline-eq-REVERT.true)

pub returns-then-outline-eq-APPLY : goal.returns-then-outline-eq-APPLY
unfolding stack_fits
returns-then-outline-eq-APPLY c = λ s h. rw (← h.action, ← h.depth, ← h.count, ne_eqb _ _ c.if-outline-eq-REVERT.false, eq-eqb _ _ c.if-outline-eq-APPLY.true)

pub returns : goal.returns
unfolding stack_fits
returns c = λ s h. rw (← h.action, ne_eqb _ _ c.if-outline-eq-REVERT.false, ne_eqb _ _ c.if-outline-eq-APPLY.false)
