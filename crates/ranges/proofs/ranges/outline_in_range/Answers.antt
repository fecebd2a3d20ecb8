-- `ranges::outline_in_range` meets its contract: the stack first, then the job where one stands.
use Rattle.words.proofs.Tests.{held, refuted, differs, equals}
use Rattle.ranges.proofs.ranges.outline_in_range.Goals as goal

pub returns-then-not-stack_in_range : goal.returns-then-not-stack_in_range
returns-then-not-stack_in_range c = λ s h. rw (refuted (c.stack_in_range.ensures s h) c.if-not-stack_in_range.true)

pub returns-then-outline-eq0 : goal.returns-then-outline-eq0
returns-then-outline-eq0 c = λ s h.
    rw (held (c.stack_in_range.ensures s h) c.if-not-stack_in_range.false, equals h.action c.if-outline-eq0.true)

pub returns : goal.returns
returns c = λ s h.
    rw (held (c.stack_in_range.ensures s h) c.if-not-stack_in_range.false, differs h.action c.if-outline-eq0.false)
    (c.job_in_range.ensures s h)
