-- `ranges::edits_in_range` meets its contract: the count first, then each edit.
use borrow.Author.Tests.{le-leb, lt-leb}
use Rattle.ranges.specs.Ranges.{edits_in_range}
use Rattle.ranges.proofs.ranges.edits_in_range.Goals as goal

pub returns-then-count-lt1 : goal.returns-then-count-lt1
unfolding edits_in_range
returns-then-count-lt1 c = simp (lt-leb _ _ c.if-count-lt1.true)

pub returns-then-count-gt-RECORDS_MAX : goal.returns-then-count-gt-RECORDS_MAX
unfolding edits_in_range
returns-then-count-gt-RECORDS_MAX c = simp (le-leb _ _ c.if-count-lt1.false, lt-leb _ _ c.if-count-gt-RECORDS_MAX.true)

pub returns : goal.returns
unfolding edits_in_range
returns c = simp (le-leb _ _ c.if-count-lt1.false, le-leb _ _ c.if-count-gt-RECORDS_MAX.false, c.all_edits_in_range.ensures)
