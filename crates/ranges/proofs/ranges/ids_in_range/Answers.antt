-- `ranges::ids_in_range` meets its contract: the first test that fails decides.
use borrow.Author.Tests.{le-leb, lt-leb}
use Rattle.ranges.specs.Ranges.{ids_in_range}
use Rattle.ranges.proofs.ranges.ids_in_range.Goals as goal

pub returns-then-id-lt-ID_MIN : goal.returns-then-id-lt-ID_MIN
unfolding ids_in_range
returns-then-id-lt-ID_MIN c = simp (lt-leb _ _ c.if-id-lt-ID_MIN.true)

pub returns-then-id-gt-ID_MAX : goal.returns-then-id-gt-ID_MAX
unfolding ids_in_range
returns-then-id-gt-ID_MAX c = simp (le-leb _ _ c.if-id-lt-ID_MIN.false, lt-leb _ _ c.if-id-gt-ID_MAX.true)

pub returns-then-dependency-lt-ID_MIN : goal.returns-then-dependency-lt-ID_MIN
unfolding ids_in_range
returns-then-dependency-lt-ID_MIN c = simp (le-leb _ _ c.if-id-lt-ID_MIN.false, le-leb _ _ c.if-id-gt-ID_MAX.false, lt-leb _ _ c.if-dependency-lt-ID_MIN.true)

pub returns : goal.returns
unfolding ids_in_range
returns c = simp (le-leb _ _ c.if-id-lt-ID_MIN.false, le-leb _ _ c.if-id-gt-ID_MAX.false, le-leb _ _ c.if-dependency-lt-ID_MIN.false)
