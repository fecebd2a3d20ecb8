-- `ranges::name_in_range` meets its contract: the length, then the bytes up to it.
use mathlib.Core.Path.{sym}
use native.Mathlib.Omega.{arith}
use borrow.Author.Tests.{le-leb, lt-leb}
use Rattle.state.proofs.Whole.{WholePayload, whole-payload, length-name}
use Rattle.ranges.specs.Ranges.{name_in_range}
use Rattle.ranges.proofs.ranges.name_in_range.Goals as goal
use Rattle.ranges.proofs.ranges.name_in_range.Goals.{Start}

pub returns-then-length-gt-NAME_MAX : goal.returns-then-length-gt-NAME_MAX
unfolding name_in_range
returns-then-length-gt-NAME_MAX c = simp (lt-leb _ _ c.if-length-gt-NAME_MAX.true)

kept : (c : goal.Start) → WholePayload c.args.payload
kept c = whole-payload c.args.payload _ c.well_formed.0

pub slice_bounds-kept-end : goal.slice_bounds-kept-end
slice_bounds-kept-end c = omega (arith, (kept (goal.at.slice_bounds-kept-end c).Start).name)

pub slice_bounds-is_name-end : goal.slice_bounds-is_name-end
slice_bounds-is_name-end c = sym (length-name (kept (goal.at.slice_bounds-is_name-end c).Start) (omega arith))

pub returns : goal.returns
unfolding name_in_range
returns c = simp (le-leb _ _ c.if-length-gt-NAME_MAX.false, c.is_name.ensures)
