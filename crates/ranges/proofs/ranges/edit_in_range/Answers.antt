-- `ranges::edit_in_range` meets its contract: the length first, then the end.
use Rattle.words.proofs.Tests.{held, refuted}
use Rattle.ranges.specs.Ranges.{edit_in_range}
use Rattle.ranges.proofs.ranges.edit_in_range.Goals as goal

pub returns-then-not-is_edit_length : goal.returns-then-not-is_edit_length
unfolding edit_in_range
returns-then-not-is_edit_length c = simp (refuted c.is_edit_length.ensures c.if-not-is_edit_length.true)

pub returns : goal.returns
unfolding edit_in_range
returns c = simp (held c.is_edit_length.ensures c.if-not-is_edit_length.false)
