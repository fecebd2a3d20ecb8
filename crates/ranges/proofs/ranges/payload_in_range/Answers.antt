-- `ranges::payload_in_range` meets its contract: the first test that fails decides.
use borrow.Author.Tests.{lt-ltb, le-ltb}
use Rattle.words.proofs.Tests.{held, refuted}
use Rattle.ranges.specs.Ranges.{payload_in_range}
use Rattle.ranges.proofs.ranges.payload_in_range.Goals as goal

pub returns-then-payload-ge-SLOTS : goal.returns-then-payload-ge-SLOTS
unfolding payload_in_range
returns-then-payload-ge-SLOTS c = simp (le-ltb _ _ c.if-payload-ge-SLOTS.true)

pub returns-then-not-is_status : goal.returns-then-not-is_status
unfolding payload_in_range
returns-then-not-is_status c = simp (lt-ltb _ _ c.if-payload-ge-SLOTS.false, refuted c.is_status.ensures c.if-not-is_status.true)

pub returns-then-not-name_in_range : goal.returns-then-not-name_in_range
unfolding payload_in_range
returns-then-not-name_in_range c = simp (
  lt-ltb _ _ c.if-payload-ge-SLOTS.false,
  held c.is_status.ensures c.if-not-is_status.false,
  refuted c.name_in_range.ensures c.if-not-name_in_range.true,
)

pub returns-then-not-ids_in_range : goal.returns-then-not-ids_in_range
unfolding payload_in_range
returns-then-not-ids_in_range c = simp (
  lt-ltb _ _ c.if-payload-ge-SLOTS.false,
  held c.is_status.ensures c.if-not-is_status.false,
  held c.name_in_range.ensures c.if-not-name_in_range.false,
  refuted c.ids_in_range.ensures c.if-not-ids_in_range.true,
)

pub returns : goal.returns
unfolding payload_in_range
returns c = simp (
  lt-ltb _ _ c.if-payload-ge-SLOTS.false,
  held c.is_status.ensures c.if-not-is_status.false,
  held c.name_in_range.ensures c.if-not-name_in_range.false,
  held c.ids_in_range.ensures c.if-not-ids_in_range.false,
  c.edits_in_range.ensures,
)
