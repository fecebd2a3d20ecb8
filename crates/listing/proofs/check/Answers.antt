-- `check` meets its contract: the first check that fails decides.
use borrow.Author.Tests.{le-leb, lt-leb}
use Rattle.words.proofs.Tests.{held, refuted}
use Rattle.listing.specs.List.{list_rules_for}
use Rattle.listing.proofs.check.Goals as goal

pub returns-then-not-in_range : goal.returns-then-not-in_range
unfolding list_rules_for
returns-then-not-in_range c = simp (refuted c.in_range.ensures c.if-not-in_range.true, c.refused.ensures)

pub returns-then-nr-gt-SLOTS : goal.returns-then-nr-gt-SLOTS
unfolding list_rules_for
returns-then-nr-gt-SLOTS c = simp (held c.in_range.ensures c.if-not-in_range.false, lt-leb _ _ c.if-nr-gt-SLOTS.true, c.refused-then-nr-gt-SLOTS.ensures)

pub returns-then-state-idx : goal.returns-then-state-idx
unfolding list_rules_for
returns-then-state-idx c = simp (
  held c.in_range.ensures c.if-not-in_range.false,
  le-leb _ _ c.if-nr-gt-SLOTS.false,
  lt-leb _ _ c.if-state-idx.true,
  c.refused-then-state-idx.ensures,
)

pub returns-then-not-has_room : goal.returns-then-not-has_room
unfolding list_rules_for
returns-then-not-has_room c = simp (
  held c.in_range.ensures c.if-not-in_range.false,
  le-leb _ _ c.if-nr-gt-SLOTS.false,
  le-leb _ _ c.if-state-idx.false,
  refuted c.has_room.ensures c.if-not-has_room.true,
  c.refused-then-not-has_room.ensures,
)

pub returns : goal.returns
unfolding list_rules_for
returns c = simp (
  held c.in_range.ensures c.if-not-in_range.false,
  le-leb _ _ c.if-nr-gt-SLOTS.false,
  le-leb _ _ c.if-state-idx.false,
  held c.has_room.ensures c.if-not-has_room.false,
)
