-- `rules::sizes_ok` meets its contract: the first test that fails decides.
use Rattle.std.proofs.Common.{eq-eqb, ne_eqb}
use mathlib.Core.Bool.{and-false}
use Rattle.words.proofs.Tests.{held, refuted}
use Rattle.actions.specs.Actions.{action_sizes_ok}
use Rattle.actions.proofs.rules.sizes_ok.Goals as goal

pub returns-then-not-in_range : goal.returns-then-not-in_range
unfolding action_sizes_ok
returns-then-not-in_range c = simp (refuted c.in_range.ensures c.if-not-in_range.true)

pub returns-then-arena-ne-ARENA_SIZE : goal.returns-then-arena-ne-ARENA_SIZE
unfolding action_sizes_ok
returns-then-arena-ne-ARENA_SIZE c = simp (ne_eqb _ _ c.if-arena-ne-ARENA_SIZE.true, and-false)

pub returns-then-undo-ne-UNDO_SIZE : goal.returns-then-undo-ne-UNDO_SIZE
unfolding action_sizes_ok
returns-then-undo-ne-UNDO_SIZE c = simp (ne_eqb _ _ c.if-undo-ne-UNDO_SIZE.true, and-false)

pub returns-then-ids-ne-IDS_SIZE : goal.returns-then-ids-ne-IDS_SIZE
unfolding action_sizes_ok
returns-then-ids-ne-IDS_SIZE c = simp (ne_eqb _ _ c.if-ids-ne-IDS_SIZE.true, and-false)

pub returns : goal.returns
unfolding action_sizes_ok
returns c = simp (
  held c.in_range.ensures c.if-not-in_range.false,
  eq-eqb _ _ c.if-arena-ne-ARENA_SIZE.false,
  eq-eqb _ _ c.if-undo-ne-UNDO_SIZE.false,
  eq-eqb _ _ c.if-ids-ne-IDS_SIZE.false,
)
