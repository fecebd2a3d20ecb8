-- `stores_ok` meets its contract.
use mathlib.Core.Bool.{and-false}
use borrow.Author.Tests.{eq-eqb, ne_eqb}
use Rattle.startup.specs.Start.{stores_ok}
use Rattle.startup.proofs.stores_ok.Goals as goal

pub returns-then-arena-ne-ARENA_SIZE : goal.returns-then-arena-ne-ARENA_SIZE
unfolding stores_ok
returns-then-arena-ne-ARENA_SIZE c = simp (ne_eqb _ _ c.if-arena-ne-ARENA_SIZE.true)

pub returns-then-undo-ne-UNDO_SIZE : goal.returns-then-undo-ne-UNDO_SIZE
unfolding stores_ok
returns-then-undo-ne-UNDO_SIZE c = simp (ne_eqb _ _ c.if-undo-ne-UNDO_SIZE.true, and-false)

pub returns : goal.returns
unfolding stores_ok
returns c = simp (eq-eqb _ _ c.if-arena-ne-ARENA_SIZE.false, eq-eqb _ _ c.if-undo-ne-UNDO_SIZE.false)
