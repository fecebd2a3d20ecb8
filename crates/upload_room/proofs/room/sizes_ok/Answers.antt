-- `room::sizes_ok` meets its contract.
use mathlib.Core.Bool.{and-false}
use borrow.Author.Tests.{eq-eqb, ne_eqb}
use Rattle.words.proofs.Tests.{held, refuted}
use Rattle.upload_room.specs.Room.{upload_sizes_ok}
use Rattle.upload_room.proofs.room.sizes_ok.Goals as goal

pub returns-then-not-in_range : goal.returns-then-not-in_range
unfolding upload_sizes_ok
returns-then-not-in_range c s same = simp (refuted same c.if-not-in_range.true)

pub returns-then-arena-ne-ARENA_SIZE : goal.returns-then-arena-ne-ARENA_SIZE
unfolding upload_sizes_ok
returns-then-arena-ne-ARENA_SIZE c s same = simp (ne_eqb _ _ c.if-arena-ne-ARENA_SIZE.true, and-false)

pub returns : goal.returns
unfolding upload_sizes_ok
returns c s same = simp (held same c.if-not-in_range.false, eq-eqb _ _ c.if-arena-ne-ARENA_SIZE.false)
