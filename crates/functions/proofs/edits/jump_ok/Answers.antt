-- `jump_ok` meets its contract.
use borrow.Author.Tests.{le-leb, lt-leb}
use Rattle.functions.specs.Edits.{jump_ok}
use Rattle.functions.proofs.edits.jump_ok.Goals as goal

pub returns-then-f-lt1 : goal.returns-then-f-lt1
unfolding jump_ok
returns-then-f-lt1 c = rw (lt-leb _ _ c.if-f-lt1.true)

pub returns-then-f-jump_length : goal.returns-then-f-jump_length
unfolding jump_ok
returns-then-f-jump_length c = rw (le-leb _ _ c.if-f-lt1.false, ← c.jump_length.ensures.0, lt-leb _ _ c.if-f-jump_length.true)

pub returns : goal.returns
unfolding jump_ok
returns c = rw (le-leb _ _ c.if-f-lt1.false, ← c.jump_length.ensures.0, le-leb _ _ c.if-f-jump_length.false, c.lies_in.ensures)
