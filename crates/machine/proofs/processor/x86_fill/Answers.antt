-- `x86_fill` meets its contract: the two tests are those of `is_fill_size`.
use borrow.Author.Tests.{lt-leb, le-leb}
use Rattle.machine.specs.X86.{is_fill_size}
use Rattle.machine.proofs.processor.x86_fill.Goals as goal

pub returns-then-size-lt1 : goal.returns-then-size-lt1
unfolding is_fill_size
returns-then-size-lt1 c = rw (lt-leb _ _ c.if-size-lt1.true)

pub returns : goal.returns
unfolding is_fill_size
returns c = rw (le-leb _ _ c.if-size-lt1.false)
