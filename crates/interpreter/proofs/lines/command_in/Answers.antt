-- `lines::command_in` meets its contract: a line that is too long is unreadable.
use Rattle.std.proofs.Common.{le-leb}
use borrow.Author.Tests.{lt-leb}
use Rattle.interpreter.specs.Lines.{command_in}
use Rattle.interpreter.proofs.lines.command_in.Goals as goal

pub returns-then-line-gt-LINE_MAX : goal.returns-then-line-gt-LINE_MAX
unfolding command_in
returns-then-line-gt-LINE_MAX c = rw (lt-leb _ _ c.if-line-gt-LINE_MAX.true)

pub returns : goal.returns
unfolding command_in
returns c = rw (le-leb _ _ c.if-line-gt-LINE_MAX.false) c.read.ensures
