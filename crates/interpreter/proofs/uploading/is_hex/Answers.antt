-- `uploading::is_hex` meets its contract.
use Rattle.std.proofs.Common.{le-leb}
use borrow.Author.Tests.{lt-leb}
use Rattle.interpreter.proofs.uploading.is_hex.Goals as goal

pub returns-then-line-gt-LINE_MAX : goal.returns-then-line-gt-LINE_MAX
returns-then-line-gt-LINE_MAX c = rw (lt-leb _ _ c.if-line-gt-LINE_MAX.true)

pub returns : goal.returns
returns c = rw (le-leb _ _ c.if-line-gt-LINE_MAX.false) c.is_hex.ensures
