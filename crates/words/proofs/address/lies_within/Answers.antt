-- `address::lies_within` meets its contract.
use Rattle.std.proofs.Common.{◌+◌, sym, arith, le-leb}
use borrow.Author.Tests.{lt-leb}
use Rattle.words.proofs.address.lies_within.Goals as goal

pub returns-then-end-n : goal.returns-then-end-n
returns-then-end-n c = let a = c.args in sym (lt-leb (a.at + a.n) a.end (omega arith))

pub returns-then-end-n-2 : goal.returns-then-end-n-2
returns-then-end-n-2 c = let a = c.args in sym (lt-leb (a.at + a.n) a.end (omega arith))

pub returns : goal.returns
returns c = let a = c.args in sym (le-leb (a.at + a.n) a.end (omega arith))
