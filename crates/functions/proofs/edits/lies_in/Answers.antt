-- `lies_in` meets its contract.
use borrow.Author.Tests.{le-leb, lt-leb}
use Rattle.functions.proofs.edits.lies_in.Goals as goal

pub returns-then-address-start : goal.returns-then-address-start
returns-then-address-start c = simp (lt-leb _ _ c.if-address-start.true)

pub returns : goal.returns
returns c = simp (le-leb _ _ c.if-address-start.false, c.lies_within.ensures)
