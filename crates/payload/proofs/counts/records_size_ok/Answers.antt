-- `records_size_ok` meets its contract.
use borrow.Author.Tests.{le-leb, lt-leb}
use Rattle.payload.specs.Counts.{records_size_ok}
use Rattle.payload.proofs.counts.records_size_ok.Goals as goal

pub returns-then-size-one : goal.returns-then-size-one
unfolding records_size_ok
returns-then-size-one c = simp (lt-leb _ _ c.if-size-one.true)

pub returns-then-one-size : goal.returns-then-one-size
unfolding records_size_ok
returns-then-one-size c = simp (le-leb _ _ c.if-size-one.false, lt-leb _ _ c.if-one-size.true)

pub returns : goal.returns
unfolding records_size_ok
returns c = simp (le-leb _ _ c.if-size-one.false, le-leb _ _ c.if-one-size.false)
