-- `touching` meets its contract.
use borrow.Author.Tests.{le-ltb, lt-ltb}
use Rattle.functions.specs.Pairs.{touch}
use Rattle.functions.proofs.pairs.touching.Goals as goal

pub returns-then-b_end-a : goal.returns-then-b_end-a
unfolding touch
returns-then-b_end-a c = simp (le-ltb _ _ c.if-b_end-a.true)

pub returns-then-a_end-b : goal.returns-then-a_end-b
unfolding touch
returns-then-a_end-b c = simp (lt-ltb _ _ c.if-b_end-a.false, le-ltb _ _ c.if-a_end-b.true)

pub returns : goal.returns
unfolding touch
returns c = simp (lt-ltb _ _ c.if-b_end-a.false, lt-ltb _ _ c.if-a_end-b.false)
