-- `has_contents` meets its contract.
use Rattle.words.proofs.Tests.{held, refuted}
use Rattle.placement.specs.Placement.{has_contents}
use Rattle.placement.proofs.has_contents.Goals as goal

pub returns-then-not-is_placed : goal.returns-then-not-is_placed
unfolding has_contents
returns-then-not-is_placed c = rw (refuted c.is_placed.ensures c.if-not-is_placed.true)

pub returns : goal.returns
unfolding has_contents
returns c = rw (held c.is_placed.ensures c.if-not-is_placed.false)
