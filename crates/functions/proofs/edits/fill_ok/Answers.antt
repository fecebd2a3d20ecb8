-- `fill_ok` meets its contract.
use Rattle.words.proofs.Tests.{held, refuted}
use Rattle.functions.specs.Edits.{fill_ok}
use Rattle.functions.proofs.edits.fill_ok.Goals as goal

pub returns-then-not-is_fill_size : goal.returns-then-not-is_fill_size
unfolding fill_ok
returns-then-not-is_fill_size c = rw (refuted c.is_fill_size.ensures c.if-not-is_fill_size.true)

pub returns : goal.returns
unfolding fill_ok
returns c = rw (held c.is_fill_size.ensures c.if-not-is_fill_size.false)
