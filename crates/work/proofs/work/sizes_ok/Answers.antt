-- `work::sizes_ok` meets its contract: the first test that fails decides.
use borrow.Author.Tests.{eq-eqb, ne_eqb}
use Rattle.words.proofs.Tests.{held, refuted}
use Rattle.work.specs.Work.{work_sizes_ok}
use Rattle.work.proofs.work.sizes_ok.Goals as goal

pub returns-then-not-in_range : goal.returns-then-not-in_range
unfolding work_sizes_ok
returns-then-not-in_range c = simp (refuted c.in_range.ensures c.if-not-in_range.true)

pub returns-then-text-config : goal.returns-then-text-config
unfolding work_sizes_ok
returns-then-text-config c = simp (held c.in_range.ensures c.if-not-in_range.false, ne_eqb _ _ c.if-text-config.true)

pub returns : goal.returns
unfolding work_sizes_ok
returns c = simp (held c.in_range.ensures c.if-not-in_range.false, eq-eqb _ _ c.if-text-config.false)
