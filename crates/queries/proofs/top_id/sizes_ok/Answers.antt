-- `top_id::sizes_ok` meets its contract: the first test that fails decides.
use borrow.Author.Tests.{eq-eqb, ne_eqb}
use Rattle.words.proofs.Tests.{held, refuted}
use Rattle.queries.specs.TopId.{id_sizes_ok}
use Rattle.queries.proofs.top_id.sizes_ok.Goals as goal

pub returns-then-not-in_range : goal.returns-then-not-in_range
unfolding id_sizes_ok
returns-then-not-in_range c = simp (refuted c.in_range.ensures c.if-not-in_range.true)

pub returns-then-build_id-config : goal.returns-then-build_id-config
unfolding id_sizes_ok
returns-then-build_id-config c = simp (held c.in_range.ensures c.if-not-in_range.false, ne_eqb _ _ c.if-build_id-config.true)

pub returns : goal.returns
unfolding id_sizes_ok
returns c = simp (held c.in_range.ensures c.if-not-in_range.false, eq-eqb _ _ c.if-build_id-config.false)
