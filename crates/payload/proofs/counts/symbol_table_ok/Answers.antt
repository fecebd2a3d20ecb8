-- `symbol_table_ok` meets its contract.
use borrow.Author.Tests.{lt-ltb, le-ltb, eq-eqb, ne_eqb}
use Rattle.object.specs.Sections.{no_entry}
use Rattle.payload.specs.Counts.{symbol_table_ok}
use Rattle.payload.proofs.counts.symbol_table_ok.Goals as goal

pub returns-then-h : goal.returns-then-h
unfolding symbol_table_ok
returns-then-h c = simp (ne_eqb _ _ c.if-h.true)

pub returns-then-h-ne0 : goal.returns-then-h-ne0
unfolding symbol_table_ok
returns-then-h-ne0 c = simp (eq-eqb _ _ c.if-h.false, ne_eqb _ _ c.if-h-ne0.true)

pub returns-then-count-link : goal.returns-then-count-link
unfolding symbol_table_ok
returns-then-count-link c = simp (eq-eqb _ _ c.if-h.false, eq-eqb _ _ c.if-h-ne0.false, le-ltb _ _ c.if-count-link.true)

pub returns : goal.returns
unfolding symbol_table_ok no_entry
returns c = simp (eq-eqb _ _ c.if-h.false, eq-eqb _ _ c.if-h-ne0.false, lt-ltb _ _ c.if-count-link.false)
