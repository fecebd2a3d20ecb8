-- `symbol_cell` meets its contract.
use borrow.Author.Tests.{eq-eqb, ne_eqb, le-leb, lt-leb}
use Rattle.linking.specs.Symbols.{value_by}
use Rattle.linking.proofs.kept.symbol_cell.Goals as goal

pub returns-then-index-eq65521 : goal.returns-then-index-eq65521
unfolding value_by
returns-then-index-eq65521 c = λ l stands. rw (eq-eqb _ 0xfff1 c.if-index-eq65521.true)

pub returns-then-index-eq0 : goal.returns-then-index-eq0
unfolding value_by
returns-then-index-eq0 c = λ l stands.
    simp (ne_eqb _ 0xfff1 c.if-index-eq65521.false, eq-eqb _ 0 c.if-index-eq0.true) (c.undefined_cell.ensures l)

pub returns-then-index-ge65280 : goal.returns-then-index-ge65280
unfolding value_by
returns-then-index-ge65280 c = λ l stands.
    simp (ne_eqb _ 0xfff1 c.if-index-eq65521.false, ne_eqb _ 0 c.if-index-eq0.false, le-leb 0xff00 _ c.if-index-ge65280.true)

pub returns : goal.returns
unfolding value_by
returns c = λ l stands.
    simp (ne_eqb _ 0xfff1 c.if-index-eq65521.false, ne_eqb _ 0 c.if-index-eq0.false, lt-leb 0xff00 _ c.if-index-ge65280.false)
    (c.defined_cell.ensures l stands)
