-- `is_valid` meets its contract: the tests of the head in their order, then what `entries_rise` says.
use mathlib.Core.Path.{sym}
use borrow.Author.Tests.{le-leb, lt-leb, eq-eqb, ne_eqb}
use Rattle.symbols.specs.SymbolList.{valid}
use Rattle.symbols.proofs.is_valid.Goals as goal

pub returns-then-list-lt7 : goal.returns-then-list-lt7
unfolding valid
returns-then-list-lt7 c = simp (lt-leb _ _ c.if-list-lt7.true)

pub returns-then-read-list : goal.returns-then-read-list
unfolding valid
returns-then-read-list c = simp (
  le-leb _ _ c.if-list-lt7.false,
  sym c.read.ensures.value,
  ne_eqb _ _ c.if-read-list.true,
)

pub returns-then-list-ne1 : goal.returns-then-list-ne1
unfolding valid
returns-then-list-ne1 c = simp (
  le-leb _ _ c.if-list-lt7.false,
  sym c.read.ensures.value,
  eq-eqb _ _ c.if-read-list.false,
  ne_eqb _ _ c.if-list-ne1.true,
)

pub returns : goal.returns
unfolding valid
returns c = simp (
  le-leb _ _ c.if-list-lt7.false,
  sym c.read.ensures.value,
  eq-eqb _ _ c.if-read-list.false,
  eq-eqb _ _ c.if-list-ne1.false,
  sym c.read-count.ensures.value,
  c.entries_rise.ensures,
)
