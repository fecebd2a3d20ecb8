-- `find` meets its contract: the entries are searched where the head is there.
use mathlib.Core.Path.{sym}
use borrow.Author.Tests.{le-leb, lt-leb}
use Rattle.symbols.specs.SymbolList.{lookup, compared_entries, find_from, find_of}
use Rattle.symbols.proofs.find.Goals as goal

pub returns-then-list-lt7 : goal.returns-then-list-lt7
unfolding find_of lookup compared_entries
returns-then-list-lt7 c = simp (lt-leb _ _ c.if-list-lt7.true)

pub returns : goal.returns
unfolding find_of lookup compared_entries find_from
returns c = simp (le-leb _ _ c.if-list-lt7.false, sym c.read-count.ensures.value, c.find_from.ensures)
