-- `cell_at` meets its contract.
use native.Mathlib.Omega.{arith}
use borrow.Author.Tests.{eq-eqb}
use Rattle.linking.specs.Symbols.{symbol_value}
use Rattle.linking.proofs.KeptLaws.{value-in-table, value-past-table}
use Rattle.linking.proofs.kept.cell_at.Goals as goal

pub returns-then-number-eq0 : goal.returns-then-number-eq0
unfolding symbol_value
returns-then-number-eq0 c = λ l stands same. rw (eq-eqb _ 0 c.if-number-eq0.true)

pub returns-then-table-number : goal.returns-then-table-number
returns-then-table-number c = λ l stands same. value-past-table l same _ c.if-number-eq0.false (omega arith)

pub returns : goal.returns
returns c = λ l stands same.
    rw (← value-in-table l same _ c.if-number-eq0.false (omega arith), ← c.read_symbol.ensures.value)
    (c.symbol_cell.ensures l stands)
