-- `undefined_cell` meets its contract.
use borrow.Author.Tests.{eq-eqb, ne_eqb}
use Rattle.linking.proofs.kept.undefined_cell.Goals as goal

pub returns-then-s-eq2 : goal.returns-then-s-eq2
returns-then-s-eq2 c = λ l. rw (eq-eqb _ 2 c.if-s-eq2.true)

pub returns : goal.returns
returns c = λ l. rw (ne_eqb _ 2 c.if-s-eq2.false)
