-- `edits::kind_from` meets its contract.
use borrow.Author.Tests.{eq-eqb, ne_eqb}
use Rattle.state_bytes.proofs.edits.kind_from.Goals as goal

pub returns-then-number-eq1 : goal.returns-then-number-eq1
returns-then-number-eq1 c = simp (eq-eqb _ _ c.if-number-eq1.true)

pub returns : goal.returns
returns c = simp (ne_eqb _ _ c.if-number-eq1.false)
