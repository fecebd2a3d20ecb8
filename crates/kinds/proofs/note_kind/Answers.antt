-- `note_kind` meets its contract.
use borrow.Author.Tests.{eq-eqb, ne_eqb}
use Rattle.kinds.proofs.note_kind.Goals as goal

pub returns-then-h-eq1 : goal.returns-then-h-eq1
returns-then-h-eq1 c = simp (eq-eqb _ _ c.if-h-eq1.true)

pub returns-then-h-eq7 : goal.returns-then-h-eq7
returns-then-h-eq7 c = simp (ne_eqb _ _ c.if-h-eq1.false, eq-eqb _ _ c.if-h-eq7.true)

pub returns : goal.returns
returns c = simp (ne_eqb _ _ c.if-h-eq1.false, ne_eqb _ _ c.if-h-eq7.false)
