-- `sections::contents_ok` meets its contract.
use borrow.Author.Tests.{eq-eqb, ne_eqb}
use Rattle.object.proofs.sections.contents_ok.Goals as goal

pub returns-then-h-eq8 : goal.returns-then-h-eq8
returns-then-h-eq8 c = simp (eq-eqb _ _ c.if-h-eq8.true)

pub returns : goal.returns
returns c = simp (ne_eqb _ _ c.if-h-eq8.false, c.lies_within.ensures)
