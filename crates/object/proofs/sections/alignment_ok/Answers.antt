-- `sections::alignment_ok` meets its contract.
use borrow.Author.Tests.{eq-eqb, ne_eqb}
use Rattle.object.specs.Sections.{alignment_ok}
use Rattle.object.proofs.sections.alignment_ok.Goals as goal

pub returns-then-a-eq0 : goal.returns-then-a-eq0
unfolding alignment_ok
returns-then-a-eq0 c = simp (eq-eqb _ _ c.if-a-eq0.true)

pub returns : goal.returns
unfolding alignment_ok
returns c = simp (ne_eqb _ _ c.if-a-eq0.false)
