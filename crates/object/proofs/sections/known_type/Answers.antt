-- `sections::known_type` meets its contract.
use borrow.Author.Tests.{le-leb, lt-leb, eq-eqb, ne_eqb}
use mathlib.Core.Bool.{or-true}
use Rattle.object.specs.Sections.{known_type}
use Rattle.object.proofs.sections.known_type.Goals as goal

pub returns-then-t-le4 : goal.returns-then-t-le4
unfolding known_type
returns-then-t-le4 c = simp (le-leb _ _ c.if-t-le4.true)

pub returns-then-t-eq7 : goal.returns-then-t-eq7
unfolding known_type
returns-then-t-eq7 c = simp (eq-eqb _ _ c.if-t-eq7.true, or-true)

pub returns : goal.returns
unfolding known_type
returns c = simp (lt-leb _ _ c.if-t-le4.false, ne_eqb _ _ c.if-t-eq7.false)
