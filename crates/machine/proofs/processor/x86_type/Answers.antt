-- `x86_type` meets its contract: the tests that led to a return decide those of `type_of`.
use borrow.Author.Tests.{ne_eqb}
use Rattle.machine.specs.X86.{type_of}
use Rattle.machine.proofs.processor.x86_type.Goals as goal

pub returns-then-number-eq0 : goal.returns-then-number-eq0
unfolding type_of
returns-then-number-eq0 c = rw c.if-number-eq0.true

pub returns-then-number-eq1 : goal.returns-then-number-eq1
unfolding type_of
returns-then-number-eq1 c = rw c.if-number-eq1.true

pub returns-then-number-eq2 : goal.returns-then-number-eq2
unfolding type_of
returns-then-number-eq2 c = rw c.if-number-eq2.true

pub returns-then-number-eq4 : goal.returns-then-number-eq4
unfolding type_of
returns-then-number-eq4 c = rw c.if-number-eq4.true

pub returns : goal.returns
unfolding type_of
returns c = rw (
  ne_eqb _ 0 c.if-number-eq0.false,
  ne_eqb _ 1 c.if-number-eq1.false,
  ne_eqb _ 2 c.if-number-eq2.false,
  ne_eqb _ 4 c.if-number-eq4.false,
)
