-- `next_multiple` meets its contract.
use native.Mathlib.Omega.{arith}
use borrow.Author.Rules.{rules}
use borrow.Author.Tests.{eq-eqb, ne_eqb}
use Rattle.placement.specs.Placement.{next_multiple}
use Rattle.placement.proofs.PlacementLaws.{below-align, rounded-below}
use Rattle.placement.proofs.next_multiple.Goals as goal

pub returns-then-align-eq0 : goal.returns-then-align-eq0
unfolding next_multiple
returns-then-align-eq0 c = simp (eq-eqb _ _ c.if-align-eq0.true)

pub returns-then-past-eq0 : goal.returns-then-past-eq0
unfolding next_multiple
returns-then-past-eq0 c = simp (ne_eqb _ _ c.if-align-eq0.false, eq-eqb _ _ c.if-past-eq0.true)

pub overflow_sub-result : goal.overflow_sub-result
overflow_sub-result c = let a = c.args in
    omega (arith, below-align a.at a.align c.if-align-eq0.false)

pub overflow_add-result : goal.overflow_add-result
overflow_add-result c = let a = c.args in
    record { fits = rounded-below a.at a.align _ (search rules) (search rules) }

pub returns : goal.returns
unfolding next_multiple
returns c = simp (ne_eqb _ _ c.if-align-eq0.false, ne_eqb _ _ c.if-past-eq0.false)
