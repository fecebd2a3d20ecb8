-- `sections::consulted_fields` meets its contract.
use mathlib.Core.Bool.{or-true}
use native.Mathlib.Omega.{arith}
use borrow.Author.Tests.{eq-eqb, ne_eqb}
use Rattle.object.specs.Sections.{consulted_fields}
use Rattle.object.proofs.sections.consulted_fields.Goals as goal

pub returns-then-t-eq4 : goal.returns-then-t-eq4
unfolding consulted_fields
returns-then-t-eq4 c = simp (eq-eqb _ _ c.if-t-eq4.true, ne_eqb c.args.h.sh_type 8 (λ e. omega arith), or-true)

pub returns-then-t-eq2 : goal.returns-then-t-eq2
unfolding consulted_fields
returns-then-t-eq2 c = simp (
  ne_eqb _ _ c.if-t-eq4.false,
  eq-eqb _ _ c.if-t-eq2.true,
  ne_eqb c.args.h.sh_type 8 (λ e. omega arith),
)

pub returns-then-t-eq8 : goal.returns-then-t-eq8
unfolding consulted_fields
returns-then-t-eq8 c = simp (
  ne_eqb _ _ c.if-t-eq4.false,
  ne_eqb _ _ c.if-t-eq2.false,
  eq-eqb _ _ c.if-t-eq8.true,
)

pub returns-else-t-eq8 : goal.returns-else-t-eq8
unfolding consulted_fields
returns-else-t-eq8 c = simp (
  ne_eqb _ _ c.if-t-eq4.false,
  ne_eqb _ _ c.if-t-eq2.false,
  ne_eqb _ _ c.if-t-eq8.false,
)
