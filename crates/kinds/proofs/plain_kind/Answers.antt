-- `plain_kind` meets its contract.
use mathlib.Core.Path.{sym}
use borrow.Author.Tests.{eq-eqb, ne_eqb}
use Rattle.kinds.proofs.plain_kind.Goals as goal

pub returns-then-t-eq2 : goal.returns-then-t-eq2
returns-then-t-eq2 c = simp (eq-eqb _ _ c.if-t-eq2.true)

pub returns-then-t-eq3 : goal.returns-then-t-eq3
returns-then-t-eq3 c = simp (ne_eqb _ _ c.if-t-eq2.false, eq-eqb _ _ c.if-t-eq3.true)

pub returns-then-t-eq4 : goal.returns-then-t-eq4
returns-then-t-eq4 c = simp (ne_eqb _ _ c.if-t-eq2.false, ne_eqb _ _ c.if-t-eq3.false, eq-eqb _ _ c.if-t-eq4.true)

pub returns-then-t-ne1 : goal.returns-then-t-ne1
returns-then-t-ne1 c = simp (
  ne_eqb _ _ c.if-t-eq2.false,
  ne_eqb _ _ c.if-t-eq3.false,
  ne_eqb _ _ c.if-t-eq4.false,
  ne_eqb _ _ c.if-t-ne1.true,
)

pub returns-then-is_ignored_name : goal.returns-then-is_ignored_name
returns-then-is_ignored_name c = simp (
  ne_eqb _ _ c.if-t-eq2.false,
  ne_eqb _ _ c.if-t-eq3.false,
  ne_eqb _ _ c.if-t-eq4.false,
  eq-eqb _ _ c.if-t-ne1.false,
  sym c.is_ignored_name.ensures,
  c.if-is_ignored_name.true,
)

pub returns : goal.returns
returns c = simp (
  ne_eqb _ _ c.if-t-eq2.false,
  ne_eqb _ _ c.if-t-eq3.false,
  ne_eqb _ _ c.if-t-eq4.false,
  eq-eqb _ _ c.if-t-ne1.false,
  sym c.is_ignored_name.ensures,
  c.if-is_ignored_name.false,
)
