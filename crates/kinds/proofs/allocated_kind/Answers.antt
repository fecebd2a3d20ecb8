-- `allocated_kind` meets its contract.
use mathlib.Core.Bool.{and-false}
use borrow.Author.Tests.{eq-eqb, ne_eqb}
use Rattle.words.proofs.Tests.{held, refuted}
use Rattle.kinds.proofs.allocated_kind.Goals as goal

pub returns-then-not-is_placed_name : goal.returns-then-not-is_placed_name
returns-then-not-is_placed_name c = simp (refuted c.is_placed_name.ensures c.if-not-is_placed_name.true, and-false)

pub returns-then-h-eq1 : goal.returns-then-h-eq1
returns-then-h-eq1 c = simp (held c.is_placed_name.ensures c.if-not-is_placed_name.false, eq-eqb _ _ c.if-h-eq1.true)

pub returns-then-h-eq7 : goal.returns-then-h-eq7
returns-then-h-eq7 c = simp (
  held c.is_placed_name.ensures c.if-not-is_placed_name.false,
  ne_eqb _ _ c.if-h-eq1.false,
  eq-eqb _ _ c.if-h-eq7.true,
)

pub returns-then-h-eq8 : goal.returns-then-h-eq8
returns-then-h-eq8 c = simp (
  held c.is_placed_name.ensures c.if-not-is_placed_name.false,
  ne_eqb _ _ c.if-h-eq1.false,
  ne_eqb _ _ c.if-h-eq7.false,
  eq-eqb _ _ c.if-h-eq8.true,
)

pub returns : goal.returns
returns c = simp (ne_eqb _ _ c.if-h-eq1.false, ne_eqb _ _ c.if-h-eq7.false, ne_eqb _ _ c.if-h-eq8.false)
