-- `fields_ok` meets its contract: a field that is wrong makes the whole test false, whatever the fields before it are.
use mathlib.Core.Path.{sym}
use mathlib.Core.Bool.{and-false}
use borrow.Author.Tests.{le-leb, lt-leb, eq-eqb, ne_eqb}
use Rattle.header.specs.Header.{fields_ok}
use Rattle.header.proofs.fields_ok.Goals as goal

pub returns-then-h-ne1179403647 : goal.returns-then-h-ne1179403647
unfolding fields_ok
returns-then-h-ne1179403647 c = simp (ne_eqb _ _ c.if-h-ne1179403647.true)

pub returns-then-h-ne2 : goal.returns-then-h-ne2
unfolding fields_ok
returns-then-h-ne2 c = simp (ne_eqb _ _ c.if-h-ne2.true, and-false)

pub returns-then-h-ne1 : goal.returns-then-h-ne1
unfolding fields_ok
returns-then-h-ne1 c = simp (ne_eqb _ _ c.if-h-ne1.true, and-false)

pub returns-then-h-ne1-2 : goal.returns-then-h-ne1-2
unfolding fields_ok
returns-then-h-ne1-2 c = simp (ne_eqb _ _ c.if-h-ne1-2.true, and-false)

pub returns-then-h-ne1-3 : goal.returns-then-h-ne1-3
unfolding fields_ok
returns-then-h-ne1-3 c = simp (ne_eqb _ _ c.if-h-ne1-3.true, and-false)

pub returns-then-h-number : goal.returns-then-h-number
unfolding fields_ok
returns-then-h-number c = simp (sym c.number.ensures, ne_eqb _ _ c.if-h-number.true, and-false)

pub returns-then-h-ne1-4 : goal.returns-then-h-ne1-4
unfolding fields_ok
returns-then-h-ne1-4 c = simp (ne_eqb _ _ c.if-h-ne1-4.true, and-false)

pub returns-then-h : goal.returns-then-h
unfolding fields_ok
returns-then-h c = simp (ne_eqb _ _ c.if-h.true, and-false)

pub returns-then-h-lt1 : goal.returns-then-h-lt1
unfolding fields_ok
returns-then-h-lt1 c = simp (lt-leb _ _ c.if-h-lt1.true, and-false)

pub returns-then-h-2 : goal.returns-then-h-2
unfolding fields_ok
returns-then-h-2 c = simp (lt-leb _ _ c.if-h-2.true, and-false)

pub returns : goal.returns
unfolding fields_ok
returns c = simp (
  eq-eqb _ _ c.if-h-ne1179403647.false,
  eq-eqb _ _ c.if-h-ne2.false,
  eq-eqb _ _ c.if-h-ne1.false,
  eq-eqb _ _ c.if-h-ne1-2.false,
  eq-eqb _ _ c.if-h-ne1-3.false,
  sym c.number.ensures,
  eq-eqb _ _ c.if-h-number.false,
  eq-eqb _ _ c.if-h-ne1-4.false,
  eq-eqb _ _ c.if-h.false,
  le-leb _ _ c.if-h-lt1.false,
  le-leb _ _ c.if-h-2.false,
)
