-- `sections::entry_at` meets its contract.
use mathlib.Core.Path.{sym}
use borrow.Author.Tests.{eq-eqb, ne_eqb}
use Rattle.object.specs.Sections.{section_read}
use Rattle.object.proofs.sections.entry_at.Goals as goal

pub returns-then-h-eq0 : goal.returns-then-h-eq0
unfolding section_read
returns-then-h-eq0 c = rw (← c.header_at-h.ensures, eq-eqb _ _ c.if-h-eq0.true) c.none.ensures

pub returns : goal.returns
unfolding section_read
returns c = simp (
  sym c.header_at-h.ensures,
  ne_eqb _ _ c.if-h-eq0.false,
  c.consulted_fields.ensures,
  c.kind_in.ensures,
  c.requires.2,
)
