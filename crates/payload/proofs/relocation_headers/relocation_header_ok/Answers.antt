-- `relocation_header_ok` meets its contract.
use borrow.Author.Tests.{lt-ltb, le-ltb, eq-eqb, ne_eqb}
use Rattle.object.specs.Sections.{no_entry}
use Rattle.payload.specs.RelocationHeaders.{relocation_header_ok}
use Rattle.payload.proofs.relocation_headers.relocation_header_ok.Goals as goal

pub returns-then-h-symbols : goal.returns-then-h-symbols
unfolding relocation_header_ok
returns-then-h-symbols c = simp (ne_eqb _ _ c.if-h-symbols.true)

pub returns-then-h : goal.returns-then-h
unfolding relocation_header_ok
returns-then-h c = simp (eq-eqb _ _ c.if-h-symbols.false, ne_eqb _ _ c.if-h.true)

pub returns-then-h-ne0 : goal.returns-then-h-ne0
unfolding relocation_header_ok
returns-then-h-ne0 c = simp (eq-eqb _ _ c.if-h-symbols.false, eq-eqb _ _ c.if-h.false, ne_eqb _ _ c.if-h-ne0.true)

pub returns-then-count-target : goal.returns-then-count-target
unfolding relocation_header_ok
returns-then-count-target c = simp (
  eq-eqb _ _ c.if-h-symbols.false,
  eq-eqb _ _ c.if-h.false,
  eq-eqb _ _ c.if-h-ne0.false,
  le-ltb _ _ c.if-count-target.true,
)

pub returns : goal.returns
unfolding relocation_header_ok no_entry
returns c = simp (
  eq-eqb _ _ c.if-h-symbols.false,
  eq-eqb _ _ c.if-h.false,
  eq-eqb _ _ c.if-h-ne0.false,
  lt-ltb _ _ c.if-count-target.false,
  c.is_target.ensures,
)
