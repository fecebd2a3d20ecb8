-- `sections::check_name_table` meets its contract.
use mathlib.Core.Path.{sym}
use mathlib.Core.Bool.{and-false}
use native.Mathlib.Omega.{arith}
use borrow.Author.Tests.{lt-ltb, le-ltb, eq-eqb, ne_eqb}
use Rattle.words.proofs.Tests.{held, refuted}
use Rattle.object.specs.Sections.{name_table_rules}
use Rattle.object.proofs.SectionLaws.{count-read, names-read}
use Rattle.object.proofs.sections.check_name_table.Goals as goal

pub returns-then-h : goal.returns-then-h
unfolding name_table_rules
returns-then-h c = let e = c.read_file_header-h.ensures.value in
    simp (sym (count-read _ e), sym (names-read _ e), le-ltb _ _ c.if-h.true)

pub header_at-names-requires : goal.header_at-names-requires
header_at-names-requires c = (c.requires, omega (arith, count-read _ c.read_file_header-h.ensures.value))

pub returns-then-names-ne3 : goal.returns-then-names-ne3
unfolding name_table_rules
returns-then-names-ne3 c = let e = c.read_file_header-h.ensures.value in
    simp (
      sym (count-read _ e),
      sym (names-read _ e),
      sym c.header_at-names.ensures,
      ne_eqb _ _ c.if-names-ne3.true,
      and-false,
    )

pub returns-then-not-lies_within : goal.returns-then-not-lies_within
unfolding name_table_rules
returns-then-not-lies_within c = let e = c.read_file_header-h.ensures.value in
    simp (
      sym (count-read _ e),
      sym (names-read _ e),
      sym c.header_at-names.ensures,
      refuted c.lies_within.ensures c.if-not-lies_within.true,
      and-false,
    )

pub returns : goal.returns
unfolding name_table_rules
returns c = let e = c.read_file_header-h.ensures.value in
    simp (
      sym (count-read _ e),
      sym (names-read _ e),
      sym c.header_at-names.ensures,
      lt-ltb _ _ c.if-h.false,
      eq-eqb _ _ c.if-names-ne3.false,
      held c.lies_within.ensures c.if-not-lies_within.false,
    )
