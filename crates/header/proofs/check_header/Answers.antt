-- `check_header` meets its contract.
use mathlib.Core.Path.{sym}
use mathlib.Core.Bool.{and-false}
use borrow.Author.Tests.{le-leb, lt-leb}
use Rattle.words.proofs.Tests.{held, refuted}
use Rattle.header.specs.Header.{size_ok, header_rules}
use Rattle.header.proofs.check_header.Goals as goal

pub returns-then-file-lt-FILE_MIN : goal.returns-then-file-lt-FILE_MIN
unfolding header_rules size_ok
returns-then-file-lt-FILE_MIN c = simp (lt-leb _ _ c.if-file-lt-FILE_MIN.true)

pub returns-then-file-gt-FILE_MAX : goal.returns-then-file-gt-FILE_MAX
unfolding header_rules size_ok
returns-then-file-gt-FILE_MAX c = simp (lt-leb _ _ c.if-file-gt-FILE_MAX.true, and-false)

pub returns-then-not-fields_ok : goal.returns-then-not-fields_ok
unfolding header_rules
returns-then-not-fields_ok c = simp (sym c.read_file_header-h.ensures.value, refuted c.fields_ok.ensures c.if-not-fields_ok.true, and-false)

pub returns-then-not-lies_within : goal.returns-then-not-lies_within
unfolding header_rules
returns-then-not-lies_within c = simp (
  sym c.read_file_header-h.ensures.value,
  refuted c.lies_within.ensures c.if-not-lies_within.true,
  and-false,
)

pub returns : goal.returns
unfolding header_rules size_ok
returns c = simp (
  le-leb _ _ c.if-file-lt-FILE_MIN.false,
  le-leb _ _ c.if-file-gt-FILE_MAX.false,
  sym c.read_file_header-h.ensures.value,
  held c.fields_ok.ensures c.if-not-fields_ok.false,
  held c.lies_within.ensures c.if-not-lies_within.false,
)
