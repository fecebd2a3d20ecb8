-- `name::is_name` meets its contract: each test that fails decides, and then the place of the first zero byte does.
use mathlib.Core.Path.{sym}
use borrow.Author.Tests.{le-leb, lt-leb}
use Rattle.records.specs.Name.{is_name}
use Rattle.records.proofs.name.is_name.Goals as goal

pub returns-then-name-lt-NAME_MIN : goal.returns-then-name-lt-NAME_MIN
unfolding is_name
returns-then-name-lt-NAME_MIN c = simp (lt-leb _ _ c.if-name-lt-NAME_MIN.true)

pub returns-then-name-gt-NAME_MAX : goal.returns-then-name-gt-NAME_MAX
unfolding is_name
returns-then-name-gt-NAME_MAX c = simp (le-leb _ _ c.if-name-lt-NAME_MIN.false, lt-leb _ _ c.if-name-gt-NAME_MAX.true)

pub returns-in_default : goal.returns-in_default
unfolding is_name
returns-in_default c = simp (
  le-leb _ _ c.if-name-lt-NAME_MIN.false,
  le-leb _ _ c.if-name-gt-NAME_MAX.false,
  sym c.find_zero.ensures,
  c.in_default.is,
)

pub returns : goal.returns
unfolding is_name
returns c = simp (
  le-leb _ _ c.if-name-lt-NAME_MIN.false,
  le-leb _ _ c.if-name-gt-NAME_MAX.false,
  sym c.find_zero.ensures,
  c.in-Some.is,
)
