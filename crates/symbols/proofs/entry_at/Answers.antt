-- `entry_at` meets its contract: each answer is the one of the tests that led there.
use Rattle.std.proofs.Common.{◌≡◌, not, is_some, arith}
use borrow.Author.Tests.{le-leb, lt-leb}
use Rattle.symbols.specs.SymbolList.{whole_at, entry_at, entry_if}
use Rattle.symbols.proofs.Laws.{Read, read-broken, read_whole}
use Rattle.symbols.proofs.entry_at.Goals as goal
use Rattle.symbols.proofs.entry_at.Goals.{In_ok-name_length, After-is_some}

-- what `whole_at` found
read :
    (c : goal.In_ok-name_length) →
    let a = c.args in
    Read (whole_at a.list.now a.at) a.list.now a.at c.in_ok-name_length.name_length
read c = read_whole _ _ c.whole_at.ensures c.in_ok-name_length.was

pub returns-in_err-name_length : goal.returns-in_err-name_length
unfolding entry_at entry_if
returns-in_err-name_length c = let a = c.args in
    rw (c.from_residual.ensures, read-broken (whole_at a.list.now a.at) a.list.now a.at c.whole_at.ensures c.in_err-name_length.was)

pub returns-then-name_length-lt1 : goal.returns-then-name_length-lt1
unfolding entry_at entry_if
returns-then-name_length-lt1 c = let r = read (goal.at.returns-then-name_length-lt1 c).In_ok-name_length in
    rw (r.holds, r.long, lt-leb _ _ c.if-name_length-lt1.true)

pub returns-then-name_length-gt-NAME_MAX : goal.returns-then-name_length-gt-NAME_MAX
unfolding entry_at entry_if
returns-then-name_length-gt-NAME_MAX c = let r = read (goal.at.returns-then-name_length-gt-NAME_MAX c).In_ok-name_length in
    rw (r.holds, r.long, le-leb _ _ c.if-name_length-lt1.false, lt-leb _ _ c.if-name_length-gt-NAME_MAX.true)

pub overflow_add-start : goal.overflow_add-start
overflow_add-start c = omega (arith, (read (goal.at.overflow_add-start c).In_ok-name_length).inside)

pub overflow_add-end : goal.overflow_add-end
overflow_add-end c = omega (arith, (read (goal.at.overflow_add-end c).In_ok-name_length).inside)

pub slice_bounds-find_zero-end : goal.slice_bounds-find_zero-end
slice_bounds-find_zero-end c = omega (arith, (read (goal.at.slice_bounds-find_zero-end c).In_ok-name_length).inside)

-- with a name of a right length it is an entry where no zero byte is found
zero-decides :
    (c : goal.After-is_some) →
    let a = c.args in
    entry_at a.list.now a.at ≡ not c.is_some.result
unfolding entry_at
zero-decides c =
    let r = read (goal.at.After-is_some c).In_ok-name_length in
    let found = rw r.name at c.find_zero.ensures in
    rw (r.holds, r.long, le-leb _ _ c.if-name_length-lt1.false, le-leb _ _ c.if-name_length-gt-NAME_MAX.false, ← found, c.is_some.ensures)

pub returns-then-is_some : goal.returns-then-is_some
unfolding entry_if
returns-then-is_some c = rw (zero-decides (goal.at.returns-then-is_some c).After-is_some, c.if-is_some.true)

pub returns : goal.returns
unfolding entry_if
returns c = rw (
  zero-decides (goal.at.returns c).After-is_some,
  c.if-is_some.false,
  (read (goal.at.returns c).In_ok-name_length).long,
)
