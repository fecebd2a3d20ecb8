-- `whole_at` meets its contract: each answer is the one of the tests that led there.
use Prim.Native.Nat.{◌+◌}
use native.Mathlib.Omega.{arith}
use Rattle.symbols.specs.SymbolList.{entry_if}
use Rattle.symbols.proofs.Laws.{whole-holds, whole-fails, head-fails}
use Rattle.symbols.proofs.whole_at.Goals as goal

pub returns-then-list-lt9 : goal.returns-then-list-lt9
unfolding entry_if
returns-then-list-lt9 c = let a = c.args in
    rw (head-fails a.list.now a.at (omega arith))

pub returns-then-list-at : goal.returns-then-list-at
unfolding entry_if
returns-then-list-at c = let a = c.args in
    rw (head-fails a.list.now a.at (omega arith))

pub overflow_cast-name_length : goal.overflow_cast-name_length
overflow_cast-name_length c = omega (arith, c.shared_slice_known-1.given (c.args.at + 8))

pub returns-then-list-at-2 : goal.returns-then-list-at-2
unfolding entry_if
returns-then-list-at-2 c = let a = c.args in
    rw (whole-fails a.list.now a.at (omega arith))

pub returns : goal.returns
unfolding entry_if
returns c = let a = c.args in
    rw (whole-holds a.list.now a.at (omega arith))
