-- `store_stack` meets its contract: the first `i` slots are written.
use mathlib.Core.Path.{◌≡◌}
use native.Mathlib.Omega.{arith}
use lib.ListN.{length}
use Rattle.memory.specs.Memory.{slot_count}
use Rattle.state_bytes.proofs.Fields.{le_at-local}
use Rattle.state_bytes.proofs.Rows.{number-row, rows_back, table-begin, table-turn, table-end}
use Rattle.state_writes.proofs.head.store_stack.Goals as goal

pub loop-i-init : goal.loop-i-init
loop-i-init c = table-begin _ _ _ _ _ _ _

pub loop-i-preserved : goal.loop-i-preserved
loop-i-preserved c = let told = c.store4.ensures in
    table-turn _ _ _ _ _ _ _ c.loop-i.invariant (omega arith) (omega arith) (number-row 4 _ told.x_bound) told.b_after

pub returns : goal.returns
returns c = let stack = c.args.stack in
    let all : c.loop-i.i ≡ length stack = omega arith in
    let size : length stack ≡ slot_count = omega arith in
    let k = c.loop-i.invariant in record { b_after = table-end _ _ _ _ _ _ _ k all; stack_len = (size, rows_back _ _ _ stack 0 (le_at-local 4) (rw all at k.rows) slot_count size) }
