-- `store_payloads` meets its contract: the first `i` payloads are written.
use mathlib.Core.Path.{◌≡◌}
use native.Mathlib.Omega.{arith}
use lib.ListN.{length}
use Rattle.memory.specs.Memory.{slot_count}
use Rattle.state.proofs.Whole.{no_copy}
use Rattle.state_bytes.proofs.Rows.{rows_back, table-begin, table-turn, table-end}
use Rattle.state_bytes.proofs.Readers.{payload_at-local}
use Rattle.state_writes.proofs.payloads.store_payloads.Goals as goal

pub loop-i-init : goal.loop-i-init
loop-i-init c = table-begin _ _ _ _ _ _ _

pub loop-i-preserved : goal.loop-i-preserved
loop-i-preserved c = let told = c.store_payload.ensures in
    table-turn _ _ _ _ _ _ _ c.loop-i.invariant (omega arith) (omega arith) (record { wide = told.payload_len.0; back = told.payload_len.1 }) told.b_after

pub returns : goal.returns
returns c = let payloads = c.args.payloads in
    let all : c.loop-i.i ≡ length payloads = omega arith in
    let size : length payloads ≡ slot_count = omega arith in
    let k = c.loop-i.invariant in record { b_after = table-end _ _ _ _ _ _ _ k all; payloads_len = (size, rows_back _ _ _ payloads no_copy payload_at-local (rw all at k.rows) slot_count size) }
