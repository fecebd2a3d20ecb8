-- `store_edits` meets its contract: the first `i` edits are written.
use mathlib.Core.Path.{◌≡◌, sym}
use native.Mathlib.Omega.{arith}
use lib.ListN.{length}
use Rattle.records.specs.Limits.{records_max}
use Rattle.records.specs.Payload.{no_edit}
use Rattle.records.proofs.Edits.{copied}
use Rattle.state_bytes.proofs.Rows.{rows_back, table-begin, table-turn, table-end}
use Rattle.state_bytes.proofs.Readers.{edit_at-local, length-edit}
use Rattle.state_writes.proofs.edits.store_edits.Goals as goal

pub loop-i-init : goal.loop-i-init
loop-i-init c = table-begin _ _ _ _ _ _ _

pub loop-i-preserved : goal.loop-i-preserved
loop-i-preserved c = let edits = c.args.edits in
    let same = sym (copied edits c.loop-i.i (omega arith)) in
    let told = rw same at c.store_edit.ensures in
    table-turn _ _ _ _ _ _ _ c.loop-i.invariant (omega arith) (omega arith) (record { wide = length-edit _; back = told.edit_value }) told.b_after

pub returns : goal.returns
returns c = let edits = c.args.edits in
    let all : c.loop-i.i ≡ length edits = omega arith in
    let size : length edits ≡ records_max = omega arith in
    let k = c.loop-i.invariant in record { b_after = table-end _ _ _ _ _ _ _ k all; edits_len = (size, rows_back _ _ _ edits no_edit edit_at-local (rw all at k.rows) records_max size) }
