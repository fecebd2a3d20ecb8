-- `store_edits` meets its contract: the first `i` edits are written.
use Rattle.records.specs.Payload.{no_edit}
use Rattle.state_bytes.specs.Layout.{edit_size}
use Rattle.state_bytes.specs.Stored.{stored_edit, edit_at}
use Rattle.state_bytes.proofs.Rows.{Table}
use Rattle.state_writes.proofs.edits.store_edits.Given as goal

abbrev pub invariant-loop-i : goal.invariant-loop-i
invariant-loop-i l = Table stored_edit edit_at edit_size l.edit-items no_edit l.initial.b l.at l.i l.b
