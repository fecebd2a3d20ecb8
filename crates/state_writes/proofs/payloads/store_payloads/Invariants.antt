-- `store_payloads` meets its contract: the first `i` payloads are written.
use Rattle.state.proofs.Whole.{no_copy}
use Rattle.state_bytes.specs.Layout.{payload_size, payloads_place}
use Rattle.state_bytes.specs.Stored.{payload_bytes, payload_at}
use Rattle.state_bytes.proofs.Rows.{Table}
use Rattle.state_writes.proofs.payloads.store_payloads.Given as goal

abbrev pub invariant-loop-i : goal.invariant-loop-i
invariant-loop-i l = Table payload_bytes payload_at payload_size l.payload-items no_copy l.initial.b payloads_place l.i l.b
