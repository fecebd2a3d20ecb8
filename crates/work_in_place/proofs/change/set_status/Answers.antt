-- `change::set_status` meets its contract.
use mathlib.Core.Path.{ap}
use lib.ListN.{set}
use Rattle.records.specs.declared.payload.Payload.{Payload}
use Rattle.state.specs.State.{with_status, with_payloads}
use Rattle.state_bytes.specs.Stored.{state_in}
use Rattle.state_bytes.proofs.Laws.{state-length}
use Rattle.in_place.proofs.Laws.{holds_as}
use Rattle.work_in_place.proofs.change.set_status.Goals as goal

pub returns : goal.returns
returns c = let s = state_in c.args.b.now in
    holds_as c.put_payload.ensures
    (ap (λ (p : Payload). with_payloads (set s.payloads c.args.i (with_status c.args.status p)) s) c.payload-payload.ensures)

pub payload-payload-requires : goal.payload-payload-requires
payload-payload-requires c = (state-length _ c.requires.0, c.requires.1)

pub put_payload-requires : goal.put_payload-requires
put_payload-requires c = c.requires
