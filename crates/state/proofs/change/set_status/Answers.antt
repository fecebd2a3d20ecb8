-- `change::set_status` meets its contract: the payload is copied out, changed and put back.
use mathlib.Core.Path.{ap}
use native.Mathlib.Omega.{arith}
use lib.ListN.{set}
use Rattle.records.specs.declared.payload.Payload.{Payload}
use Rattle.state.specs.State.{with_status, with_payloads}
use Rattle.state.proofs.Whole.{whole, copied-payload}
use Rattle.state.proofs.change.set_status.Goals as goal

pub returns : goal.returns
returns c = let a = c.args in
    ap (λ (p : Payload). with_payloads (set a.state.payloads a.i (with_status a.status p)) a.state)
    (copied-payload (whole a.state _ c.well_formed.0) a.i (omega arith))
