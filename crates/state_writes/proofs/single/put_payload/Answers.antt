-- `single::put_payload` meets its contract.
use native.Mathlib.Omega.{arith}
use Rattle.state.proofs.Whole.{whole-payload}
use Rattle.state_bytes.proofs.Laws.{state-length}
use Rattle.state_writes.proofs.Replaced.{payload-replaced}
use Rattle.state_writes.proofs.single.put_payload.Goals as goal

pub store_payload-requires : goal.store_payload-requires
store_payload-requires c = omega (arith, c.requires.1, state-length _ c.requires.0)

pub returns : goal.returns
returns c = payload-replaced c.args.b.now (λ i. omega (arith, c.slice_known-1.given i)) c.requires.0 c.args.i c.args.payload c.requires.1
    (whole-payload c.args.payload _ c.well_formed.1.1.0) c.store_payload.ensures.payload_len.1 c.store_payload.ensures.b_after
