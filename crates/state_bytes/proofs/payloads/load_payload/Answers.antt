-- `payloads::load_payload` meets its contract.
use Rattle.state_bytes.specs.Stored.{payload_at}
use Rattle.state_bytes.proofs.payloads.load_payload.Goals as goal

pub returns : goal.returns
unfolding payload_at
returns c = cc
