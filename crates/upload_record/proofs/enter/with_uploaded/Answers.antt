-- `enter::with_uploaded` meets its contract.
use Rattle.upload_record.proofs.enter.with_uploaded.Goals as goal

pub returns : goal.returns
returns c = rw c.wrapping_add_u32.ensures.value
