-- `enter::record_for` meets its contract: the record with the name, and what was prepared.
use Rattle.records.specs.Payload.{named}
use Rattle.upload_record.proofs.enter.record_for.Goals as goal

pub returns : goal.returns
unfolding named
returns c = rw c.named-one.ensures
