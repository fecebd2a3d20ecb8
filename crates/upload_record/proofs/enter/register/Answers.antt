-- `enter::register` meets its contract: the id is written, and the record is made.
use Rattle.upload_record.proofs.enter.register.Goals as goal

pub returns : goal.returns
returns c = record { value = c.record_for.ensures; ids_after = c.write_id.ensures }
