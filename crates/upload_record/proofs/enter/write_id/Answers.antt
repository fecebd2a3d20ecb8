-- `enter::write_id` meets its contract: the entry begins at `id_max` times the slot.
use Rattle.upload_record.proofs.enter.write_id.Goals as goal

pub returns : goal.returns
returns c = c.copy.ensures
