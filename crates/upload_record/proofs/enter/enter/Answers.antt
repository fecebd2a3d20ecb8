-- `enter::enter` meets its contract: the record is put last.
use Rattle.std.proofs.Common.{◌∙◌}
use Rattle.upload_record.proofs.enter.enter.Goals as goal

pub returns : goal.returns
returns c = let registered = c.register.ensures in
    record { value = c.with_uploaded.ensures ∙ rw registered.value; ids_after = registered.ids_after }
