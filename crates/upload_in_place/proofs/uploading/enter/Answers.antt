-- `uploading::enter` meets its contract: the record is put last.
use Rattle.in_place.proofs.Laws.{holds_as}
use Rattle.upload_in_place.proofs.uploading.enter.Goals as goal

pub returns : goal.returns
returns c = let registered = c.register.ensures in
    record { holds_state = holds_as c.append.ensures (rw registered.value); ids_after = registered.ids_after }
