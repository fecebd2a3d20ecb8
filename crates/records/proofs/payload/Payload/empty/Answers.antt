-- `Payload::empty` meets its contract.
use Rattle.words.specs.Splice.{splice}
use Rattle.records.specs.Payload.{empty, named, kept_name}
use Rattle.records.proofs.payload.Payload.empty.Goals as goal

pub returns : goal.returns
unfolding empty named kept_name splice
returns c = rw (c.none-no_id.ensures, c.none-no_edit.ensures)
