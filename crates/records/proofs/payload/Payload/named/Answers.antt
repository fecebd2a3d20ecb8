-- `Payload::named` meets its contract.
use Rattle.records.specs.Payload.{empty, named, kept_name}
use Rattle.words.specs.Splice.{splice}
use Rattle.records.proofs.payload.Payload.named.Goals as goal

pub returns : goal.returns
unfolding named empty kept_name splice
returns c = simp (c.fill_name.ensures, c.empty-one.ensures)
