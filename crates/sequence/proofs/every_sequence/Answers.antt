-- `every_sequence` meets its contract: the claim is a law.
use Rattle.sequence.proofs.Sequence.{every-sequence}
use Rattle.sequence.proofs.every_sequence.Goals as goal

pub returns : goal.returns
returns c = every-sequence
