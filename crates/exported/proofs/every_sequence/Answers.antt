-- `every_sequence` meets its contract: the claim is a law.
use Rattle.exported.proofs.Exported.{every-sequence}
use Rattle.exported.proofs.every_sequence.Goals as goal

pub returns : goal.returns
returns c = every-sequence
