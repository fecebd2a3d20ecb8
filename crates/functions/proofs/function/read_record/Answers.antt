-- `read_record` meets its contract.
use Rattle.functions.specs.Records.{record_of}
use Rattle.functions.proofs.function.read_record.Goals as goal

pub returns : goal.returns
unfolding record_of
returns c = cc
