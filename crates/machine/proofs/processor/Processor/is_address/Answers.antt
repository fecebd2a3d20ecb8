-- `Processor::is_address` meets its contract.
use Rattle.machine.proofs.Only.{only}
use Rattle.machine.proofs.processor.Processor.is_address.Goals as goal

pub returns : goal.returns
returns c = rw (only c.args.self)
