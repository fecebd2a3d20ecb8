-- `Processor::relocation_type` meets its contract.
use Rattle.machine.proofs.Only.{only}
use Rattle.machine.proofs.processor.Processor.relocation_type.Goals as goal

pub returns : goal.returns
returns c = rw (only c.args.self) c.x86_type.ensures
