-- `Processor::is_fill_size` meets its contract.
use Rattle.machine.proofs.Only.{only}
use Rattle.machine.proofs.processor.Processor.is_fill_size.Goals as goal

pub returns : goal.returns
returns c = rw (only c.args.self) c.x86_fill.ensures
