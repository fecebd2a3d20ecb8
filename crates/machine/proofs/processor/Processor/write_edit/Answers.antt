-- `Processor::write_edit` meets its contract.
use Rattle.machine.proofs.Only.{only}
use Rattle.machine.proofs.processor.Processor.write_edit.Goals as goal

pub write_x86-requires : goal.write_x86-requires
write_x86-requires c = rw (only c.args.self) at c.requires

pub returns : goal.returns
returns c = rw (only c.args.self) c.write_x86.ensures
