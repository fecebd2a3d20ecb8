-- `Processor::displacement` meets its contract.
use Rattle.machine.specs.X86.{displacement_of}
use Rattle.machine.proofs.Only.{only}
use Rattle.machine.proofs.processor.Processor.displacement.Goals as goal

pub returns : goal.returns
unfolding displacement_of
returns c = rw (only c.args.self) (rw c.add.ensures at c.subtract.ensures)
