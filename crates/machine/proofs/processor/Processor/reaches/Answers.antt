-- `Processor::reaches` meets its contract.
use Rattle.machine.specs.X86.{fits_four_bytes}
use Rattle.machine.proofs.Only.{only}
use Rattle.machine.proofs.processor.Processor.reaches.Goals as goal

pub returns : goal.returns
unfolding fits_four_bytes
returns c = rw (only c.args.self) c.fits_signed.ensures
