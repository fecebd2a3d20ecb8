-- `Processor::jump_length` meets its contract.
use mathlib.Core.Path.{refl}
use native.Mathlib.Omega.{arith}
use Rattle.machine.proofs.Only.{only}
use Rattle.machine.proofs.processor.Processor.jump_length.Goals as goal

pub returns : goal.returns
returns c = rw (only c.args.self) (refl, omega arith)
