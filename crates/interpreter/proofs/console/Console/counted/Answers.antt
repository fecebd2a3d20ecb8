-- `Console::counted` meets its contract.
use Rattle.interpreter.specs.Lines.{number_after}
use Rattle.interpreter.proofs.console.Console.counted.Goals as goal

pub returns : goal.returns
unfolding number_after
returns c = rw c.wrapping_add_u64.ensures.value
