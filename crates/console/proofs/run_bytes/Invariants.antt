-- `run_bytes` meets its contract: what counts lies within the buffers at each byte.
use Rattle.console.specs.Buffers.{Ready}
use Rattle.console.proofs.run_bytes.Given as goal

abbrev pub invariant-loop-b : goal.invariant-loop-b
invariant-loop-b l = Ready l.run.console l.run.held
