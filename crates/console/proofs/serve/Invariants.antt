-- `serve` calls what it may: what counts lies within the buffers at each read.
use Rattle.console.specs.Buffers.{Ready}
use Rattle.console.proofs.serve.Given as goal

abbrev pub invariant-loop : goal.invariant-loop
invariant-loop l = Ready l.run.console l.run.held
