-- `every_call_runs` meets its contract: start-ups are accepted and calls have runs.
use Rattle.sequence.proofs.Runs.{starts-accepted, every-call-runs}
use Rattle.sequence.proofs.every_call_runs.Goals as goal

pub returns : goal.returns
returns c = (starts-accepted, every-call-runs)
