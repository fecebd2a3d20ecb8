-- `State::with_config` meets its contract: eight empty records, an empty stack, no job.
use Rattle.state.specs.State.{state_with}
use Rattle.state.proofs.state.State.with_config.Goals as goal

pub returns : goal.returns
unfolding state_with
returns c = rw (c.empty-none.ensures, c.none-job.ensures)
