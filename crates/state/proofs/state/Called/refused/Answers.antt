-- `state::Called::refused` meets its contract: the refusal, and the state as it came.
use Rattle.state.proofs.state.Called.refused.Goals as goal

pub returns : goal.returns
returns c = rw c.refused-verdict.ensures
