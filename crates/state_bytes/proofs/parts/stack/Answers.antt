-- `parts::stack` meets its contract.
use Rattle.state_bytes.specs.Stored.{state_in}
use Rattle.state_bytes.proofs.parts.stack.Goals as goal

pub returns : goal.returns
unfolding state_in
returns c = c.load_stack.ensures
