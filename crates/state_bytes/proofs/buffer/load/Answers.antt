-- `buffer::load` meets its contract.
use Rattle.state_bytes.specs.Stored.{state_in}
use Rattle.state_bytes.proofs.buffer.load.Goals as goal

pub returns : goal.returns
unfolding state_in
returns c = cc
