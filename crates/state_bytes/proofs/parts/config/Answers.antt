-- `parts::config` meets its contract.
use Rattle.state_bytes.specs.Stored.{state_in}
use Rattle.state_bytes.proofs.parts.config.Goals as goal

pub returns : goal.returns
unfolding state_in
returns c = c.load_config.ensures
