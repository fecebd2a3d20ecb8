-- `head::load_config` meets its contract.
use Rattle.state_bytes.specs.Stored.{config_at}
use Rattle.state_bytes.proofs.head.load_config.Goals as goal

pub returns : goal.returns
unfolding config_at
returns c = cc
