-- `head::load_job` meets its contract.
use Rattle.state_bytes.specs.Stored.{job_at}
use Rattle.state_bytes.proofs.head.load_job.Goals as goal

pub returns : goal.returns
unfolding job_at
returns c = cc
