-- `single::put_job` meets its contract.
use native.Mathlib.Omega.{arith}
use Rattle.state_bytes.proofs.Laws.{state-length}
use Rattle.state_writes.proofs.Replaced.{job-replaced}
use Rattle.state_writes.proofs.single.put_job.Goals as goal

pub store_job-requires : goal.store_job-requires
store_job-requires c = state-length _ c.requires

pub returns : goal.returns
returns c = job-replaced c.args.b.now (λ i. omega (arith, c.slice_known-1.given i)) c.requires c.args.job c.store_job.ensures.held_len.0
    c.store_job.ensures.held_len.1 c.store_job.ensures.b_after
