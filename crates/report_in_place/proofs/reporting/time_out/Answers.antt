-- `reporting::time_out` meets its contract: the result of the job's payload, and no job.
use Prim.Native.Nat.{ℕ}
use mathlib.Core.Path.{ap}
use Rattle.state.specs.Change.{changed_in}
use Rattle.state.specs.State.{no_job, with_result, with_job}
use Rattle.rendezvous.specs.Rendezvous.{timed_out}
use Rattle.state_bytes.specs.Stored.{state_in}
use Rattle.state_bytes.proofs.Laws.{state-length}
use Rattle.in_place.proofs.Laws.{ranges-of, holds_as, job-after}
use Rattle.report_in_place.proofs.reporting.time_out.Goals as goal

pub set_result_in-requires : goal.set_result_in-requires
set_result_in-requires c = (c.requires.0, (ranges-of _ (state-length _ c.requires.0) c.requires.1).few)

pub returns : goal.returns
unfolding timed_out
returns c = let s = state_in c.args.b.now in
    holds_as (job-after c.set_result_in.ensures c.put_job.ensures c.none-none.ensures)
    (ap (λ (slot : ℕ). with_job no_job (changed_in (with_result 16) s slot)) c.requires.2)

pub put_job-requires : goal.put_job-requires
put_job-requires c = c.set_result_in.ensures.whole
